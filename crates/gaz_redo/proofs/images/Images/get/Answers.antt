use Rattle.std.proofs.Common.{◌<◌, ◌^◌, ◌≡◌, ◌∙◌, Some, List, ℕ, arith, sym, ap}
use Rattle.gaz_redo.specs.Slots.{slots_in}
use Rattle.gaz_redo.specs.Images.{home_number, image_at, IsPlaceOf}
use Rattle.gaz_redo.proofs.ImageEdits.{get_here, no_image, gap_differs}
use Rattle.gaz_redo.proofs.images.Images.get.Goals as goal

-- the image at the place of the home
pub returns-in-Ok : goal.returns-in-Ok
returns-in-Ok c =
    let items = c.self.inside.list.items in
    let low : c.args.home.page < 2 ^ 32 = omega arith in
    let at : IsPlaceOf (home_number c.args.home.area c.args.home.page) (slots_in items) c.in-Ok.place = rw c.self.view_is c.in-Ok.ensures.found in
    let there : image_at c.args.home (slots_in items) ≡ Some c.index.result.now.bytes.items = get_here c.args.home items c.self.invariant c.in-Ok.place c.index.result.now low at c.index.ensures in
    ap (λ (bytes : List ℕ). Some bytes) c.as_slice.ensures.value ∙ sym (rw (← c.self.view_is) there)

-- a home that has a gap has no image
pub returns-in-Err : goal.returns-in-Err
returns-in-Err c = sym (no_image c.args.home c.args.self.now (gap_differs (home_number c.args.home.area c.args.home.page) c.args.self.now c.in-Err.field-0 c.in-Err.ensures.absent))
