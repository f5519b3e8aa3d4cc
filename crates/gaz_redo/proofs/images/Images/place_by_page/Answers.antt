use Rattle.std.proofs.Common.{◌≡◌, ◌<◌, List, length, slice_get, Some, refl, subst, rules, arith}
use Rattle.std.proofs.lemmas.Option.{slice_get_read}
use Rattle.gaz_redo.specs.declared.image.Image.{Image}
use Rattle.gaz_redo.specs.Images.{home_number}
use Rattle.gaz_redo.proofs.ImageEdits.{found_at}
use Rattle.gaz_redo.proofs.images.Images.place_by_page.Goals as goal

-- the image that stands there has the home's number
pub returns-then-number : goal.returns-then-number
returns-then-number c =
    let items = c.self.inside.list.items in
    let place = c.in_ok-place.field-0 in
    let image = c.in_ok-image.image.now in
    let lookup = c.in_ok-image.ensures.lookup in
    let within : place < length c.deref-2.result.now = omega (arith, lookup.0) in
    let there : slice_get items place ≡ Some image = subst (λ (xs : List Image). slice_get xs place ≡ Some image) c.deref-2.ensures.value (slice_get_read c.deref-2.result.now (length c.deref-2.result.now) place image refl within lookup.1) in
    rw (← c.self.view_is) (found_at items c.self.invariant (home_number c.args.home.area c.args.home.page) place image there (search rules))
