use Rattle.std.proofs.Common.{◌<◌, ◌^◌, ◌≡◌, true, arith}
use Rattle.gaz_redo.specs.Slots.{slots_in}
use Rattle.gaz_redo.specs.Content.{is_slot}
use Rattle.gaz_redo.specs.Images.{slot_for, home_number, IsPlaceOf}
use Rattle.gaz_redo.proofs.ImageEdits.{is_image, put_over, images_with}
use Rattle.gaz_redo.proofs.images.Images.write_over.Goals as goal

-- the image stands where that of the home stood
pub invariant_of-self : goal.invariant_of-self
invariant_of-self c =
    let items = c.self.inside.list.items in
    let s = slot_for c.args.home c.args.bytes.now in
    let small : c.args.home.page < 2 ^ 32 = omega arith in
    let is : is_slot s ≡ true = is_image c.args.home c.args.bytes.now c.requires.page small c.requires.size in
    let at : IsPlaceOf (home_number c.args.home.area c.args.home.page) (slots_in items) c.args.place = rw c.self.view_is c.requires.at in
    rw (put_over items c.self.invariant s is c.args.place c.fill.new.self c.fill.ensures at) (images_with s (slots_in items) is c.self.invariant)

pub returns : goal.returns
returns c =
    let items = c.self.inside.list.items in
    let s = slot_for c.args.home c.args.bytes.now in
    let small : c.args.home.page < 2 ^ 32 = omega arith in
    let is : is_slot s ≡ true = is_image c.args.home c.args.bytes.now c.requires.page small c.requires.size in
    let at : IsPlaceOf (home_number c.args.home.area c.args.home.page) (slots_in items) c.args.place = rw c.self.view_is c.requires.at in
    rw (← c.self.view_is) (put_over items c.self.invariant s is c.args.place c.fill.new.self c.fill.ensures at)
