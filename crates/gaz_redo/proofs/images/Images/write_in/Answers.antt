use Rattle.std.proofs.Common.{◌<◌, ◌^◌, ◌≡◌, true, arith}
use Rattle.gaz_redo.specs.Slots.{slots_in}
use Rattle.gaz_redo.specs.Content.{is_slot}
use Rattle.gaz_redo.specs.Images.{slot_for, home_number, IsGapFor}
use Rattle.gaz_redo.proofs.ImageEdits.{is_image, put_in, images_with}
use Rattle.gaz_redo.proofs.images.Images.write_in.Goals as goal

-- the image stands in the gap
pub invariant_of-self-2 : goal.invariant_of-self-2
invariant_of-self-2 c =
    let items = c.self.inside.list.items in
    let s = slot_for c.args.home c.args.bytes.now in
    let small : c.args.home.page < 2 ^ 32 = omega arith in
    let is : is_slot s ≡ true = is_image c.args.home c.args.bytes.now c.requires.page small c.requires.size in
    let gap : IsGapFor (home_number c.args.home.area c.args.home.page) (slots_in items) c.args.place = rw c.self.view_is c.requires.gap in
    rw (c.in_ok-insert.ensures.items, put_in items c.self.invariant s is c.args.place c.in_ok-image.image c.in_ok-image.ensures gap) (images_with s (slots_in items) is c.self.invariant)

pub returns-clause-set : goal.returns-clause-set
returns-clause-set c =
    let items = c.self.inside.list.items in
    let s = slot_for c.args.home c.args.bytes.now in
    let small : c.args.home.page < 2 ^ 32 = omega arith in
    let is : is_slot s ≡ true = is_image c.args.home c.args.bytes.now c.requires.page small c.requires.size in
    let gap : IsGapFor (home_number c.args.home.area c.args.home.page) (slots_in items) c.args.place = rw c.self.view_is c.requires.gap in
    rw (← c.self.view_is) (rw c.in_ok-insert.ensures.items (put_in items c.self.invariant s is c.args.place c.in_ok-image.image c.in_ok-image.ensures gap))
