use Rattle.std.proofs.Common.{◌<◌, ◌^◌, length, arith}
use Rattle.std.proofs.lemmas.List.{length-map}
use Rattle.gaz_redo.specs.Slots.{slot_of, slots_in}
use Rattle.gaz_redo.proofs.ImageEdits.{few_images}
use Rattle.gaz_redo.proofs.images.Images.as_slice.Goals as goal

-- homes that rise are few
pub returns-clause-few : goal.returns-clause-few
returns-clause-few c =
    let items = c.self.inside.list.items in
    let few : length (slots_in items) < 2 ^ 40 = few_images (slots_in items) c.self.invariant in
    rw c.deref.ensures.value (omega (arith, few, length-map items slot_of))
