use Rattle.std.proofs.Common.{rules}
use Rattle.std.proofs.lemmas.List.Sorted.{answers_always}
use Rattle.gaz_redo.specs.declared.image.Image.{Image}
use Rattle.gaz_redo.specs.Images.{home_number}
use Rattle.gaz_redo.proofs.ImageEdits.{searched}
use Rattle.gaz_redo.proofs.images.Images.search.Goals as goal

-- the closure gives an image's number, and the slice is the list's items
pub returns : goal.returns
returns c =
    let facts = c.binary_search_by_key.ensures in
    let by_number = facts.position (λ (image : Image). home_number image.home.area image.home.page) (answers_always _ _ _ (λ f a r g called. search rules)) in
    rw (← c.self.view_is, ← c.deref.ensures.value) (searched c.deref.result.now (rw c.deref.ensures.value c.self.invariant) (home_number c.args.home.area c.args.home.page) _ facts.bound (rw (← c.number.ensures) by_number))
