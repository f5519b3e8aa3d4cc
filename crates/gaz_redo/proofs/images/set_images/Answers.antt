use Rattle.gaz_redo.proofs.ImageLaws.{after_set}
use Rattle.gaz_redo.proofs.images.set_images.Goals as goal

pub returns : goal.returns
returns c = after_set
