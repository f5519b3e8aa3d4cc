use Rattle.std.proofs.Common.{◌≡◌, List, Some, sym, subst, rules}
use Rattle.gaz_page.specs.TreeRoot.{tree_root_bytes}
use Rattle.gaz_redo.specs.Slots.{Slot}
use Rattle.gaz_redo.specs.Images.{image_at, slot_for}
use Rattle.gaz_redo.proofs.ImageLaws.{after_set}
use Rattle.gaz_install.specs.Next.{root_home}
use Rattle.gaz_install.proofs.installing.prepare.Goals as goal

pub returns-in-Ok-clause-page : goal.returns-in-Ok-clause-page
returns-in-Ok-clause-page c =
    let page = tree_root_bytes c.args.root in
    subst (λ (ss : List Slot). image_at root_home ss ≡ Some page) (sym c.in-Ok.ensures.set) (after_set root_home (slot_for root_home page) c.args.images.now)

pub returns-in-Ok-clause-sayable : goal.returns-in-Ok-clause-sayable
returns-in-Ok-clause-sayable c = search rules
