use Rattle.std.proofs.Common.{◌≡◌, ◌∙◌, false, List, subst, sym}
use Rattle.std.proofs.lemmas.List.Elements.{All-push}
use Rattle.gaz_places.specs.Places.{found_in}
use Rattle.gaz_pool.specs.declared.frame.Frame.{Frame}
use Rattle.gaz_pool.specs.Frames.{pages_in, NoneWaits, PutsPage}
use Rattle.gaz_pool.proofs.Found.{found_once}
use Rattle.gaz_pool.proofs.Giving.{puts_pushed}
use Rattle.gaz_pool.proofs.pool.FramePool.add.Goals as goal

-- the page comes behind the others
pub returns-clause-puts : goal.returns-clause-puts
returns-clause-puts c areas agrees clean =
    let table = c.args.self.now.table in
    let frames = table.frames.items in
    subst (λ (l : List Frame). PutsPage c.args.frame.side c.args.frame.page c.args.frame.bytes frames areas l areas) (sym (c.ask.ensures.frames ∙ c.push.ensures.frames))
    (puts_pushed frames c.args.frame areas (found_once (found_in table.places) (pages_in frames) table.found) c.requires.new clean agrees)

pub returns-clause-none : goal.returns-clause-none
returns-clause-none c none idle =
    let frames = c.args.self.now.table.frames.items in
    subst NoneWaits (sym (c.ask.ensures.frames ∙ c.push.ensures.frames)) (All-push (λ (f : Frame). f.waits ≡ false) frames c.args.frame none idle)
