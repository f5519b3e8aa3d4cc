use Rattle.std.proofs.Common.{◌∙◌, ap, List, set, subst, sym}
use Rattle.std.proofs.lemmas.List.{map-set}
use Rattle.gaz_places.specs.Places.{found_in}
use Rattle.gaz_pool.specs.declared.frame.Frame.{Frame}
use Rattle.gaz_pool.specs.Frames.{number_of, pages_in, PutsPage}
use Rattle.gaz_pool.specs.Table.{OneEach}
use Rattle.gaz_pool.proofs.Found.{found_once}
use Rattle.gaz_pool.proofs.Giving.{puts_replaced}
use Rattle.gaz_pool.proofs.pool.FramePool.take_place.Goals as goal

-- the page stands where another stood
pub returns-clause-puts : goal.returns-clause-puts
returns-clause-puts c areas agrees clean =
    let table = c.args.self.now.table in
    let frames = table.frames.items in
    let new = c.replace.new.self in
    let after : OneEach (pages_in (set frames c.args.place c.args.frame)) =
    subst (λ (l : List Frame). OneEach (pages_in l)) c.replace.ensures.frames (found_once (found_in new.places) (pages_in new.frames.items) new.found) in
    subst (λ (l : List Frame). PutsPage c.args.frame.side c.args.frame.page c.args.frame.bytes frames areas l areas) (sym (c.ask.ensures.frames ∙ c.replace.ensures.frames))
    (puts_replaced frames c.args.place c.args.frame areas (found_once (found_in table.places) (pages_in frames) table.found) after c.requires.there c.requires.new c.requires.idle clean agrees)

pub returns-clause-taken : goal.returns-clause-taken
returns-clause-taken c =
    let frames = c.args.self.now.table.frames.items in
    (c.args.place, c.requires.there, ap pages_in (c.ask.ensures.frames ∙ c.replace.ensures.frames) ∙ map-set number_of frames c.args.place c.args.frame)
