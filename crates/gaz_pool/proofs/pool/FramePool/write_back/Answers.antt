use Rattle.std.proofs.Common.{ℕ, ◌∙◌, ◌<◌, true, List, length, set, ap, subst, sym, refl, arith}
use Rattle.std.proofs.lemmas.Result.{on_ok_weaker}
use Rattle.gaz_places.specs.Places.{found_in}
use Rattle.gaz_redo.proofs.Steps.{true_not_false}
use Rattle.gaz_pool.specs.declared.frame.Frame.{Frame}
use Rattle.gaz_pool.specs.Frames.{pages_in, frame_at, filled, PutsPage}
use Rattle.gaz_pool.specs.Table.{OneEach}
use Rattle.gaz_pool.proofs.Found.{found_once}
use Rattle.gaz_pool.proofs.Giving.{puts_filled}
use Rattle.gaz_pool.proofs.Lists.{number_at, pages_long}
use Rattle.gaz_pool.proofs.Pages.{filled_pages}
use Rattle.gaz_pool.proofs.Writing.{waits_start}
use Rattle.gaz_pool.proofs.pool.FramePool.write_back.Goals as goal

-- the frame that holds it has the bytes
pub returns-in-Some-clause-puts : goal.returns-in-Some-clause-puts
returns-in-Some-clause-puts g c told agrees =
    let table = c.args.self.now.table in
    let frames = table.frames.items in
    let place = c.in-Some.place in
    let bytes = c.args.bytes.now in
    let areas = (g.T.Station.view c.args.station.now).bytes in
    let here = c.in-Some.ensures.here in
    let within : place < length frames = omega (arith, here.0, pages_long frames) in
    let once : OneEach (pages_in frames) = found_once (found_in table.places) (pages_in frames) table.found in
    let after : OneEach (pages_in (set frames place (filled bytes true (frame_at frames place)))) = subst OneEach (sym (filled_pages frames place (filled bytes true (frame_at frames place)) refl)) once in
    subst (λ (l : List Frame). PutsPage c.args.side c.args.page bytes frames areas l areas) (sym c.fill.ensures.frames)
    (puts_filled c.args.side c.args.page bytes frames place areas once after within (sym (number_at frames place within) ∙ here.1) agrees)

pub returns-in-Some-clause-held : goal.returns-in-Some-clause-held
returns-in-Some-clause-held g c held =
    let frames = c.args.self.now.table.frames.items in
    let place = c.in-Some.place in
    ap pages_in c.fill.ensures.frames ∙ filled_pages frames place (filled c.args.bytes.now true (frame_at frames place)) refl

pub returns-in-None-clause-taken : goal.returns-in-None-clause-taken
returns-in-None-clause-taken g c = on_ok_weaker c.hold.result (λ taken isnt full. taken full) c.hold.ensures.taken

pub returns-in-Some-clause-confined : goal.returns-in-Some-clause-confined
returns-in-Some-clause-confined g c told =
    waits_start c.args.self.now.table.frames.items (g.T.Station.view c.args.station.now) (λ o left. g.met.T.Station.only_now c.args.station.now o told left)

-- one that no frame held is held with the bytes
pub returns-in-None-clause-puts : goal.returns-in-None-clause-puts
returns-in-None-clause-puts g c =
    let view = g.T.Station.view in
    let frames = c.args.self.now.table.frames.items in
    let new = c.hold.new.self.table.frames.items in
    let areas = (view c.args.station.now).bytes in
    let after = (view c.hold.new.station).bytes in
    on_ok_weaker c.hold.result (λ puts told agrees.
    subst (λ (bytes : List ℕ). PutsPage c.args.side c.args.page bytes frames areas new after) c.page_of.ensures
    (puts told agrees (λ idle. absurd (true_not_false true refl idle))))
    c.hold.ensures.puts

pub returns-in-None-clause-added : goal.returns-in-None-clause-added
returns-in-None-clause-added g c = on_ok_weaker c.hold.result (λ added isnt empty. added empty) c.hold.ensures.added
