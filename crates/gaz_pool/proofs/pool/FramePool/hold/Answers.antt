use Rattle.std.proofs.Common.{ℕ, List, subst, sym}
use Rattle.gaz_places.specs.Places.{found_in}
use Rattle.gaz_pool.specs.Frames.{number_of, pages_in}
use Rattle.gaz_pool.specs.Table.{Has}
use Rattle.gaz_pool.proofs.Found.{found_once}
use Rattle.gaz_pool.proofs.Giving.{clean_still, puts_after}
use Rattle.gaz_pool.proofs.Writing.{waits_start}
use Rattle.gaz_pool.proofs.pool.FramePool.hold.Goals as goal

-- the frame that is given up is written out first, which changes no page
pub returns-in-Ok-clause-puts : goal.returns-in-Ok-clause-puts
returns-in-Ok-clause-puts g c told agrees clean =
    let view = g.T.Station.view in
    let old = c.args.self.now.table in
    let mid = c.clean.new.self.table in
    let areas = (view c.args.station.now).bytes in
    let new = (view c.clean.new.station).bytes in
    let frame = c.args.frame in
    let still = c.in-Ok.ensures.still told agrees in
    let isnt = c.requires.new in
    let still_isnt = subst (λ (l : List ℕ). Has l (number_of frame) → ⊥) (sym c.clean.ensures.pages) isnt in
    let clean_now = clean_still old.frames.items mid.frames.items areas new frame (found_once (found_in old.places) (pages_in old.frames.items) old.found)
    (found_once (found_in mid.places) (pages_in mid.frames.items) mid.found) isnt still_isnt still.gives clean in
    puts_after frame.side frame.page frame.bytes old.frames.items mid.frames.items c.take_place.new.self.table.frames.items areas new new still.gives
    (c.take_place.ensures.puts new still.agrees clean_now)

pub returns-then-not-is_full-clause-confined : goal.returns-then-not-is_full-clause-confined
returns-then-not-is_full-clause-confined g c told =
    waits_start c.args.self.now.table.frames.items (g.T.Station.view c.args.station.now) (λ o left. g.met.T.Station.only_now c.args.station.now o told left)
