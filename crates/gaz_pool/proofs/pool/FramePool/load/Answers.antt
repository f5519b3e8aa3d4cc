use Rattle.std.proofs.Common.{◌∙◌, ◌<◌, length, sym, arith}
use Rattle.std.proofs.lemmas.Result.{on_ok_weaker}
use Rattle.gaz_places.specs.Places.{found_in}
use Rattle.gaz_pool.specs.Frames.{pages_in}
use Rattle.gaz_pool.proofs.Found.{found_once}
use Rattle.gaz_pool.proofs.Giving.{held_page}
use Rattle.gaz_pool.proofs.Lists.{number_at, pages_long}
use Rattle.gaz_pool.proofs.Writing.{waits_start}
use Rattle.gaz_pool.proofs.pool.FramePool.load.Goals as goal

-- the frame that holds it has the page
pub returns-in-Some-clause-bytes : goal.returns-in-Some-clause-bytes
returns-in-Some-clause-bytes g c told agrees =
    let table = c.args.self.now.table in
    let frames = table.frames.items in
    let areas = (g.T.Station.view c.args.station.now).bytes in
    let place = c.in-Some.place in
    let here = c.in-Some.ensures.here in
    let within : place < length frames = omega (arith, here.0, pages_long frames) in
    c.ask.ensures.asked
    ∙ held_page frames areas place c.args.side c.args.page (found_once (found_in table.places) (pages_in frames) table.found) within
    (sym (number_at frames place within) ∙ here.1) agrees

pub returns-in-None-clause-taken : goal.returns-in-None-clause-taken
returns-in-None-clause-taken g c = on_ok_weaker c.fetch.result (λ taken isnt full. taken full) c.fetch.ensures.taken

pub returns-in-Some-clause-confined : goal.returns-in-Some-clause-confined
returns-in-Some-clause-confined g c told =
    waits_start c.args.self.now.table.frames.items (g.T.Station.view c.args.station.now) (λ o left. g.met.T.Station.only_now c.args.station.now o told left)
