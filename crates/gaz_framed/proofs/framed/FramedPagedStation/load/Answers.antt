use Rattle.std.proofs.Common.{◌≤◌, ◌<◌, ℕ, IsTrue, sym, ◌∙◌, subst}
use Rattle.std.proofs.lemmas.List.{length-map}
use Rattle.std.proofs.lemmas.Result.{on_ok_weaker, on_err_weaker}
use Rattle.gaz_pool.specs.Frames.{number_of}
use Rattle.gaz_pool.specs.Pool.{room_in}
use Rattle.gaz_pool.specs.Sides.{side_area}
use Rattle.gaz_framed.proofs.Kept.{pooled_none, agrees_loaded}
use Rattle.gaz_framed.proofs.framed.FramedPagedStation.load.Goals as goal

pub invariant_of-self-clause-written : goal.invariant_of-self-clause-written
invariant_of-self-clause-written g c = c.load.ensures.none c.args.self.now.written

-- a frame that was filled is its page, and the others are theirs still
pub invariant_of-self-clause-current : goal.invariant_of-self-clause-current
invariant_of-self-clause-current g c told_now =
    let view = g.T.Station.view in
    let framed = c.args.self.now in
    let reads = c.load.ensures.reads framed.written in
    let told = subst IsTrue reads.counts.told told_now in
    agrees_loaded c.load.result framed.pool.table.frames.items c.load.new.self.table.frames.items (view framed.station).bytes (view c.load.new.station).bytes
    (on_ok_weaker c.load.result (λ still. still told (framed.current told)) c.load.ensures.still) (on_err_weaker c.load.result (λ kept. kept framed.written) c.load.ensures.fails)
    (λ side. (reads.areas told).bytes (side_area side)) (framed.current told)

-- no frame waits, so the page is as the area has it
pub returns-clause-bytes : goal.returns-clause-bytes
returns-clause-bytes g c =
    let framed = c.args.self.now in
    on_ok_weaker c.load.result (λ is told. is told (framed.current told) ∙ pooled_none framed.pool.table.frames.items (g.T.Station.view framed.station).bytes c.args.side c.args.page framed.written) c.load.ensures.bytes

-- as many pages are held as frames are filled
pub returns-clause-taken : goal.returns-clause-taken
returns-clause-taken g c =
    let frames = c.args.self.now.pool.table.frames.items in
    let long = length-map frames number_of in
    on_ok_weaker c.load.result (λ taken out full. let place = taken out (subst (λ (n : ℕ). room_in c.args.self.now.pool ≤ n) long full) in (place.0, subst (λ (n : ℕ). place.0 < n) (sym long) place.1, place.2)) c.load.ensures.taken
