use Rattle.std.proofs.Common.{◌≡◌, ◌∙◌, ℕ, List, refl, ap, subst, sym, IsTrue}
use Rattle.std.proofs.lemmas.Result.{on_ok_weaker}
use Rattle.gaz_outside.specs.declared.station.Area.{Area}
use Rattle.gaz_page.specs.Area.{page_at}
use Rattle.gaz_places.specs.Places.{found_in}
use Rattle.gaz_pool.specs.Frames.{pages_in, pooled, Agrees, StillAgrees}
use Rattle.gaz_pool.specs.Reads.{only_reads_on}
use Rattle.gaz_pool.specs.Sides.{side_area}
use Rattle.gaz_pool.proofs.Found.{found_once}
use Rattle.gaz_pool.proofs.Giving.{unheld_page, gives_put}
use Rattle.gaz_pool.proofs.Writing.{waits_read, waits_reads}
use Rattle.gaz_pool.proofs.pool.FramePool.fetch.Goals as goal

-- the page is as its area has it
pub returns-in-Ok-clause-bytes : goal.returns-in-Ok-clause-bytes
returns-in-Ok-clause-bytes g c =
    let table = c.args.self.now.table in
    let frames = table.frames.items in
    let areas = (g.T.Station.view c.args.station.now).bytes in
    on_ok_weaker c.hold.result (λ same told agrees.
    same ∙ c.in-Ok.ensures.bytes told
    ∙ sym (unheld_page frames areas c.args.side c.args.page (found_once (found_in table.places) (pages_in frames) table.found) c.requires.new))
    c.hold.ensures.asked

pub returns-in-Ok-clause-still : goal.returns-in-Ok-clause-still
returns-in-Ok-clause-still g c =
    let view = g.T.Station.view in
    let table = c.args.self.now.table in
    let frames = table.frames.items in
    let new = c.hold.new.self.table.frames.items in
    let areas = (view c.args.station.now).bytes in
    let mid = (view c.read_page.new.station).bytes in
    let reads = c.read_page.ensures.reads in
    let once = found_once (found_in table.places) (pages_in frames) table.found in
    on_ok_weaker c.hold.result (λ puts told agrees.
    let same : areas ≡ mid = λ i a. sym ((reads.areas told).bytes a) i in
    let now : IsTrue (view c.read_page.new.station).is_told = subst IsTrue (sym reads.counts.told) told in
    let is = c.in-Ok.ensures.bytes told in
    let put = puts now (subst (Agrees frames) same agrees) (λ idle. is ∙ ap (λ (file : Area → List ℕ). page_at (file (side_area c.args.side)) c.args.page) same) in
    subst (λ (file : Area → List ℕ). StillAgrees frames file new (view c.hold.new.station).bytes) (sym same)
    (gives_put c.args.side c.args.page c.in-Ok.bytes frames new mid (view c.hold.new.station).bytes put
    (is ∙ sym (unheld_page frames areas c.args.side c.args.page once c.requires.new) ∙ ap (λ (file : Area → List ℕ). pooled frames file c.args.side c.args.page) same)))
    c.hold.ensures.puts

pub returns-in-Ok-clause-none : goal.returns-in-Ok-clause-none
returns-in-Ok-clause-none g c = on_ok_weaker c.hold.result (λ none all. none all refl) c.hold.ensures.none

pub returns-in-Ok-clause-reads : goal.returns-in-Ok-clause-reads
returns-in-Ok-clause-reads g c none =
    let view = g.T.Station.view in
    only_reads_on (view c.args.station.now) (view c.read_page.new.station) (view c.hold.new.station) c.read_page.ensures.reads (c.hold.ensures.reads none)

-- what is written is what is given up
pub returns-in-Ok-clause-confined : goal.returns-in-Ok-clause-confined
returns-in-Ok-clause-confined g c told =
    let view = g.T.Station.view in
    let reads = c.read_page.ensures.reads in
    waits_read c.args.self.now.table.frames.items (view c.args.station.now) (view c.read_page.new.station) (view c.hold.new.station) (reads.areas told)
    (c.hold.ensures.confined (subst IsTrue (sym reads.counts.told) told))

pub returns-in-Err-clause-confined : goal.returns-in-Err-clause-confined
returns-in-Err-clause-confined g c told =
    let view = g.T.Station.view in
    waits_reads c.args.self.now.table.frames.items (view c.args.station.now) (view c.read_page.new.station) (c.read_page.ensures.reads.areas told)
