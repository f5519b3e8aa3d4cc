use Rattle.std.proofs.Common.{ℕ, ◌≡◌, ◌*◌, ◌∙◌, true, List, length, set, refl, ap, subst, sym}
use Rattle.gaz_outside.specs.Station.{StationView, Outcome, Leaves, Writes, AnyIn, Confined, overlaid}
use Rattle.gaz_outside.proofs.Runs.{any_start, any_write}
use Rattle.gaz_places.specs.Places.{found_in}
use Rattle.gaz_pool.specs.declared.frame.Frame.{Frame}
use Rattle.gaz_pool.specs.Sides.{side_area}
use Rattle.gaz_pool.specs.Frames.{pages_in, frame_at, settled, StillAgrees}
use Rattle.gaz_pool.specs.Table.{OneEach}
use Rattle.gaz_pool.proofs.Found.{found_once}
use Rattle.gaz_pool.proofs.Giving.{settle_still}
use Rattle.gaz_pool.proofs.Lists.{frame_read}
use Rattle.gaz_pool.proofs.Pages.{filled_pages}
use Rattle.gaz_pool.proofs.Writing.{waits_start, waits_write}
use Rattle.gaz_pool.proofs.pool.FramePool.clean.Goals as goal

-- the page is held still
pub returns-in-Ok-clause-pages : goal.returns-in-Ok-clause-pages
returns-in-Ok-clause-pages g c =
    let frames = c.args.self.now.table.frames.items in
    ap pages_in c.settle.ensures.frames ∙ filled_pages frames c.args.place (settled (frame_at frames c.args.place)) refl

-- and the area has what the frame holds
pub returns-in-Ok-clause-still : goal.returns-in-Ok-clause-still
returns-in-Ok-clause-still g c told agrees =
    let table = c.args.self.now.table in
    let frames = table.frames.items in
    let place = c.args.place in
    let last = frame_at frames place in
    let areas = (g.T.Station.view c.args.station.now).bytes in
    let new = (g.T.Station.view c.write_page.new.station).bytes in
    let frame = c.index-frame.result.now in
    let is : last ≡ frame = frame_read frames place frame c.requires c.index-frame.ensures in
    let once : OneEach (pages_in frames) = found_once (found_in table.places) (pages_in frames) table.found in
    let after : OneEach (pages_in (set frames place (settled last))) = subst OneEach (sym (filled_pages frames place (settled last) refl)) once in
    let size : length frame.bytes ≡ 4096 = c.write_page.ensures.size in
    let whole : length last.bytes ≡ 4096 = ap (λ (f : Frame). length f.bytes) is ∙ size in
    let waits : last.waits ≡ true = ap (λ (f : Frame). f.waits) is ∙ c.if-frame.true in
    let own : new (side_area last.side) ≡ overlaid (areas (side_area last.side)) (4096 * last.page) last.bytes =
    subst (λ (f : Frame). new (side_area f.side) ≡ overlaid (areas (side_area f.side)) (4096 * f.page) f.bytes) (sym is) (c.in-Ok.ensures.written told) in
    subst (λ (l : List Frame). StillAgrees frames areas l new) (sym c.settle.ensures.frames)
    (settle_still frames place areas new once after c.requires whole waits own
    (λ a differs. ((c.write_page.ensures.changed told).others a (λ same. differs (same ∙ ap (λ (f : Frame). side_area f.side) (sym is)))).bytes)
    agrees)

-- At each moment its area alone changes.
only_by : (old new : StationView) (frames : List Frame) (place : ℕ) (frame : Frame) → frame_at frames place ≡ frame → ((c : Outcome) → old.left_since old.moment c → Leaves old c) → Writes (side_area frame.side) (4096 * frame.page) 4096 old new
    → Confined (AnyIn (side_area (frame_at frames place).side)) old new
only_by old new frames place frame is now writes =
    subst (λ (f : Frame). Confined (AnyIn (side_area f.side)) old new) (sym is)
    (any_write old old new (side_area frame.side) (4096 * frame.page) 4096 (any_start (side_area frame.side) old now) writes)

pub returns-in-Ok-clause-only : goal.returns-in-Ok-clause-only
returns-in-Ok-clause-only g c told =
    let view = g.T.Station.view in
    let frames = c.args.self.now.table.frames.items in
    let frame = c.index-frame.result.now in
    only_by (view c.args.station.now) (view c.write_page.new.station) frames c.args.place frame (frame_read frames c.args.place frame c.requires c.index-frame.ensures)
    (λ o left. g.met.T.Station.only_now c.args.station.now o told left) (c.write_page.ensures.changed told)

pub returns-in-Err-clause-only : goal.returns-in-Err-clause-only
returns-in-Err-clause-only g c told =
    let view = g.T.Station.view in
    let frames = c.args.self.now.table.frames.items in
    let frame = c.index-frame.result.now in
    only_by (view c.args.station.now) (view c.write_page.new.station) frames c.args.place frame (frame_read frames c.args.place frame c.requires c.index-frame.ensures)
    (λ o left. g.met.T.Station.only_now c.args.station.now o told left) (c.write_page.ensures.changed told)

pub returns-else-frame-clause-only : goal.returns-else-frame-clause-only
returns-else-frame-clause-only g c told =
    let last = frame_at c.args.self.now.table.frames.items c.args.place in
    any_start (side_area last.side) (g.T.Station.view c.args.station.now) (λ o left. g.met.T.Station.only_now c.args.station.now o told left)

pub returns-in-Ok-clause-confined : goal.returns-in-Ok-clause-confined
returns-in-Ok-clause-confined g c told =
    let view = g.T.Station.view in
    let frames = c.args.self.now.table.frames.items in
    let frame = c.index-frame.result.now in
    let is : frame_at frames c.args.place ≡ frame = frame_read frames c.args.place frame c.requires c.index-frame.ensures in
    waits_write frames c.args.place (view c.args.station.now) (view c.write_page.new.station) c.requires (ap (λ (f : Frame). f.waits) is ∙ c.if-frame.true)
    (only_by (view c.args.station.now) (view c.write_page.new.station) frames c.args.place frame is
    (λ o left. g.met.T.Station.only_now c.args.station.now o told left) (c.write_page.ensures.changed told))

pub returns-in-Err-clause-confined : goal.returns-in-Err-clause-confined
returns-in-Err-clause-confined g c told =
    let view = g.T.Station.view in
    let frames = c.args.self.now.table.frames.items in
    let frame = c.index-frame.result.now in
    let is : frame_at frames c.args.place ≡ frame = frame_read frames c.args.place frame c.requires c.index-frame.ensures in
    waits_write frames c.args.place (view c.args.station.now) (view c.write_page.new.station) c.requires (ap (λ (f : Frame). f.waits) is ∙ c.if-frame.true)
    (only_by (view c.args.station.now) (view c.write_page.new.station) frames c.args.place frame is
    (λ o left. g.met.T.Station.only_now c.args.station.now o told left) (c.write_page.ensures.changed told))

pub returns-else-frame-clause-confined : goal.returns-else-frame-clause-confined
returns-else-frame-clause-confined g c told =
    waits_start c.args.self.now.table.frames.items (g.T.Station.view c.args.station.now) (λ o left. g.met.T.Station.only_now c.args.station.now o told left)
