use Rattle.std.proofs.Common.{◌∙◌, ◌<◌, Bool, length, set, ap, sym, arith}
use Rattle.gaz_places.specs.Places.{found_in}
use Rattle.gaz_pool.specs.declared.frame.Frame.{Frame}
use Rattle.gaz_pool.specs.Frames.{pages_in, frame_at, filled}
use Rattle.gaz_pool.proofs.Found.{found_once}
use Rattle.gaz_pool.proofs.Lists.{frame_read, number_at, pages_long}
use Rattle.gaz_pool.proofs.Refreshing.{refreshed_here, refreshed_none}
use Rattle.gaz_pool.proofs.pool.FramePool.refresh.Goals as goal

pub returns-in-Some-clause-frames : goal.returns-in-Some-clause-frames
returns-in-Some-clause-frames c =
    let table = c.args.self.now.table in
    let frames = table.frames.items in
    let place = c.in-Some.place in
    let here = c.in-Some.ensures.here in
    let within : place < length frames = omega (arith, here.0, pages_long frames) in
    let frame = c.index.result.now in
    c.fill.ensures.frames
    ∙ ap (λ (w : Bool). set frames place (filled c.args.bytes.now w (frame_at frames place))) (ap (λ (f : Frame). f.waits) (sym (frame_read frames place frame within c.index.ensures)))
    ∙ refreshed_here c.args.side c.args.page c.args.bytes.now frames place (found_once (found_in table.places) (pages_in frames) table.found) within (sym (number_at frames place within) ∙ here.1)

pub returns-in-None-clause-frames : goal.returns-in-None-clause-frames
returns-in-None-clause-frames c = refreshed_none c.args.side c.args.page c.args.bytes.now c.args.self.now.table.frames.items c.in-None.ensures.none
