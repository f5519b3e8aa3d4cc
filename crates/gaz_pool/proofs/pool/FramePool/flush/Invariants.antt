use Rattle.std.proofs.Common.{◌≡◌, ◌<◌, ℕ, false, IsTrue}
use Rattle.gaz_outside.specs.Station.{AnyIn, Confined, Counts}
use Rattle.gaz_pool.specs.Frames.{pages_in, frame_at, is_beside, Agrees, StillAgrees}
use Rattle.gaz_pool.specs.Pool.{frames_in, room_in}
use Rattle.gaz_pool.specs.Sides.{side_area}
use Rattle.gaz_pool.proofs.pool.FramePool.flush.Given as goal

-- the frames before wait no longer where they are of the side
abbrev pub invariant-loop-place : goal.invariant-loop-place
invariant-loop-place g l =
    let view = g.T.Station.view in
    record {
      still : IsTrue (view l.fn.station).is_told → Agrees (frames_in l.fn.self) (view l.fn.station).bytes → StillAgrees (frames_in l.fn.self) (view l.fn.station).bytes (frames_in l.self) (view l.station).bytes;
      settled : (i : ℕ) → i < l.place → is_beside l.fn.side (frame_at (frames_in l.self) i) ≡ false → (frame_at (frames_in l.self) i).waits ≡ false;
      confined : IsTrue (view l.fn.station).is_told → Confined (AnyIn (side_area l.fn.side)) (view l.fn.station) (view l.station);
      pages : pages_in (frames_in l.self) ≡ pages_in (frames_in l.fn.self);
      room : room_in l.self ≡ room_in l.fn.self;
      counts : Counts 0 l.place (view l.fn.station) (view l.station);
      faults : (view l.station).faults ≡ (view l.fn.station).faults;
    }
