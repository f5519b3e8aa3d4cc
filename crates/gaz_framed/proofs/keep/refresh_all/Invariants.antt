use Rattle.std.proofs.Common.{◌≡◌, ◌*◌, take}
use Rattle.gaz_pool.specs.Frames.{NoneWaits}
use Rattle.gaz_pool.specs.Pool.{frames_in, room_in}
use Rattle.gaz_pool.specs.Sides.{side_area}
use Rattle.gaz_framed.specs.Kept.{Follows}
use Rattle.gaz_framed.proofs.keep.refresh_all.Given as goal

-- the frames follow the pages before
abbrev pub invariant-loop-n : goal.invariant-loop-n
invariant-loop-n l = record {
  follows : Follows (side_area l.fn.side) (4096 * l.fn.first) (take (4096 * l.n) l.fn.bytes) (frames_in l.fn.pool) (frames_in l.pool);
  none : NoneWaits (frames_in l.fn.pool) → NoneWaits (frames_in l.pool);
  room : room_in l.pool ≡ room_in l.fn.pool;
}
