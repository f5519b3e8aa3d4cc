-- What a pool holds.
use Rattle.std.specs.Prelude.{ℕ, List, replicate, slice_get, Option, Some, None}
use Rattle.gaz_pool.specs.declared.frame.Frame.{Frame}
use Rattle.gaz_pool.specs.declared.pool.FramePool.{FramePool}
use Rattle.gaz_pool.specs.Rooms.{most_of}

-- its frames that hold a page
abbrev pub frames_in : FramePool → List Frame
frames_in pool = pool.table.frames.items

-- how many frames it was given
abbrev pub room_in : FramePool → ℕ
room_in pool = most_of pool.table

-- the bytes of a frame, and zeros where there is none
abbrev pub bytes_or : Option Frame → List ℕ
bytes_or None = replicate 4096 0
bytes_or (Some frame) = frame.bytes

-- the bytes of the page that was asked for last
abbrev pub loaded_in : FramePool → List ℕ
loaded_in pool = bytes_or (slice_get pool.table.frames.items pool.asked)
