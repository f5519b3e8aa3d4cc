-- Frames that hold other bytes of the same pages.
use Rattle.std.proofs.Common.{◌≡◌, ℕ, List, set, Option, sym, subst}
use Rattle.std.proofs.Math.Seq.{map-set_same}
use Rattle.gaz_pool.specs.declared.frame.Frame.{Frame}
use Rattle.gaz_pool.specs.Frames.{number_of, pages_in, frame_at, blank}
use Rattle.gaz_pool.specs.Table.{AreFound}

pub filled_pages : (frames : List Frame) (place : ℕ) (frame : Frame) → number_of frame ≡ number_of (frame_at frames place) → pages_in (set frames place frame) ≡ pages_in frames
filled_pages frames place frame same = map-set_same number_of frames place frame blank same

pub found_filled : (map : ℕ → Option ℕ) (frames : List Frame) (place : ℕ) (frame : Frame) → number_of frame ≡ number_of (frame_at frames place) → AreFound map (pages_in frames) → AreFound map (pages_in (set frames place frame))
found_filled map frames place frame same are = subst (AreFound map) (sym (filled_pages frames place frame same)) are
