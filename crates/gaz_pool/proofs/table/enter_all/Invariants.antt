use Rattle.std.proofs.Common.{◌≡◌, take}
use Rattle.gaz_places.specs.Places.{found_in, most_in}
use Rattle.gaz_pool.specs.Frames.{pages_in}
use Rattle.gaz_pool.specs.Table.{AreFound}
use Rattle.gaz_pool.proofs.table.enter_all.Given as goal

-- the frames before have their places
abbrev pub invariant-loop-place : goal.invariant-loop-place
invariant-loop-place l = record {
  found : AreFound (found_in l.places) (take l.place (pages_in l.fn.frames));
  most : most_in l.places ≡ most_in l.fn.places;
}
