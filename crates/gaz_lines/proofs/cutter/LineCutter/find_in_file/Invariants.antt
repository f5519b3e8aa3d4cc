use Rattle.std.proofs.Common.{◌≡◌, ◌+◌, ◌-◌, ◌⊎◌, length, cond}
use Rattle.gaz_outside.specs.Outside.{SameFiles, SameNumbers}
use Rattle.gaz_lines.specs.Window.{items}
use Rattle.gaz_lines.specs.Files.{left_at}
use Rattle.gaz_lines.specs.Cutter.{held, pending, place_of, HasEnded, ReadsFile, Waited}
use Rattle.gaz_lines.proofs.Reading.{Reading}
use Rattle.gaz_lines.proofs.cutter.LineCutter.find_in_file.Given as goal

abbrev pub invariant-loop-result : goal.invariant-loop-result
invariant-loop-result g l = record {
  reading : Reading l.fn.self l.self l.searched (left_at (g.F.Shelf.view l.fn.shelf) l.file (place_of l.fn.self)) (left_at (g.F.Shelf.view l.shelf) l.file (place_of l.self));
  waits : (l.shelf ≡ l.fn.shelf)
      ⊎ Waited l.fn.self.allowed 65536 (held l.fn.self) (pending l.fn.self (left_at (g.F.Shelf.view l.fn.shelf) l.file (place_of l.fn.self))) (left_at (g.F.Shelf.view l.shelf) l.file (place_of l.self));
  rests : HasEnded l.fn.self → (l.shelf ≡ l.fn.shelf) × HasEnded l.self;
  reads : ReadsFile l.self l.file;
  same : SameFiles (g.F.Shelf.view l.fn.shelf) (g.F.Shelf.view l.shelf);
  numbers : SameNumbers (g.F.Shelf.view l.fn.shelf) (g.F.Shelf.view l.shelf);
  blames : (g.F.Shelf.view l.shelf).last_fault ≡ (g.F.Shelf.view l.fn.shelf).last_fault;
  faults : (g.F.Shelf.view l.shelf).faults ≡ (g.F.Shelf.view l.fn.shelf).faults;
}

abbrev pub decreases-loop-result : goal.decreases-loop-result
decreases-loop-result g l = (l.self.allowed + 65536 - (l.self.dropped + length (items l.self.window))) + cond l.self.ended 0 1
