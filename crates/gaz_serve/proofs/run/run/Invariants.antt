use Rattle.std.proofs.Common.{◌≡◌, ◌⊎◌, ℕ, List, IsTrue}
use Rattle.std.specs.Prelude.{IfSome, []}
use Rattle.gaz_outside.specs.Outside.{SameNumbers, NoneOpen, left_of}
use Rattle.gaz_lines.specs.Cutter.{rest, pending, line_of, HasEnded, MayReadSource, line_limit_of, allowed_of}
use Rattle.gaz_lines.proofs.Told.{Told}
use Rattle.gaz_plain.specs.Gazetteer.{Gazetteer}
use Rattle.gaz_rows.specs.Content.{Mirrors}
use Rattle.gaz_turns.specs.Turns.{State}
use Rattle.gaz_serve.specs.Session.{IsOpen}
use Rattle.gaz_serve.specs.Ran.{IsHeard}
use Rattle.gaz_serve.proofs.Running.{UnderWay}
use Rattle.gaz_serve.proofs.Taken.{Counted}
use Rattle.gaz_serve.proofs.Telling.{Telling}
use Rattle.gaz_serve.proofs.run.run.Given as goal

abbrev pub invariant-loop-line : goal.invariant-loop-line
invariant-loop-line g l = record {
  way : IsTrue (g.T.Station.view l.fn.station).is_told → IsTrue (g.F.Shelf.view l.fn.shelf).is_told → (first : State) → Mirrors (g.T.Station.view l.fn.station).bytes first.gaz
      → UnderWay first (left_of (g.S.Source.view l.fn.source)) (rest l.cutter (left_of (g.S.Source.view l.source))) (line_of l.cutter) (g.F.Shelf.view l.fn.shelf) (g.F.Shelf.view l.shelf) (g.T.Station.view l.fn.station) (g.T.Station.view l.station);
  lasts : IsTrue (g.T.Station.view l.fn.station).is_told → (gaz : Gazetteer) → Mirrors (g.T.Station.view l.fn.station).bytes gaz → (now : Gazetteer) × Mirrors (g.T.Station.view l.station).bytes now;
  failures : Telling (g.F.Shelf.view l.fn.shelf) (g.F.Shelf.view l.shelf) (g.T.Station.view l.fn.station) (g.T.Station.view l.station);
  opened : IsOpen l.session (g.T.Station.view l.station);
  line_limit : line_limit_of l.cutter ≡ 4096;
  reads : MayReadSource l.cutter;
  ended : HasEnded l.cutter → IfSome (left_of (g.S.Source.view l.source)) (λ bytes. bytes ≡ []);
  counted : Counted (line_of l.cutter) (allowed_of l.cutter) (pending l.cutter (left_of (g.S.Source.view l.source))) (left_of (g.S.Source.view l.fn.source)) ⊎ HasEnded l.cutter;
  -- The lines that were given are the first of the source's, and the others are still to come.
  begun : (lines : List (List ℕ)) × IfSome (left_of (g.S.Source.view l.fn.source)) (λ text. Told 4096 lines (rest l.cutter (left_of (g.S.Source.view l.source))) text);
  heard : IsHeard 65536 (left_of (g.S.Source.view l.fn.source)) (left_of (g.S.Source.view l.source)) (line_of l.cutter);
  shelf_told : (g.F.Shelf.view l.shelf).is_told ≡ (g.F.Shelf.view l.fn.shelf).is_told;
  numbers : SameNumbers (g.F.Shelf.view l.fn.shelf) (g.F.Shelf.view l.shelf) ⊎ NoneOpen (g.F.Shelf.view l.shelf);
  source : (g.S.Source.view l.source).faults ≡ (g.S.Source.view l.fn.source).faults;
  station : (g.T.Station.view l.station).faults ≡ (g.T.Station.view l.fn.station).faults;
  told : (g.T.Station.view l.station).is_told ≡ (g.T.Station.view l.fn.station).is_told;
}

abbrev pub decreases-loop-line : goal.decreases-loop-line
decreases-loop-line g l = allowed_of l.cutter
