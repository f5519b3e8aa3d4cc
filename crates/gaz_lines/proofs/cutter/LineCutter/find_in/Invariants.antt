use Rattle.std.proofs.Common.{◌≡◌, ◌+◌, ◌-◌, ◌⊎◌, length, cond}
use Rattle.gaz_outside.specs.Outside.{left_of}
use Rattle.gaz_lines.specs.Window.{items}
use Rattle.gaz_lines.specs.Cutter.{held, pending, HasEnded, ReadsSource, Waited}
use Rattle.gaz_lines.proofs.Reading.{Reading}
use Rattle.gaz_lines.proofs.cutter.LineCutter.find_in.Given as goal

abbrev pub invariant-loop-result : goal.invariant-loop-result
invariant-loop-result g l = record {
  reading : Reading l.fn.self l.self l.searched (left_of (g.S.Source.view l.fn.source)) (left_of (g.S.Source.view l.source));
  waits : (l.source ≡ l.fn.source)
      ⊎ Waited l.fn.self.allowed 65536 (held l.fn.self) (pending l.fn.self (left_of (g.S.Source.view l.fn.source))) (left_of (g.S.Source.view l.source));
  rests : HasEnded l.fn.self → (l.source ≡ l.fn.source) × HasEnded l.self;
  reads : ReadsSource l.self;
  told : (g.S.Source.view l.source).is_told ≡ (g.S.Source.view l.fn.source).is_told;
  faults : (g.S.Source.view l.source).faults ≡ (g.S.Source.view l.fn.source).faults;
}

abbrev pub decreases-loop-result : goal.decreases-loop-result
decreases-loop-result g l = (l.self.allowed + 65536 - (l.self.dropped + length (items l.self.window))) + cond l.self.ended 0 1
