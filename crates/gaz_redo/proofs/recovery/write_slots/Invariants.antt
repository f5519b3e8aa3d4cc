use Rattle.std.proofs.Common.{◌≡◌, ◌+◌, ◌*◌, ◌≤◌, IsTrue, take}
use Rattle.gaz_outside.specs.declared.station.Area.{Area}
use Rattle.gaz_outside.specs.declared.station.Area.TheVariants.{Log}
use Rattle.gaz_outside.specs.Station.{Counts, Confined}
use Rattle.gaz_redo.specs.Batch.{once_out, writes_with}
use Rattle.gaz_redo.specs.Group.{IsOfLog}
use Rattle.gaz_redo.specs.Slots.{laid_in, Scattered}
use Rattle.gaz_redo.specs.Content.{slots_of}
use Rattle.gaz_redo.proofs.Batches.{IsWithin}
use Rattle.gaz_redo.proofs.recovery.write_slots.Given as goal

abbrev pub invariant-loop-k : goal.invariant-loop-k
invariant-loop-k g l =
    let view = g.T.Station.view in
    let v0 = view l.fn.station in
    record {
      placed : IsTrue v0.is_told → (a : Area) → once_out l.batch (view l.station).bytes a ≡ laid_in a (take l.k (slots_of (v0.bytes Log))) (v0.bytes a);
      within : IsTrue v0.is_told → IsWithin l.batch (slots_of (v0.bytes Log));
      from : l.group.first ≤ l.k;
      next : l.k ≤ l.group.end;
      fits : l.group.end ≤ l.count;
      of_log : IsTrue v0.is_told → IsOfLog l.group (v0.bytes Log);
      confined : IsTrue v0.is_told → Confined (λ a. Scattered a (slots_of (v0.bytes Log))) v0 (view l.station);
      counts : Counts (2 * l.group.end) l.k v0 (view l.station);
      writes : writes_with l.batch (view l.station) ≤ v0.writes + l.k;
      faults : (view l.station).faults ≡ v0.faults;
    }
