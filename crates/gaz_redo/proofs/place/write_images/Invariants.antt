use Rattle.std.proofs.Common.{◌≡◌, ◌+◌, ◌≤◌, IsTrue, take}
use Rattle.gaz_outside.specs.declared.station.Area.{Area}
use Rattle.gaz_outside.specs.Station.{Counts, Confined}
use Rattle.gaz_redo.specs.Batch.{once_out, writes_with}
use Rattle.gaz_redo.specs.Slots.{slots_in, laid_in, Scattered}
use Rattle.gaz_redo.proofs.Batches.{IsWithin}
use Rattle.gaz_redo.proofs.place.write_images.Given as goal

abbrev pub invariant-loop-image : goal.invariant-loop-image
invariant-loop-image g l =
    let view = g.T.Station.view in
    record {
      placed : IsTrue (view l.fn.station).is_told → (a : Area) → once_out l.batch (view l.station).bytes a ≡ laid_in a (take l.image-index (slots_in l.images)) ((view l.fn.station).bytes a);
      within : IsWithin l.batch (slots_in l.images);
      confined : IsTrue (view l.fn.station).is_told → Confined (λ a. Scattered a (slots_in l.images)) (view l.fn.station) (view l.station);
      counts : Counts 0 l.image-index (view l.fn.station) (view l.station);
      writes : writes_with l.batch (view l.station) ≤ (view l.fn.station).writes + l.image-index;
      faults : (view l.station).faults ≡ (view l.fn.station).faults;
    }
