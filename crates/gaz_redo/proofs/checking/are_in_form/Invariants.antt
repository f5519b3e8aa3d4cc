use Rattle.std.proofs.Common.{◌≡◌, ◌+◌, ◌-◌, ◌*◌, ◌^◌, ◌<◌, ◌≤◌, IsTrue, drop, length}
use Rattle.gaz_outside.specs.declared.station.Area.TheVariants.{Log}
use Rattle.gaz_outside.specs.Station.{Counts, Confined, area_place}
use Rattle.gaz_redo.specs.Slots.{SameBytes}
use Rattle.gaz_redo.specs.Passes.{end_at, slots_pass}
use Rattle.gaz_redo.proofs.InForm.{passes_from}
use Rattle.gaz_redo.proofs.checking.are_in_form.Given as goal

abbrev pub invariant-loop-k : goal.invariant-loop-k
invariant-loop-k g l =
    let view = g.T.Station.view in
    let v0 = view l.fn.station in
    record {
      same_test : IsTrue v0.is_told → 16 + 4112 * l.count ≤ length (v0.bytes Log)
          → slots_pass (end_at l.fn.from) l.count (drop 16 (v0.bytes Log)) ≡ passes_from (area_place l.last.area) l.last.page (end_at l.ends) (l.count - l.k) (drop (16 + 4112 * l.k) (v0.bytes Log));
      few : l.k ≤ 2 ^ 32 * area_place l.last.area + l.last.page;
      page : l.last.page < 2 ^ 32;
      confined : IsTrue v0.is_told → Confined SameBytes v0 (view l.station);
      counts : Counts l.k 0 v0 (view l.station);
      faults : (view l.station).faults ≡ v0.faults;
    }
