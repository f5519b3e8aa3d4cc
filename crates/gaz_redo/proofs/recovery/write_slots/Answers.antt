use Rattle.std.proofs.Common.{◌≡◌, ◌<◌, ◌+◌, ◌*◌, ℕ, List, length, drop, get_or, IsTrue, ◌≤◌, refl, sym, ◌∙◌, ap, subst, arith}
use Rattle.std.proofs.lemmas.List.{take_all}
use Rattle.gaz_outside.specs.declared.station.Area.TheVariants.{Log}
use Rattle.gaz_outside.specs.Station.{pieces}
use Rattle.gaz_outside.proofs.Runs.{confined_start}
use Rattle.gaz_redo.specs.Batch.{held, once_out}
use Rattle.gaz_redo.specs.Group.{IsOfLog}
use Rattle.gaz_redo.specs.Slots.{Slot, Scattered, laid_in}
use Rattle.gaz_redo.specs.Content.{slots_of, slot_count}
use Rattle.gaz_redo.proofs.Batches.{laid_none, within_none, within_more, scattered_more, laid_next, same_bytes}
use Rattle.gaz_redo.proofs.Groups.{group_slot, none_held, log_stays, log_room}
use Rattle.gaz_redo.proofs.Laid.{scattered_same}
use Rattle.gaz_redo.proofs.SlotReads.{slot_here, length-slots_at}
use Rattle.gaz_redo.proofs.Steps.{then_stays, still}
use Rattle.gaz_redo.proofs.recovery.write_slots.Goals as goal

pub loop-k-init : goal.loop-k-init
loop-k-init g c =
    let v0 = g.T.Station.view c.args.station.now in
    let ss = slots_of (v0.bytes Log) in
    let batch = c.new-batch.result in
    record {
      placed = λ told a. laid_none batch.area batch.at (held batch) v0.bytes a c.new-batch.ensures.at c.new-batch.ensures.held;
      within = λ told. within_none batch ss c.new-batch.ensures.at c.new-batch.ensures.held;
      from = let low = c.new-group.result.ordered in omega (arith, low, c.new-group.ensures);
      next = omega (arith, c.new-group.ensures);
      fits = omega (arith, c.new-group.ensures);
      of_log = λ told. none_held c.new-group.result (v0.bytes Log) c.new-group.ensures;
      confined = λ told. confined_start (λ a. Scattered a ss) (scattered_same ss) v0 (λ o left. g.met.T.Station.only_now c.args.station.now o told left);
      counts = record { told = refl; reads_grow = omega arith; reads = omega arith; writes_grow = omega arith; writes = omega arith };
      writes = omega (arith, ap (λ (l : List ℕ). pieces (length l)) c.new-batch.ensures.held);
      faults = refl;
    }

pub returns-in_err-hold-clause-confined : goal.returns-in_err-hold-clause-confined
returns-in_err-hold-clause-confined g c told =
    let view = g.T.Station.view in
    let v0 = view c.args.station.now in
    let mid = view c.loop-k.station in
    let inv = c.loop-k.invariant in
    then_stays (slots_of (v0.bytes Log)) v0 mid (view c.hold.new.station) (inv.confined told) (c.hold.ensures.stays (still v0.is_told mid.is_told inv.counts.told told))

pub returns-in_err-put-clause-confined : goal.returns-in_err-put-clause-confined
returns-in_err-put-clause-confined g c told =
    let view = g.T.Station.view in
    let v0 = view c.args.station.now in
    let mid = view c.loop-k.station in
    let v1 = view c.hold.new.station in
    let inv = c.loop-k.invariant in
    let ss = slots_of (v0.bytes Log) in
    let told0 = still v0.is_told mid.is_told inv.counts.told told in
    let told1 = still mid.is_told v1.is_told c.hold.ensures.counts.told told0 in
    scattered_more c.loop-k.batch ss v0 v1 (view c.put.new.station) (inv.within told)
    (then_stays ss v0 mid v1 (inv.confined told) (c.hold.ensures.stays told0)) (c.put.ensures.confined told1)

pub loop-k-preserved : goal.loop-k-preserved
loop-k-preserved g c =
    let view = g.T.Station.view in
    let v0 = view c.args.station.now in
    let log = v0.bytes Log in
    let mid = view c.loop-k.station in
    let v1 = view c.hold.new.station in
    let k = c.loop-k.k in
    let inv = c.loop-k.invariant in
    let ss = slots_of log in
    let new = view c.put.new.station in
    let batch = c.loop-k.batch in
    let next = c.put.new.self in
    let group = c.hold.new.self in
    let home = c.slot.result.0 in
    let image = c.slot.result.1.now in
    let s : Slot = record { area = home.area; page = home.page; image = image } in
    let lt : k < c.args.count = omega arith in
    let one = c.hold.ensures.counts in
    let two = c.put.ensures.counts in
    let of_log : IsTrue v0.is_told → IsOfLog group log =
    λ told.
    let in_form = c.requires.in_form told in
    let same = log_stays v0 mid (inv.confined told) in
    let room : 16 + 4112 * c.args.count ≤ length (mid.bytes Log) = omega (arith, log_room v0 c.args.count in_form.0 in_form.1, ap length same) in
    subst (λ (l : List ℕ). IsOfLog group l) same
    (c.in_ok-hold.ensures.of_log (still v0.is_told mid.is_told inv.counts.told told) room (subst (λ (l : List ℕ). IsOfLog c.loop-k.group l) (sym same) (inv.of_log told))) in
    let here : IsTrue v0.is_told → (k < length ss) × (s ≡ get_or ss k s) =
    λ told. slot_here log c.args.count k s (c.requires.in_form told).1 lt (c.slot.ensures.shown ∙ group_slot group log k (of_log told) c.in_ok-hold.ensures.from c.in_ok-hold.ensures.held) in
    let piece : pieces (length image) ≡ 1 = ap pieces c.slot.ensures.size in
    record {
      placed = λ told a.
          let told0 = still v0.is_told mid.is_told inv.counts.told told in
          let told1 = still mid.is_told v1.is_told one.told told0 in
          laid_next ss k s (once_out batch v1.bytes) (once_out next new.bytes) a (v0.bytes a) (here told).0 (here told).1
          (same_bytes batch mid.bytes v1.bytes (c.hold.ensures.stays told0).bytes a ∙ inv.placed told a) (c.in_ok-put.ensures.placed told1 a);
      within = λ told. within_more ss k s batch next (here told).0 (here told).1 (inv.within told) c.in_ok-put.ensures.takes;
      from = omega (arith, c.in_ok-hold.ensures.from);
      next = omega (arith, c.in_ok-hold.ensures.held);
      fits = c.in_ok-hold.ensures.fits;
      of_log = of_log;
      confined = λ told.
          let told0 = still v0.is_told mid.is_told inv.counts.told told in
          let told1 = still mid.is_told v1.is_told one.told told0 in
          scattered_more batch ss v0 v1 new (inv.within told)
          (then_stays ss v0 mid v1 (inv.confined told) (c.hold.ensures.stays told0)) (c.put.ensures.confined told1);
      counts = record {
        told = two.told ∙ one.told ∙ inv.counts.told;
        reads_grow = omega (arith, two.reads_grow, one.reads_grow, inv.counts.reads_grow);
        reads = omega (arith, two.reads, c.in_ok-hold.ensures.reads, inv.counts.reads);
        writes_grow = omega (arith, two.writes_grow, one.writes_grow, inv.counts.writes_grow);
        writes = omega (arith, two.writes, one.writes, inv.writes);
      };
      writes = omega (arith, c.in_ok-put.ensures.writes, one.writes, inv.writes, piece);
      faults = c.in_ok-put.ensures.cause.kept ∙ c.in_ok-hold.ensures.cause.kept ∙ inv.faults;
    }

pub returns-clause-placed : goal.returns-clause-placed
returns-clause-placed g c told a =
    let view = g.T.Station.view in
    let v0 = view c.args.station.now in
    let mid = view c.loop-k.station in
    let log = v0.bytes Log in
    let inv = c.loop-k.invariant in
    let in_form = c.requires.in_form told in
    let all : length (slots_of log) ≤ c.loop-k.k = omega (arith, length-slots_at (slot_count log) (drop 16 log), in_form.1) in
    c.in_ok-write_out.ensures.placed (still v0.is_told mid.is_told inv.counts.told told) a ∙ inv.placed told a
    ∙ ap (λ (l : List Slot). laid_in a l (v0.bytes a)) (take_all c.loop-k.k (slots_of log) all)

pub returns-clause-confined : goal.returns-clause-confined
returns-clause-confined g c told =
    let view = g.T.Station.view in
    let v0 = view c.args.station.now in
    let mid = view c.loop-k.station in
    let inv = c.loop-k.invariant in
    scattered_more c.loop-k.batch (slots_of (v0.bytes Log)) v0 mid (view c.write_out.new.station) (inv.within told) (inv.confined told)
    (c.write_out.ensures.confined (still v0.is_told mid.is_told inv.counts.told told))

pub returns-in_err-write_out-clause-confined : goal.returns-in_err-write_out-clause-confined
returns-in_err-write_out-clause-confined g c told =
    let view = g.T.Station.view in
    let v0 = view c.args.station.now in
    let mid = view c.loop-k.station in
    let inv = c.loop-k.invariant in
    scattered_more c.loop-k.batch (slots_of (v0.bytes Log)) v0 mid (view c.write_out.new.station) (inv.within told) (inv.confined told)
    (c.write_out.ensures.confined (still v0.is_told mid.is_told inv.counts.told told))
