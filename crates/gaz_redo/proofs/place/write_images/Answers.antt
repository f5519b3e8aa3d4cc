use Rattle.std.proofs.Common.{◌≡◌, ◌<◌, ◌≤◌, ℕ, refl, ◌∙◌, ap, subst, arith, length, IsTrue, List}
use Rattle.std.proofs.lemmas.List.{length-map, take_all}
use Rattle.gaz_outside.proofs.Runs.{confined_start}
use Rattle.gaz_outside.specs.declared.station.Area.{Area}
use Rattle.gaz_outside.specs.Station.{pieces}
use Rattle.gaz_redo.specs.Batch.{held, once_out, laid_over, TakesIn}
use Rattle.gaz_redo.specs.Slots.{Slot, slot_of, slots_in, start_of, laid_in, Scattered}
use Rattle.gaz_redo.proofs.Batches.{laid_none, within_none, within_more, scattered_more, laid_next}
use Rattle.gaz_redo.proofs.Laid.{scattered_same, slot_at_index}
use Rattle.gaz_redo.proofs.Steps.{still}
use Rattle.gaz_redo.proofs.place.write_images.Goals as goal

pub loop-image-init : goal.loop-image-init
loop-image-init g c =
    let v0 = g.T.Station.view c.args.station.now in
    let batch = c.new-batch.result in
    record {
      placed = λ told a. laid_none batch.area batch.at (held batch) v0.bytes a c.new-batch.ensures.at c.new-batch.ensures.held;
      within = within_none batch (slots_in c.args.images.now) c.new-batch.ensures.at c.new-batch.ensures.held;
      confined = λ told. confined_start (λ a. Scattered a (slots_in c.args.images.now)) (scattered_same (slots_in c.args.images.now)) v0
          (λ o left. g.met.T.Station.only_now c.args.station.now o told left);
      counts = record { told = refl; reads_grow = omega arith; reads = omega arith; writes_grow = omega arith; writes = omega arith };
      writes = omega (arith, ap (λ (l : List ℕ). pieces (length l)) c.new-batch.ensures.held);
      faults = refl;
    }

pub returns-in_err-put-clause-confined : goal.returns-in_err-put-clause-confined
returns-in_err-put-clause-confined g c told =
    let view = g.T.Station.view in
    let ss = slots_in c.args.images.now in
    let inv = c.loop-image.invariant in
    let mid = view c.loop-image.station in
    scattered_more c.loop-image.batch ss (view c.args.station.now) mid (view c.put.new.station) inv.within (inv.confined told)
    (c.put.ensures.confined (still (view c.args.station.now).is_told mid.is_told inv.counts.told told))

pub loop-image-preserved : goal.loop-image-preserved
loop-image-preserved g c =
    let view = g.T.Station.view in
    let ss = slots_in c.args.images.now in
    let k = c.loop-image.image-index in
    let s = slot_of c.image-item.result in
    let inv = c.loop-image.invariant in
    let old = view c.args.station.now in
    let mid = view c.loop-image.station in
    let new = view c.put.new.station in
    let batch = c.loop-image.batch in
    let next = c.put.new.self in
    let lt : k < length c.args.images.now = omega arith in
    let lt_slots : k < length ss = omega (arith, length-map c.args.images.now slot_of) in
    let is = slot_at_index c.args.images.now k c.image-item.result lt c.image-item.is in
    let at_mid : IsTrue old.is_told → IsTrue mid.is_told = λ told. still old.is_told mid.is_told inv.counts.told told in
    let takes : TakesIn batch next s.area (start_of s) s.image =
    subst (λ (b : List ℕ). TakesIn batch next s.area (start_of s) b) c.deref.ensures.value c.in_ok-put.ensures.takes in
    let puts : IsTrue mid.is_told → (a : Area) → once_out next new.bytes a ≡ laid_over s.area (start_of s) s.image (once_out batch mid.bytes) a =
    λ told a. c.in_ok-put.ensures.placed told a ∙ ap (λ (b : List ℕ). laid_over s.area (start_of s) b (once_out batch mid.bytes) a) c.deref.ensures.value in
    let size : length c.deref.result.now ≡ 4096 = ap length c.deref.ensures.value ∙ c.image-item.result.whole in
    let one : pieces (length c.deref.result.now) ≡ 1 = ap pieces size in
    let counts = c.put.ensures.counts in
    record {
      placed = λ told a. laid_next ss k s (once_out batch mid.bytes) (once_out next new.bytes) a (old.bytes a) lt_slots is (inv.placed told a) (puts (at_mid told) a);
      within = within_more ss k s batch next lt_slots is inv.within takes;
      confined = λ told. scattered_more batch ss old mid new inv.within (inv.confined told) (c.put.ensures.confined (at_mid told));
      counts = record {
        told = counts.told ∙ inv.counts.told;
        reads_grow = omega (arith, counts.reads_grow, inv.counts.reads_grow);
        reads = omega (arith, counts.reads, inv.counts.reads);
        writes_grow = omega (arith, counts.writes_grow, inv.counts.writes_grow);
        writes = omega (arith, counts.writes, inv.writes);
      };
      writes = omega (arith, c.in_ok-put.ensures.writes, inv.writes, one);
      faults = c.in_ok-put.ensures.cause.kept ∙ inv.faults;
    }

pub returns-clause-placed : goal.returns-clause-placed
returns-clause-placed g c told a =
    let view = g.T.Station.view in
    let inv = c.loop-image.invariant in
    let old = view c.args.station.now in
    let mid = view c.loop-image.station in
    let all : length (slots_in c.args.images.now) ≤ c.loop-image.image-index = omega (arith, length-map c.args.images.now slot_of) in
    c.in_ok-write_out.ensures.placed (still old.is_told mid.is_told inv.counts.told told) a ∙ inv.placed told a
    ∙ ap (λ (l : List Slot). laid_in a l (old.bytes a)) (take_all c.loop-image.image-index (slots_in c.args.images.now) all)

pub returns-clause-confined : goal.returns-clause-confined
returns-clause-confined g c told =
    let view = g.T.Station.view in
    let ss = slots_in c.args.images.now in
    let inv = c.loop-image.invariant in
    let mid = view c.loop-image.station in
    scattered_more c.loop-image.batch ss (view c.args.station.now) mid (view c.write_out.new.station) inv.within (inv.confined told)
    (c.write_out.ensures.confined (still (view c.args.station.now).is_told mid.is_told inv.counts.told told))

pub returns-in_err-write_out-clause-confined : goal.returns-in_err-write_out-clause-confined
returns-in_err-write_out-clause-confined g c told =
    let view = g.T.Station.view in
    let ss = slots_in c.args.images.now in
    let inv = c.loop-image.invariant in
    let mid = view c.loop-image.station in
    scattered_more c.loop-image.batch ss (view c.args.station.now) mid (view c.write_out.new.station) inv.within (inv.confined told)
    (c.write_out.ensures.confined (still (view c.args.station.now).is_told mid.is_told inv.counts.told told))
