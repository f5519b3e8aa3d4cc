use Rattle.std.proofs.Common.{◌≡◌, ◌<◌, ◌≤◌, ◌++◌, [], List, ℕ, length, take, replicate, IsTrue, refl, sym, ◌∙◌, ap, subst, arith}
use Rattle.std.specs.List.{flat_map}
use Rattle.std.specs.Int.{w64, to_be_bytes}
use Rattle.std.proofs.lemmas.List.{length-map, take_all}
use Rattle.gaz_outside.specs.declared.station.Area.TheVariants.{Log}
use Rattle.gaz_outside.specs.Station.{overlaid, pieces}
use Rattle.gaz_outside.proofs.Runs.{any_run}
use Rattle.gaz_redo.specs.Batch.{held, once_out}
use Rattle.gaz_redo.specs.Slots.{Slot, slot_of, slots_in, StartsWith}
use Rattle.gaz_redo.specs.Content.{spelled_slot}
use Rattle.gaz_redo.proofs.Batches.{only_there, any_more}
use Rattle.gaz_redo.proofs.Laid.{slot_at_index}
use Rattle.gaz_redo.proofs.Written.{append_written, slots_more, length-front}
use Rattle.gaz_redo.proofs.Steps.{still}
use Rattle.gaz_redo.proofs.place.write_log.Goals as goal

pub returns-in_err-put-clause-confined : goal.returns-in_err-put-clause-confined
returns-in_err-put-clause-confined g c told =
    let view = g.T.Station.view in
    only_there c.new-batch.result Log (view c.args.station.now) (view c.put.new.station) c.new-batch.ensures.area (c.put.ensures.confined told)

pub loop-image-init : goal.loop-image-init
loop-image-init g c =
    let v0 = g.T.Station.view c.args.station.now in
    let v1 = g.T.Station.view c.put.new.station in
    let batch = c.new-batch.result in
    let next = c.put.new.self in
    let header = to_be_bytes w64 (length (slots_in c.args.images.now)) ++ replicate 8 0 in
    let counted : length (slots_in c.args.images.now) ≡ length c.args.images.now = length-map c.args.images.now slot_of in
    let is : c.log_head.result ≡ header = c.log_head.ensures ∙ ap (λ (n : ℕ). to_be_bytes w64 n ++ replicate 8 0) (sym counted) in
    let none : pieces (length (held batch)) ≡ 0 = ap (λ (l : List ℕ). pieces (length l)) c.new-batch.ensures.held in
    let one : pieces (length c.log_head.result) ≡ 1 = ap (λ (l : List ℕ). pieces (length l)) is in
    let counts = c.put.ensures.counts in
    let log0 = once_out batch v0.bytes Log in
    record {
      place = refl;
      area = c.in_ok-put.ensures.takes.0;
      logged = λ told. append_written [] header log0 (once_out next v1.bytes Log) 0 refl (log0, refl)
          (c.in_ok-put.ensures.placed told Log ∙ ap (λ (b : List ℕ). overlaid log0 0 b) is);
      confined = λ told. only_there batch Log v0 v1 c.new-batch.ensures.area (c.put.ensures.confined told);
      counts = record {
        told = counts.told;
        reads_grow = counts.reads_grow;
        reads = counts.reads;
        writes_grow = counts.writes_grow;
        writes = omega (arith, counts.writes, none);
      };
      writes = omega (arith, c.in_ok-put.ensures.writes, none, one);
      faults = c.in_ok-put.ensures.cause.kept;
    }

pub returns-in_err-put_slot-clause-confined : goal.returns-in_err-put_slot-clause-confined
returns-in_err-put_slot-clause-confined g c told =
    let v0 = g.T.Station.view c.args.station.now in
    let mid = g.T.Station.view c.loop-image.station in
    any_run v0 mid (g.T.Station.view c.put_slot.new.station) Log (c.loop-image.invariant.confined told)
    (c.put_slot.ensures.confined (still v0.is_told mid.is_told c.loop-image.invariant.counts.told told))

pub loop-image-preserved : goal.loop-image-preserved
loop-image-preserved g c =
    let v0 = g.T.Station.view c.args.station.now in
    let mid = g.T.Station.view c.loop-image.station in
    let new = g.T.Station.view c.put_slot.new.station in
    let images = c.args.images.now in
    let ss = slots_in images in
    let header = to_be_bytes w64 (length ss) ++ replicate 8 0 in
    let k = c.loop-image.image-index in
    let inv = c.loop-image.invariant in
    let lt : k < length images = omega arith in
    let lt_slots : k < length ss = omega (arith, length-map images slot_of) in
    let is = slot_at_index images k c.image-item.result lt c.image-item.is in
    let at_mid : IsTrue v0.is_told → IsTrue mid.is_told = λ told. still v0.is_told mid.is_told inv.counts.told told in
    let one = c.put_slot.ensures.counts in
    let front = header ++ flat_map spelled_slot (take k ss) in
    let place : length front ≡ c.loop-image.at = length-front images k lt ∙ sym inv.place in
    record {
      place = omega (arith, inv.place);
      area = c.in_ok-put_slot.ensures.area;
      logged = λ told. subst (λ (l : List ℕ). StartsWith l (once_out c.put_slot.new.batch new.bytes Log)) (slots_more header ss k (slot_of c.image-item.result) lt_slots is)
          (c.in_ok-put_slot.ensures.logged (at_mid told) front place (inv.logged told));
      confined = λ told. any_run v0 mid new Log (inv.confined told) (c.put_slot.ensures.confined (at_mid told));
      counts = record {
        told = one.told ∙ inv.counts.told;
        reads_grow = omega (arith, one.reads_grow, inv.counts.reads_grow);
        reads = omega (arith, one.reads, inv.counts.reads);
        writes_grow = omega (arith, one.writes_grow, inv.counts.writes_grow);
        writes = omega (arith, one.writes, inv.writes);
      };
      writes = omega (arith, c.in_ok-put_slot.ensures.writes, inv.writes);
      faults = c.in_ok-put_slot.ensures.cause.kept ∙ inv.faults;
    }

pub returns-clause-logged : goal.returns-clause-logged
returns-clause-logged g c told =
    let view = g.T.Station.view in
    let v0 = view c.args.station.now in
    let mid = view c.loop-image.station in
    let ss = slots_in c.args.images.now in
    let header = to_be_bytes w64 (length ss) ++ replicate 8 0 in
    let inv = c.loop-image.invariant in
    let all : length ss ≤ c.loop-image.image-index = omega (arith, length-map c.args.images.now slot_of) in
    let whole = ap (λ (l : List Slot). header ++ flat_map spelled_slot l) (take_all c.loop-image.image-index ss all) in
    subst (λ (l : List ℕ). StartsWith l ((view c.write_out.new.station).bytes Log)) whole
    (subst (λ (f : List ℕ). StartsWith (header ++ flat_map spelled_slot (take c.loop-image.image-index ss)) f)
    (sym (c.in_ok-write_out.ensures.placed (still v0.is_told mid.is_told inv.counts.told told) Log)) (inv.logged told))

pub returns-clause-confined : goal.returns-clause-confined
returns-clause-confined g c told =
    let view = g.T.Station.view in
    let v0 = view c.args.station.now in
    let mid = view c.loop-image.station in
    let inv = c.loop-image.invariant in
    any_more c.loop-image.batch Log v0 mid (view c.write_out.new.station) inv.area (inv.confined told)
    (c.write_out.ensures.confined (still v0.is_told mid.is_told inv.counts.told told))

pub returns-in_err-write_out-clause-confined : goal.returns-in_err-write_out-clause-confined
returns-in_err-write_out-clause-confined g c told =
    let view = g.T.Station.view in
    let v0 = view c.args.station.now in
    let mid = view c.loop-image.station in
    let inv = c.loop-image.invariant in
    any_more c.loop-image.batch Log v0 mid (view c.write_out.new.station) inv.area (inv.confined told)
    (c.write_out.ensures.confined (still v0.is_told mid.is_told inv.counts.told told))
