use Rattle.std.proofs.Common.{◌≡◌, ◌∙◌, ℕ, length, IsTrue, subst, sym, ap, arith, inl, inr, refl, false}
use Rattle.std.proofs.lemmas.Bool.{cases_eq}
use Rattle.std.proofs.lemmas.List.Elements.{All-from_get_or}
use Rattle.gaz_outside.proofs.Runs.{any_start, any_run}
use Rattle.gaz_pool.specs.declared.frame.Frame.{Frame}
use Rattle.gaz_pool.specs.Frames.{blank, frame_at, is_beside}
use Rattle.gaz_pool.specs.Sides.{side_area}
use Rattle.gaz_pool.proofs.Lists.{pages_long}
use Rattle.gaz_pool.proofs.pool.FramePool.flush.Goals as goal

pub loop-place-init : goal.loop-place-init
loop-place-init g c =
    let view = g.T.Station.view in
    record {
      still = λ told agrees. record { agrees = agrees; gives = λ side page. refl };
      settled = λ i below. absurd (omega (arith, below));
      confined = λ told. any_start (side_area c.args.side) (view c.args.station.now) (λ o left. g.met.T.Station.only_now c.args.station.now o told left);
      pages = refl;
      room = refl;
      counts = record { told = refl; reads_grow = omega arith; reads = omega arith; writes_grow = omega arith; writes = omega arith };
      faults = refl;
    }

-- one frame more
pub loop-place-preserved : goal.loop-place-preserved
loop-place-preserved g c =
    let view = g.T.Station.view in
    let held = c.loop-place.invariant in
    let cleaned = c.in_ok-clean_of.ensures in
    let old = view c.args.station.now in
    let mid = view c.loop-place.station in
    let new = view c.clean_of.new.station in
    let frames = c.clean_of.new.self.table.frames.items in
    let first = held.counts in
    let second = cleaned.counts in
    record {
      still = λ told agrees.
          let before = held.still told agrees in
          let after = cleaned.still (subst IsTrue (sym held.counts.told) told) before.agrees in
          record { agrees = after.agrees; gives = λ side page. after.gives side page ∙ before.gives side page };
      settled = λ i below of.
          elim (cases_eq i c.loop-place.place) [
            | inl same ↦ subst (λ (k : ℕ). is_beside c.args.side (frame_at frames k) ≡ false → (frame_at frames k).waits ≡ false) (sym same) cleaned.idle of
            | inr away ↦ subst (λ (f : Frame). is_beside c.args.side f ≡ false → f.waits ≡ false) (sym (cleaned.others i away)) (held.settled i (omega (arith, below, away))) of
          ];
      confined = λ told. any_run old mid new (side_area c.args.side) (held.confined told) (cleaned.confined (subst IsTrue (sym held.counts.told) told));
      pages = cleaned.pages ∙ held.pages;
      room = cleaned.room ∙ held.room;
      counts = record {
        told = second.told ∙ first.told;
        reads_grow = omega (arith, first.reads_grow, second.reads_grow);
        reads = omega (arith, first.reads, second.reads);
        writes_grow = omega (arith, first.writes_grow, second.writes_grow);
        writes = omega (arith, first.writes, second.writes);
      };
      faults = cleaned.cause.kept ∙ held.faults;
    }

pub returns-in_err-clean_of-clause-confined : goal.returns-in_err-clean_of-clause-confined
returns-in_err-clean_of-clause-confined g c told =
    let view = g.T.Station.view in
    let held = c.loop-place.invariant in
    any_run (view c.args.station.now) (view c.loop-place.station) (view c.clean_of.new.station) (side_area c.args.side) (held.confined told)
    (c.clean_of.ensures.confined (subst IsTrue (sym held.counts.told) told))

pub returns-clause-settled : goal.returns-clause-settled
returns-clause-settled g c =
    let frames = c.loop-place.self.table.frames.items in
    All-from_get_or (λ (f : Frame). is_beside c.args.side f ≡ false → f.waits ≡ false) frames blank (λ i below. c.loop-place.invariant.settled i
    (omega (arith, below, c.loop-place-test.false, c.len-place-end.ensures, ap length c.loop-place.invariant.pages, pages_long frames, pages_long c.args.self.now.table.frames.items)))
