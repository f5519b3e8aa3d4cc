use Rattle.std.proofs.Common.{true, false, ◌≡◌, ◌<◌, ◌+◌, ◌-◌, ◌*◌, nat_le, ℕ, drop, refl, sym, ◌∙◌, ap, arith, rules}
use Rattle.gaz_outside.specs.declared.station.Area.TheVariants.{Log}
use Rattle.gaz_outside.specs.Station.{area_place}
use Rattle.gaz_outside.proofs.Runs.{confined_start}
use Rattle.gaz_redo.specs.Slots.{SameBytes}
use Rattle.gaz_redo.specs.Content.{is_plain}
use Rattle.gaz_redo.specs.Passes.{end_at, lies_before, end_with}
use Rattle.gaz_redo.proofs.InForm.{passes_from, passes_start, passes_end, head_step, few_places, place_rises, second_passed}
use Rattle.gaz_redo.proofs.Steps.{still, both_stay, counts_on}
use Rattle.gaz_redo.proofs.checking.are_in_form.Goals as goal

pub loop-k-init : goal.loop-k-init
loop-k-init g c =
    let v0 = g.T.Station.view c.args.station.now in
    let none : c.args.count - 0 ≡ c.args.count = omega arith in
    record {
      same_test = λ told long. passes_start (end_at c.args.from) c.args.count (drop 16 (v0.bytes Log)) ∙ ap (λ (n : ℕ). passes_from 0 0 (end_at c.args.from) n (drop 16 (v0.bytes Log))) (sym none);
      few = omega arith;
      page = omega arith;
      confined = λ told. confined_start SameBytes (λ a d. refl) v0 (λ o left. g.met.T.Station.only_now c.args.station.now o told left);
      counts = record { told = refl; reads_grow = omega arith; reads = omega arith; writes_grow = omega arith; writes = omega arith };
      faults = refl;
    }

pub returns-in_err-head-clause-stays : goal.returns-in_err-head-clause-stays
returns-in_err-head-clause-stays g c told =
    let v0 = g.T.Station.view c.args.station.now in
    let mid = g.T.Station.view c.loop-k.station in
    both_stay v0 mid (g.T.Station.view c.read_head.new.station) (c.loop-k.invariant.confined told) (c.read_head.ensures.stays (still v0.is_told mid.is_told c.loop-k.invariant.counts.told told))

pub returns-then-not-is_next-clause-stays : goal.returns-then-not-is_next-clause-stays
returns-then-not-is_next-clause-stays g c told =
    let v0 = g.T.Station.view c.args.station.now in
    let mid = g.T.Station.view c.loop-k.station in
    both_stay v0 mid (g.T.Station.view c.read_head.new.station) (c.loop-k.invariant.confined told) (c.read_head.ensures.stays (still v0.is_told mid.is_told c.loop-k.invariant.counts.told told))

pub returns-then-not-is_next-clause-form : goal.returns-then-not-is_next-clause-form
returns-then-not-is_next-clause-form g c told long =
    let v0 = g.T.Station.view c.args.station.now in
    let mid = g.T.Station.view c.loop-k.station in
    let log = v0.bytes Log in
    let k = c.loop-k.k in
    let lt : k < c.args.count = omega arith in
    let at_mid = still v0.is_told mid.is_told c.loop-k.invariant.counts.told told in
    let no : c.is_next.result ≡ false = search rules in
    sym (c.loop-k.invariant.same_test told long
    ∙ head_step log (mid.bytes Log) c.in_ok-head.head c.args.count k c.loop-k.last c.home_in-home.result (end_at c.loop-k.ends)
    (λ a. end_with c.home_in-home.result (end_at c.loop-k.ends a) a) c.is_next.result false lt long
    ((c.loop-k.invariant.confined told).bytes Log) (c.in_ok-head.ensures.head at_mid) c.home_in-home.ensures.area c.home_in-home.ensures.page (λ a home. refl) c.is_next.ensures no)

pub loop-k-preserved : goal.loop-k-preserved
loop-k-preserved g c =
    let v0 = g.T.Station.view c.args.station.now in
    let mid = g.T.Station.view c.loop-k.station in
    let log = v0.bytes Log in
    let k = c.loop-k.k in
    let lt : k < c.args.count = omega arith in
    let inv = c.loop-k.invariant in
    let one = c.read_head.ensures.counts in
    let last = c.loop-k.last in
    let home = c.home_in-home.result in
    let yes : c.is_next.result ≡ true = search rules in
    let behind : lies_before last home ≡ true =
    second_passed c.is_next.result (is_plain c.in_ok-head.head) (lies_before last home) (nat_le (4096 * home.page) (end_at c.loop-k.ends home.area)) c.is_next.ensures yes in
    record {
      same_test = λ told long.
          inv.same_test told long
          ∙ head_step log (mid.bytes Log) c.in_ok-head.head c.args.count k last home (end_at c.loop-k.ends) (end_at c.with-ends.result) c.is_next.result true lt long
          ((inv.confined told).bytes Log) (c.in_ok-head.ensures.head (still v0.is_told mid.is_told inv.counts.told told)) c.home_in-home.ensures.area c.home_in-home.ensures.page c.with-ends.ensures c.is_next.ensures yes;
      few = place_rises last home k inv.page behind inv.few;
      page = omega arith;
      confined = λ told. both_stay v0 mid (g.T.Station.view c.read_head.new.station) (inv.confined told) (c.read_head.ensures.stays (still v0.is_told mid.is_told inv.counts.told told));
      counts = counts_on k 1 v0 mid (g.T.Station.view c.read_head.new.station) inv.counts one;
      faults = c.in_ok-head.ensures.cause.kept ∙ inv.faults;
    }

pub returns-clause-few : goal.returns-clause-few
returns-clause-few g c passed =
    let inv = c.loop-k.invariant in
    let all : c.loop-k.k ≡ c.args.count = omega arith in
    few_places c.loop-k.last c.args.count inv.page (omega (arith, inv.few, all))

pub returns-clause-form : goal.returns-clause-form
returns-clause-form g c told long =
    let inv = c.loop-k.invariant in
    let log = (g.T.Station.view c.args.station.now).bytes Log in
    let none : c.args.count - c.loop-k.k ≡ 0 = omega arith in
    let rest = drop (16 + 4112 * c.loop-k.k) log in
    sym (inv.same_test told long
    ∙ ap (λ (n : ℕ). passes_from (area_place c.loop-k.last.area) c.loop-k.last.page (end_at c.loop-k.ends) n rest) none
    ∙ passes_end (area_place c.loop-k.last.area) c.loop-k.last.page (end_at c.loop-k.ends) rest)
