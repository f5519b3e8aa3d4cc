use Rattle.std.proofs.Common.{◌≡◌, ◌∙◌, ◌+◌, ◌<◌, true, inl, inr, ⊎_elim, refl, sym, ap, subst, arith, ℕ}
use Rattle.gaz_pool.specs.Clock.{round_of, hand_of, is_recent, behind}
use Rattle.gaz_pool.proofs.Round.{IsPassed, IsAt, step_on, passed_on, not_passed, hand_passed, all_passed, still_passed, none_passed}
use Rattle.gaz_pool.proofs.clock.Clock.turn.Goals as goal

pub loop-init : goal.loop-init
loop-init c =
    let self = c.args.self.now in
    record {
      whole = refl;
      at = inl (omega (arith, self.within), omega arith);
      passed = λ place within passed. absurd (none_passed (round_of self) (hand_of self) place self.within within passed);
      ahead = λ place within isnt. refl;
    }

-- a frame that wasn't asked for
pub returns-then-not-recent-clause-idle : goal.returns-then-not-recent-clause-idle
returns-then-not-recent-clause-idle c =
    let self = c.args.self.now in
    let held = c.loop.invariant in
    let hand = hand_of c.loop.self in
    let few : c.loop.counter < round_of self = omega (arith, c.loop-test.true, c.len-end.ensures) in
    let there : hand < round_of self = omega (arith, c.loop.self.within, held.whole) in
    inl (ap (is_recent self) c.step-place.ensures.left
    ∙ sym (held.ahead hand there (not_passed (round_of self) (hand_of self) c.loop.counter hand self.within few held.at))
    ∙ sym c.step-place.ensures.recent ∙ c.if-not-recent.true)

-- one that was is passed by
pub loop-preserved : goal.loop-preserved
loop-preserved c =
    let self = c.args.self.now in
    let held = c.loop.invariant in
    let step = c.step-place.ensures in
    let round = round_of self in
    let from = hand_of self in
    let hand = hand_of c.loop.self in
    let few : c.loop.counter < round = omega (arith, c.loop-test.true, c.len-end.ensures) in
    let there : hand < round = omega (arith, c.loop.self.within, held.whole) in
    let own : is_recent self hand ≡ true =
    sym (held.ahead hand there (not_passed round from c.loop.counter hand self.within few held.at)) ∙ sym step.recent ∙ c.if-not-recent.false in
    let moved : hand_of c.step-place.new.self ≡ behind round hand = step.moves ∙ ap (λ (n : ℕ). behind n hand) held.whole in
    record {
      whole = step.round ∙ held.whole;
      at = subst (IsAt round from (c.loop.counter + 1)) (sym moved) (step_on round from c.loop.counter hand self.within few held.at);
      passed = λ place within passed. ⊎_elim
          (λ (same : place ≡ hand). ap (is_recent self) same ∙ own)
          (λ (before : IsPassed round from c.loop.counter place). held.passed place within before)
          (passed_on round from c.loop.counter hand place self.within few held.at passed within);
      ahead = λ place within isnt.
          step.others place (λ same. isnt (subst (IsPassed round from (c.loop.counter + 1)) (sym same) (hand_passed round from c.loop.counter hand self.within few held.at)))
          ∙ held.ahead place within (λ before. isnt (still_passed round from c.loop.counter place before));
    }

-- in a round all were passed
pub returns-clause-idle : goal.returns-clause-idle
returns-clause-idle c =
    let self = c.args.self.now in
    let held = c.loop.invariant in
    let whole : c.loop.counter ≡ round_of self = omega (arith, c.loop-test.false, c.len-end.ensures, c.loop.auto.counter-end) in
    inr (λ place within. held.passed place within (subst (λ (n : ℕ). IsPassed (round_of self) (hand_of self) n place) (sym whole) (all_passed (round_of self) (hand_of self) place self.within within)))
