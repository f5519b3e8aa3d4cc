-- How a run of calls on a station goes on.
use Rattle.std.proofs.Common.{Bool, IsTrue, ◌≡◌, ◌≢◌, ◌⊎◌, inl, inr, ⊎_elim, ℕ, List, refl, sym, ◌∙◌, subst, arith}
use Rattle.gaz_outside.specs.declared.station.Area.{Area}
use Rattle.gaz_outside.specs.Station.{StationView, Outcome, Leaves, Elapses, Stays, Writes, Torn, LeavesOnly, Near, Confined, AnyIn, OnlyIn, AreaStays, AreasStay, LeavesAreas, Appends, Counts, TornInTwo}
use Rattle.gaz_outside.specs.SameArea.{which}
use Rattle.gaz_outside.proofs.TornWrites.{torn_none}

-- before the first call
pub begins : (v : StationView) (P : Outcome → Type 0) → ((c : Outcome) → v.left_since v.moment c → P c) → LeavesOnly v v P
begins v P here = record { later = omega arith; each = here; before = λ t c le left. inl left }

-- one call more
pub goes_on : (old mid new : StationView) (P during : Outcome → Type 0) → LeavesOnly old mid P → Elapses mid new during → ((c : Outcome) → during c → P c) → LeavesOnly old new P
goes_on old mid new P during so_far time here = record {
  later = omega (arith, so_far.later, time.later);
  each = λ c left. ⊎_elim (so_far.each c) (here c) (time.nothing_else old.moment c so_far.later left);
  before = λ t c le left. ⊎_elim (so_far.before t c le) (λ now. inr (here c now)) (time.nothing_else t c (omega (arith, le, so_far.later)) left);
}

-- a run more
pub goes_far : (old mid new : StationView) (P Q : Outcome → Type 0) → LeavesOnly old mid P → LeavesOnly mid new Q → ((c : Outcome) → Q c → P c) → LeavesOnly old new P
goes_far old mid new P Q so_far run here = record {
  later = omega (arith, so_far.later, run.later);
  each = λ c left. ⊎_elim (so_far.each c) (λ q. here c q) (run.before old.moment c so_far.later left);
  before = λ t c le left. ⊎_elim (so_far.before t c le) (λ q. inr (here c q)) (run.before t c (omega (arith, le, so_far.later)) left);
}

module _ (R : Area → List ℕ → List ℕ → Type 0) (same : (a : Area) (d : List ℕ) → R a d d) where
  -- what a stop leaves now is near
  pub near_now : (v : StationView) (c : Outcome) → Leaves v c → Near R v c
  near_now v c leaves = record { areas = λ a. (c.areas a, leaves.areas a, same a (c.areas a)); text = leaves.text }

  -- no call yet
  pub confined_start : (v : StationView) → ((c : Outcome) → v.left_since v.moment c → Leaves v c) → Confined R v v
  confined_start v only = record {
    bytes = λ a. same a (v.bytes a);
    outcomes = λ a c may. (c, may, same a c);
    printed = refl;
    moments = begins v (Near R v) (λ c left. near_now v c (only c left));
  }

  module _ (on : (a : Area) (d e c : List ℕ) → R a d e → R a e c → R a d c) where
    -- what is near to what is near
    near_on : (old mid : StationView) (c : Outcome) → Confined R old mid → Near R mid c → Near R old c
    near_on old mid c so_far near = record {
      areas = λ a. let e = near.areas a in let d = so_far.outcomes a e.0 e.1 in (d.0, d.1, on a d.0 e.0 (c.areas a) d.2 e.2);
      text = near.text ∙ so_far.printed;
    }

    -- one run after another
    pub confined_on : (old mid new : StationView) → Confined R old mid → Confined R mid new → Confined R old new
    confined_on old mid new so_far run = record {
      bytes = λ a. on a (old.bytes a) (mid.bytes a) (new.bytes a) (so_far.bytes a) (run.bytes a);
      outcomes = λ a c may. let e = run.outcomes a c may in let d = so_far.outcomes a e.0 e.1 in (d.0, d.1, on a d.0 e.0 c d.2 e.2);
      printed = run.printed ∙ so_far.printed;
      moments = goes_far old mid new (Near R old) (Near R mid) so_far.moments run.moments (λ c near. near_on old mid c so_far near);
    }

    -- one call more, of which this is known
    confined_step : (old mid new : StationView) → Confined R old mid → ((a : Area) → R a (mid.bytes a) (new.bytes a)) → ((a : Area) (c : List ℕ) → new.may_leave a c → (d : List ℕ) × mid.may_leave a d × R a d c) → new.printed ≡ mid.printed → Elapses mid new (Leaves new) → Confined R old new
    confined_step old mid new so_far bytes outcomes printed time =
        let back : (a : Area) (c : List ℕ) → new.may_leave a c → (d : List ℕ) × old.may_leave a d × R a d c =
        λ a c may. let e = outcomes a c may in let d = so_far.outcomes a e.0 e.1 in (d.0, d.1, on a d.0 e.0 c d.2 e.2) in
        record {
          bytes = λ a. on a (old.bytes a) (mid.bytes a) (new.bytes a) (so_far.bytes a) (bytes a);
          outcomes = back;
          printed = printed ∙ so_far.printed;
          moments = goes_on old mid new (Near R old) (Leaves new) so_far.moments time (λ c leaves. record {
            areas = λ a. back a (c.areas a) (leaves.areas a);
            text = leaves.text ∙ printed ∙ so_far.printed;
          });
        }

    -- a call that changes nothing
    pub confined_stays : (old mid new : StationView) → Confined R old mid → Stays mid new → Confined R old new
    confined_stays old mid new so_far stays =
        confined_step old mid new so_far
        (λ a. subst (λ (f : List ℕ). R a (mid.bytes a) f) (sym (stays.areas a).bytes) (same a (mid.bytes a)))
        (λ a c may. (c, (stays.areas a).outcomes c may, same a c))
        stays.printed stays.time

    -- a write that R allows
    pub confined_write : (old mid new : StationView) (area : Area) (at n : ℕ) → ((a : Area) → (a ≡ area) ⊎ (a ≢ area)) → ((d c : List ℕ) → Torn at n d c → R area d c) → Confined R old mid → Writes area at n mid new → Confined R old new
    confined_write old mid new area at n which allowed so_far writes =
        confined_step old mid new so_far
        (λ a. ⊎_elim
        (λ is. subst (λ (b : Area). R b (mid.bytes b) (new.bytes b)) (sym is) (allowed (mid.bytes area) (new.bytes area) writes.torn))
        (λ other. subst (λ (f : List ℕ). R a (mid.bytes a) f) (sym (writes.others a other).bytes) (same a (mid.bytes a)))
        (which a))
        (λ a c may. ⊎_elim
        (λ is. subst (λ (b : Area). (d : List ℕ) × mid.may_leave b d × R b d c) (sym is)
        (let d = writes.outcomes c (subst (λ (b : Area). new.may_leave b c) is may) in (d.0, d.1, allowed d.0 c d.2)))
        (λ other. (c, (writes.others a other).outcomes c may, same a c))
        (which a))
        writes.printed writes.time

pub any_same : (area a : Area) (d : List ℕ) → AnyIn area a d d
any_same area a d other = refl

pub any_on : (area a : Area) (d e c : List ℕ) → AnyIn area a d e → AnyIn area a e c → AnyIn area a d c
any_on area a d e c first next other = next other ∙ first other

-- a run in one area begins, writes there, and syncs
pub any_start : (area : Area) (v : StationView) → ((c : Outcome) → v.left_since v.moment c → Leaves v c) → Confined (AnyIn area) v v
any_start area v only = confined_start (AnyIn area) (any_same area) v only

pub any_write : (old mid new : StationView) (area : Area) (at n : ℕ) → Confined (AnyIn area) old mid → Writes area at n mid new → Confined (AnyIn area) old new
any_write old mid new area at n so_far writes =
    confined_write (AnyIn area) (any_same area) (any_on area) old mid new area at n (λ a. which a area) (λ d c torn other. absurd (other refl)) so_far writes

pub any_stays : (old mid new : StationView) (area : Area) → Confined (AnyIn area) old mid → Stays mid new → Confined (AnyIn area) old new
any_stays old mid new area so_far stays = confined_stays (AnyIn area) (any_same area) (any_on area) old mid new so_far stays

-- what is known of less is known of more
pub leaves_weaker : (old new : StationView) (P Q : Outcome → Type 0) → ((c : Outcome) → P c → Q c) → LeavesOnly old new P → LeavesOnly old new Q
leaves_weaker old new P Q weaker run = record {
  later = run.later;
  each = λ c left. weaker c (run.each c left);
  before = λ t c le left. ⊎_elim (λ past. inl past) (λ p. inr (weaker c p)) (run.before t c le left);
}

pub confined_weaker : (S R : Area → List ℕ → List ℕ → Type 0) → ((a : Area) (d c : List ℕ) → S a d c → R a d c) → (old new : StationView) → Confined S old new → Confined R old new
confined_weaker S R weaker old new run = record {
  bytes = λ a. weaker a (old.bytes a) (new.bytes a) (run.bytes a);
  outcomes = λ a c may. let d = run.outcomes a c may in (d.0, d.1, weaker a d.0 c d.2);
  printed = run.printed;
  moments = leaves_weaker old new (Near S old) (Near R old)
      (λ c near. record { areas = λ a. let d = near.areas a in (d.0, d.1, weaker a d.0 (c.areas a) d.2); text = near.text }) run.moments;
}

pub any_run : (old mid new : StationView) (area : Area) → Confined (AnyIn area) old mid → Confined (AnyIn area) mid new → Confined (AnyIn area) old new
any_run old mid new area so_far run = confined_on (AnyIn area) (any_same area) (any_on area) old mid new so_far run

pub torn_on : (at n : ℕ) (d e c : List ℕ) → Torn at n d e → Torn at n e c → Torn at n d c
torn_on at n d e c first next = record {
  no_shorter = omega (arith, first.no_shorter, next.no_shorter);
  no_longer = omega (arith, first.no_longer, next.no_longer);
  same = λ i lt out. next.same i (omega (arith, lt, first.no_shorter)) out ∙ first.same i lt out;
}

one_same : (area : Area) (at n : ℕ) (a : Area) (d : List ℕ) → OnlyIn area (Torn at n) a d d
one_same area at n a d = ((λ is. torn_none at n d), (λ other. refl))

one_on : (area : Area) (at n : ℕ) (a : Area) (d e c : List ℕ) → OnlyIn area (Torn at n) a d e → OnlyIn area (Torn at n) a e c → OnlyIn area (Torn at n) a d c
one_on area at n a d e c first next = ((λ is. torn_on at n d e c (first.0 is) (next.0 is)), (λ other. next.1 other ∙ first.1 other))

-- one write, and calls behind it that change nothing
pub one_write : (area : Area) (at n : ℕ) (old new : StationView) → ((c : Outcome) → old.left_since old.moment c → Leaves old c) → Writes area at n old new → Confined (OnlyIn area (Torn at n)) old new
one_write area at n old new only writes =
    let start = confined_start (OnlyIn area (Torn at n)) (one_same area at n) old only in
    confined_write (OnlyIn area (Torn at n)) (one_same area at n) (one_on area at n) old old new area at n (λ a. which a area) (λ d c torn. ((λ is. torn), (λ other. absurd (other refl)))) start writes

pub one_stays : (area : Area) (at n : ℕ) (old mid new : StationView) → Confined (OnlyIn area (Torn at n)) old mid → Stays mid new → Confined (OnlyIn area (Torn at n)) old new
one_stays area at n old mid new so_far stays = confined_stays (OnlyIn area (Torn at n)) (one_same area at n) (one_on area at n) old mid new so_far stays

two_same : (first : Area) (at n : ℕ) (second : Area) (from m : ℕ) (a : Area) (d : List ℕ) → TornInTwo first at n second from m a d d
two_same first at n second from m a d = ((λ is. torn_none at n d), (λ is. torn_none from m d), (λ other apart. refl))

two_on : (first : Area) (at n : ℕ) (second : Area) (from m : ℕ) (a : Area) (d e c : List ℕ) → TornInTwo first at n second from m a d e → TornInTwo first at n second from m a e c → TornInTwo first at n second from m a d c
two_on first at n second from m a d e c before next =
    ((λ is. torn_on at n d e c (before.0 is) (next.0 is)), (λ is. torn_on from m d e c (before.1 is) (next.1 is)), (λ other apart. next.2 other apart ∙ before.2 other apart))

-- two writes to two areas begin
pub two_start : (first : Area) (at n : ℕ) (second : Area) (from m : ℕ) (v : StationView) → ((c : Outcome) → v.left_since v.moment c → Leaves v c) → Confined (TornInTwo first at n second from m) v v
two_start first at n second from m v only = confined_start (TornInTwo first at n second from m) (two_same first at n second from m) v only

pub two_first : (first : Area) (at n : ℕ) (second : Area) (from m : ℕ) → first ≢ second → (old mid new : StationView) → Confined (TornInTwo first at n second from m) old mid → Writes first at n mid new → Confined (TornInTwo first at n second from m) old new
two_first first at n second from m apart old mid new so_far writes =
    confined_write (TornInTwo first at n second from m) (two_same first at n second from m) (two_on first at n second from m) old mid new first at n (λ a. which a first)
    (λ d c torn. ((λ is. torn), (λ is. absurd (apart is)), (λ other _. absurd (other refl)))) so_far writes

pub two_second : (first : Area) (at n : ℕ) (second : Area) (from m : ℕ) → first ≢ second → (old mid new : StationView) → Confined (TornInTwo first at n second from m) old mid → Writes second from m mid new → Confined (TornInTwo first at n second from m) old new
two_second first at n second from m apart old mid new so_far writes =
    confined_write (TornInTwo first at n second from m) (two_same first at n second from m) (two_on first at n second from m) old mid new second from m (λ a. which a second)
    (λ d c torn. ((λ is. absurd (apart (sym is))), (λ is. torn), (λ _ other. absurd (other refl)))) so_far writes

-- An area stays over two calls.
pub area_stays_on : (old mid new : StationView) (a : Area) → AreaStays old mid a → AreaStays mid new a → AreaStays old new a
area_stays_on old mid new a first next = record { bytes = next.bytes ∙ first.bytes; outcomes = λ c may. first.outcomes c (next.outcomes c may) }

-- Time goes on over two calls.
elapses_on : (old mid new : StationView) (P Q : Outcome → Type 0) → Elapses old mid P → Elapses mid new Q → ((c : Outcome) → Q c → P c) → Elapses old new P
elapses_on old mid new P Q first next here = record {
  later = omega (arith, first.later, next.later);
  nothing_else = λ t c le left. ⊎_elim (first.nothing_else t c le) (λ q. inr (here c q)) (next.nothing_else t c (omega (arith, le, first.later)) left);
  keeps = λ t c le left. next.keeps t c (omega (arith, le, first.later)) (first.keeps t c le left);
}

pub areas_stay_same : (v : StationView) → AreasStay v v
areas_stay_same v = record {
  each = λ told a. record { bytes = refl; outcomes = λ c may. may };
  time = λ told. record { later = omega arith; nothing_else = λ t c le left. inl left; keeps = λ t c le left. left };
  unread = refl;
  unwritten = refl;
}

pub areas_stay_on : (old mid new : StationView) → mid.is_told ≡ old.is_told → AreasStay old mid → AreasStay mid new → AreasStay old new
areas_stay_on old mid new same first next = record {
  each = λ told a. area_stays_on old mid new a (first.each told a) (next.each (subst (λ (b : Bool). IsTrue b) (sym same) told) a);
  time = λ told. elapses_on old mid new (LeavesAreas old) (LeavesAreas mid) (first.time told) (next.time (subst (λ (b : Bool). IsTrue b) (sym same) told))
      (λ c leaves a. (first.each told a).outcomes (c.areas a) (leaves a));
  unread = next.unread ∙ first.unread;
  unwritten = next.unwritten ∙ first.unwritten;
}

-- A print leaves the areas.
pub areas_stay_print : (piece : List ℕ) (old new : StationView) → Counts 0 0 old new → (IsTrue old.is_told → Appends piece old new) → AreasStay old new
areas_stay_print piece old new counts appends = record {
  each = λ told a. (appends told).areas a;
  time = λ told. let p = appends told in record {
    later = p.time.later;
    nothing_else = λ t c le left. ⊎_elim (λ past. inl past) (λ front. inr (λ a. (p.areas a).outcomes (c.areas a) (front.areas a))) (p.time.nothing_else t c le left);
    keeps = p.time.keeps;
  };
  unread = omega (arith, counts.reads_grow, counts.reads);
  unwritten = omega (arith, counts.writes_grow, counts.writes);
}
