-- What one call more tells, in a record of calls.
use Rattle.std.proofs.Common.{◌≡◌, inl, inr, ⊎_elim, ℕ, List, [], ◌∷◌, ◌++◌, length, Vec, reverse, refl, sym, ◌∙◌, ap, subst, arith, Some, None, zero, suc, ◌^◌, ◌<◌}
use Rattle.std.proofs.lemmas.List.{reverse-append, append-nil, take_all}
use Rattle.std.specs.declared.alloc.Global.{Global}
use Rattle.gaz_outside.specs.declared.station.Area.{Area}
use Rattle.gaz_outside.specs.declared.event.Event.{Event}
use Rattle.gaz_outside.specs.declared.event.Event.TheVariants.{Wrote, Synced, Printed}
use Rattle.gaz_outside.specs.Station.{Outcome, Torn, Leaves, Elapses, Stays, Writes, Appends}
use Rattle.gaz_outside.specs.Stopped.{end_of}
use Rattle.std.specs.Prelude.{slice_get}
use Rattle.gaz_outside.specs.Events.{MayLeave, LeavesInside, view_of, seen, text_of, torn_here, seen_other}

pub newest : (old new : List Event) (e : Event) → new ≡ old ++ e ∷ [] → e ∷ reverse old ≡ reverse new
newest old new e is = sym (ap reverse is ∙ reverse-append old (e ∷ []))

module _ (es : List Event) (f r w g s x : ℕ) where
  elapses_same : Elapses (view_of es f r w) (view_of es g s x) (Leaves (view_of es g s x))
  elapses_same = record {
    later = omega arith;
    nothing_else = λ t c le left. inl left;
    keeps = λ t c le left. left;
  }

  pub stays_same : Stays (view_of es f r w) (view_of es g s x)
  stays_same = record { areas = λ a. record { bytes = refl; outcomes = λ c may. may }; printed = refl; time = elapses_same }

  torn_same : (at n : ℕ) (c : List ℕ) → Torn at n c c
  torn_same at n c = record { no_shorter = omega arith; no_longer = omega arith; same = λ i lt out. refl }

  pub writes_same : (area : Area) (at n : ℕ) → Writes area at n (view_of es f r w) (view_of es g s x)
  writes_same area at n = record {
    torn = torn_same at n (seen es area);
    outcomes = λ c may. (c, may, torn_same at n c);
    others = λ a other. record { bytes = refl; outcomes = λ c may. may };
    printed = refl;
    time = elapses_same;
  }

  pub prints_same : (piece : List ℕ) → Appends piece (view_of es f r w) (view_of es g s x)
  prints_same piece = record {
    areas = λ a. record { bytes = refl; outcomes = λ c may. may };
    printed = (0, omega arith, sym (append-nil _));
    time = record {
      later = omega arith;
      nothing_else = λ t c le left. inl left;
      keeps = λ t c le left. left;
    };
  }

  elapses_push : (e : Event) (during : Outcome → Type 0) → ((c : Outcome) → LeavesInside e es c → during c) → Elapses (view_of es f r w) (view_of (e ∷ es) g s x) during
  elapses_push e during to = record {
    later = omega arith;
    nothing_else = λ t c le left. ⊎_elim (λ inside. inr (to c inside)) (λ since. inl since) (left.1 le);
    keeps = λ t c le since. ((λ lt. absurd (omega arith)), (λ _. inr since));
  }

  pub wrote : (area : Area) (at : ℕ) (v : Vec ℕ Global) → Writes area at (length v.items) (view_of es f r w) (view_of (Wrote area at v ∷ es) g s x)
  wrote area at v = record {
    torn = torn_here area at v es area refl;
    outcomes = λ c may. (may.0, may.1, may.2.0 refl);
    others = λ a other. record {
      bytes = seen_other area at v es a other;
      outcomes = λ c may. subst (MayLeave es a) (sym (may.2.1 other)) may.1;
    };
    printed = refl;
    time = elapses_push (Wrote area at v) _ (λ c in_it. record { areas = in_it.0; text = in_it.1 });
  }

  pub synced : (area : Area) → Stays (view_of es f r w) (view_of (Synced area ∷ es) g s x)
  synced area = record {
    areas = λ a. record { bytes = refl; outcomes = λ c may. may.0 };
    printed = refl;
    time = elapses_push (Synced area) _ (λ c in_it. record { areas = in_it.0; text = in_it.1 });
  }

  pub printed_piece : (v : Vec ℕ Global) → Appends v.items (view_of es f r w) (view_of (Printed v ∷ es) g s x)
  printed_piece v = record {
    areas = λ a. record { bytes = refl; outcomes = λ c may. may };
    printed = (length v.items, omega arith, ap (λ (p : List ℕ). text_of es ++ p) (sym (take_all (length v.items) v.items (omega arith))));
    time = elapses_push (Printed v) _ (λ c in_it. record { areas = in_it.0; text = in_it.1 });
  }

module _ (old new : List Event) (f r w g s x : ℕ) where
  pub stays_kept : new ≡ old → Stays (view_of (reverse old) f r w) (view_of (reverse new) g s x)
  stays_kept is = subst (λ (l : List Event). Stays (view_of (reverse old) f r w) (view_of (reverse l) g s x)) (sym is) (stays_same (reverse old) f r w g s x)

  pub writes_kept : (area : Area) (at n : ℕ) → new ≡ old → Writes area at n (view_of (reverse old) f r w) (view_of (reverse new) g s x)
  writes_kept area at n is = subst (λ (l : List Event). Writes area at n (view_of (reverse old) f r w) (view_of (reverse l) g s x)) (sym is) (writes_same (reverse old) f r w g s x area at n)

  pub prints_kept : (piece : List ℕ) → new ≡ old → Appends piece (view_of (reverse old) f r w) (view_of (reverse new) g s x)
  prints_kept piece is = subst (λ (l : List Event). Appends piece (view_of (reverse old) f r w) (view_of (reverse l) g s x)) (sym is) (prints_same (reverse old) f r w g s x piece)

  pub synced_kept : (area : Area) → new ≡ old ++ Synced area ∷ [] → Stays (view_of (reverse old) f r w) (view_of (reverse new) g s x)
  synced_kept area is = subst (λ (l : List Event). Stays (view_of (reverse old) f r w) (view_of l g s x)) (newest old new (Synced area) is) (synced (reverse old) f r w g s x area)

  pub wrote_kept : (area : Area) (at : ℕ) (v : Vec ℕ Global) (bytes : List ℕ) → v.items ≡ bytes → new ≡ old ++ Wrote area at v ∷ [] → Writes area at (length bytes) (view_of (reverse old) f r w) (view_of (reverse new) g s x)
  wrote_kept area at v bytes same is =
      subst (λ (l : List Event). Writes area at (length bytes) (view_of (reverse old) f r w) (view_of l g s x)) (newest old new (Wrote area at v) is)
      (subst (λ (b : List ℕ). Writes area at (length b) (view_of (reverse old) f r w) (view_of (Wrote area at v ∷ reverse old) g s x)) same (wrote (reverse old) f r w g s x area at v))

  pub printed_kept : (v : Vec ℕ Global) (bytes : List ℕ) → v.items ≡ bytes → new ≡ old ++ Printed v ∷ [] → Appends bytes (view_of (reverse old) f r w) (view_of (reverse new) g s x)
  printed_kept v bytes same is =
      subst (λ (l : List Event). Appends bytes (view_of (reverse old) f r w) (view_of l g s x)) (newest old new (Printed v) is)
      (subst (λ (b : List ℕ). Appends b (view_of (reverse old) f r w) (view_of (Printed v ∷ reverse old) g s x)) same (printed_piece (reverse old) f r w g s x v))

none_kept : (kept : Event) → None ≡ Some kept → ⊥
none_kept kept there = cc

-- Each event ends within a counter, and so does one more.
pub ends_more : (old new : List Event) (event : Event) → new ≡ old ++ event ∷ [] → end_of event < 2 ^ 64 → ((place : ℕ) (kept : Event) → slice_get old place ≡ Some kept → end_of kept < 2 ^ 64) → (place : ℕ) (kept : Event) → slice_get new place ≡ Some kept → end_of kept < 2 ^ 64
ends_more old new event is ends fit place kept there = in_more old event ends fit place kept (ap (λ (events : List Event). slice_get events place) (sym is) ∙ there)
  where
    in_more : (events : List Event) (last : Event) → end_of last < 2 ^ 64 → ((place : ℕ) (kept : Event) → slice_get events place ≡ Some kept → end_of kept < 2 ^ 64) → (place : ℕ) (kept : Event) → slice_get (events ++ last ∷ []) place ≡ Some kept → end_of kept < 2 ^ 64
    in_more [] last ends fit zero kept there = let same : last ≡ kept = cc in subst (λ (e : Event). end_of e < 2 ^ 64) same ends
    in_more [] last ends fit (suc place) kept there = absurd (none_kept kept there)
    in_more (event ∷ events) last ends fit zero kept there = fit 0 kept there
    in_more (event ∷ events) last ends fit (suc place) kept there = in_more events last ends (λ p. fit (suc p)) place kept there

-- A write or a sync leaves the text.
pub text_after_write : (old new : List Event) (area : Area) (at : ℕ) (v : Vec ℕ Global) (text : List ℕ) → new ≡ old ++ Wrote area at v ∷ [] → text ≡ text_of (reverse old) → text ≡ text_of (reverse new)
text_after_write old new area at v text is kept = kept ∙ ap text_of (newest old new (Wrote area at v) is)

pub text_after_sync : (old new : List Event) (area : Area) (text : List ℕ) → new ≡ old ++ Synced area ∷ [] → text ≡ text_of (reverse old) → text ≡ text_of (reverse new)
text_after_sync old new area text is kept = kept ∙ ap text_of (newest old new (Synced area) is)

-- A print appends its piece.
pub text_after_print : (old new : List Event) (v : Vec ℕ Global) (before after piece : List ℕ) → new ≡ old ++ Printed v ∷ [] → v.items ≡ piece → after ≡ before ++ piece → before ≡ text_of (reverse old) → after ≡ text_of (reverse new)
text_after_print old new v before after piece is same printed kept =
    printed ∙ ap (λ (p : List ℕ). before ++ p) (sym same) ∙ ap (λ (t : List ℕ). t ++ v.items) kept ∙ ap text_of (newest old new (Printed v) is)
