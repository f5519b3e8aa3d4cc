-- Pages that are taken as the free chain leads, whatever its links are: where it comes to, and what damage a take meets there.
use Rattle.std.proofs.Common.{◌≡◌, ◌≢◌, ◌≤◌, ◌+◌, ◌-◌, ◌⊎◌, ℕ, suc, true, List, [], ◌∷◌, ◌++◌, refl, sym, ap, ◌∙◌, subst, arith, inl, inr, Some, None}
use Rattle.std.specs.Prelude.{Bool, Option, ◌==◌, if◌then◌else◌}
use Rattle.std.specs.Option.{is_none}
use Rattle.std.proofs.lemmas.Bool.{cases_eq, eq-eqb, ne_eqb, eqb-true}
use Rattle.std.proofs.lemmas.List.{length-append}
use Rattle.std.proofs.lemmas.Option.{cond_some}
use Rattle.gaz_num.specs.Numbers.{some_if}
use Rattle.gaz_page.specs.Free.{free_link}
use Rattle.gaz_page.specs.Pages.{PagesView, SamePages, Writes, damage}
use Rattle.gaz_page.specs.Chains.{Among, IsTakenSince, IsNoFree, ComesTo, TakesAlong, TakeMeets}
use Rattle.gaz_page.proofs.PageMaps.{with_same, with_other}

some_is : (a b : ℕ) → Some a ≡ Some b → a ≡ b
some_is a b same = cc

no_some : (o : Option ℕ) (a : ℕ) → o ≡ None → o ≡ Some a → ⊥
no_some o a none_ some = cc

-- ---- what is taken by no call, by one, and by two

pub along_same : (old new : PagesView) → SamePages old new → TakesAlong 0 old new
along_same old new same = record {
  passed = [];
  comes = same.free;
  grows = omega (arith, same.fresh);
  ended = λ some. same.fresh;
  few = omega (arith, same.fresh);
  changed = λ n. inl (λ j. same.pages j n);
}

pub along_more : (most more : ℕ) (old new : PagesView) → most ≤ more → TakesAlong most old new → TakesAlong more old new
along_more most more old new le a = record {
  passed = a.passed;
  comes = a.comes;
  grows = a.grows;
  ended = a.ended;
  few = omega (arith, a.few, le);
  changed = a.changed;
}

-- a page is no free one still, whatever was taken
pub none_still : (most : ℕ) (old new : PagesView) (n : ℕ) → TakesAlong most old new → IsNoFree old n → IsNoFree new n
none_still most old new n a none_ =
    elim (a.changed n) [
      | inl same ↦ ap (λ (l : List ℕ). free_link n l) same ∙ none_
      | inr changed ↦ changed.0
    ]

-- a page that is free stood so before
free_before : (most : ℕ) (old new : PagesView) (n next : ℕ) → TakesAlong most old new → free_link n (new.page n) ≡ Some next → free_link n (old.page n) ≡ Some next
free_before most old new n next a link =
    elim (a.changed n) [
      | inl same ↦ sym (ap (λ (l : List ℕ). free_link n l) same) ∙ link
      | inr changed ↦ absurd (no_some (free_link n (new.page n)) next changed.0 link)
    ]

comes_on : (most : ℕ) (old mid : PagesView) (passed : List ℕ) (page : ℕ) → (a : TakesAlong most old mid) → ComesTo mid passed page → ComesTo old (passed ++ a.passed) page
comes_on most old mid [] page a comes = subst (λ (k : ℕ). ComesTo old a.passed k) (sym comes) a.comes
comes_on most old mid (n ∷ earlier) page a comes = (comes_on most old mid earlier n a comes.0, comes.1, free_before most old mid n page a comes.2)

-- where the chain has come to a page, there was a first one
first_some : (v : PagesView) (passed : List ℕ) (page : ℕ) → ComesTo v passed page → page ≢ 0 → v.free ≢ 0
first_some v [] page comes some = λ none_. some (comes ∙ none_)
first_some v (n ∷ earlier) page comes some = first_some v earlier n comes.0 comes.1

among_front : (n : ℕ) (one other : List ℕ) → Among one n → Among (one ++ other) n
among_front n [] other among = absurd among
among_front n (m ∷ one) other (inl is) = inl is
among_front n (m ∷ one) other (inr among) = inr (among_front n one other among)

among_behind : (n : ℕ) (one other : List ℕ) → Among other n → Among (one ++ other) n
among_behind n [] other among = among
among_behind n (m ∷ one) other among = inr (among_behind n one other among)

-- of what both took
taken_first : (old mid new : PagesView) (n : ℕ) (one other : List ℕ) → mid.fresh ≤ new.fresh → Among one n ⊎ IsTakenSince old mid n → Among (other ++ one) n ⊎ IsTakenSince old new n
taken_first old mid new n one other le (inl among) = inl (among_behind n other one among)
taken_first old mid new n one other le (inr since) = inr (since.0, omega (arith, since.1, le))

taken_then : (old mid new : PagesView) (n : ℕ) (one other : List ℕ) → old.fresh ≤ mid.fresh → Among other n ⊎ IsTakenSince mid new n → Among (other ++ one) n ⊎ IsTakenSince old new n
taken_then old mid new n one other le (inl among) = inl (among_front n other one among)
taken_then old mid new n one other le (inr since) = inr (omega (arith, since.0, le), since.1)

pub along_on : (most more : ℕ) (old mid new : PagesView) → TakesAlong most old mid → TakesAlong more mid new → TakesAlong (most + more) old new
along_on most more old mid new a b = record {
  passed = b.passed ++ a.passed;
  comes = comes_on most old mid b.passed new.free a b.comes;
  grows = omega (arith, a.grows, b.grows);
  ended = λ some. b.ended some ∙ a.ended (first_some mid b.passed new.free b.comes some);
  few = omega (arith, a.few, b.few, length-append b.passed a.passed);
  changed = λ n. elim (b.changed n) [
    | inl same ↦ elim (a.changed n) [
      | inl before ↦ inl (same ∙ before)
      | inr changed ↦ inr (
        ap (λ (l : List ℕ). free_link n l) same ∙ changed.0,
        elim changed.1 [
          | inl none_ ↦ inl none_
          | inr taken ↦ inr (taken_first old mid new n a.passed b.passed b.grows taken)
        ],
      )
    ]
    | inr later ↦ inr (
      later.0,
      elim (a.changed n) [
        | inl before ↦ elim later.1 [
          | inl none_ ↦ inl (sym (ap (λ (l : List ℕ). free_link n l) before) ∙ none_)
          | inr taken ↦ inr (taken_then old mid new n a.passed b.passed a.grows taken)
        ]
        | inr changed ↦ elim changed.1 [
          | inl none_ ↦ inl none_
          | inr taken ↦ inr (taken_first old mid new n a.passed b.passed b.grows taken)
        ]
      ],
    )
  ];
}

-- one page was written that is no free one, neither before nor now
pub along_written : (old new : PagesView) (page : ℕ) (bytes : List ℕ) → Writes page bytes old new → IsNoFree old page → free_link page bytes ≡ None → TakesAlong 0 old new
along_written old new page bytes w before now = record {
  passed = [];
  comes = w.free;
  grows = omega (arith, w.fresh);
  ended = λ some. w.fresh;
  few = omega (arith, w.fresh);
  changed = λ n. elim (cases_eq n page) [
    | inl is ↦ inr (
      subst (λ (k : ℕ). IsNoFree new k) (sym is) (ap (λ (l : List ℕ). free_link page l) ((λ j. w.pages j page) ∙ with_same page bytes old.page) ∙ now),
      inl (subst (λ (k : ℕ). IsNoFree old k) (sym is) before),
    )
    | inr differs ↦ inl ((λ j. w.pages j n) ∙ with_other page n bytes old.page differs)
  ];
}

-- One page was taken and is no free one now, and of the others none that changed.
pub record IsTakenUp (old new : PagesView) (number : ℕ) : Type 0 where
  pub first : number ≡ (if old.free == 0 then old.fresh else old.free)
  pub free : Some new.free ≡ (if old.free == 0 then Some 0 else free_link old.free (old.page old.free))
  pub fresh : new.fresh ≡ (if old.free == 0 then old.fresh + 1 else old.fresh)
  pub now : IsNoFree new number
  pub others : (n : ℕ) → n ≢ number → (new.page n ≡ old.page n) ⊎ (IsNoFree new n × IsNoFree old n)

taken_changed : (old new : PagesView) (number n : ℕ) (passed : List ℕ) → IsTakenUp old new number → Among passed number ⊎ IsTakenSince old new number
    → (new.page n ≡ old.page n) ⊎ (IsNoFree new n × (IsNoFree old n ⊎ (Among passed n ⊎ IsTakenSince old new n)))
taken_changed old new number n passed t taken =
    elim (cases_eq n number) [
      | inl is ↦ inr (subst (λ (k : ℕ). IsNoFree new k) (sym is) t.now, inr (subst (λ (k : ℕ). Among passed k ⊎ IsTakenSince old new k) (sym is) taken))
      | inr differs ↦ elim (t.others n differs) [
        | inl same ↦ inl same
        | inr both ↦ inr (both.0, inl both.1)
      ]
    ]

pub along_taken : (old new : PagesView) (number : ℕ) → IsTakenUp old new number → TakesAlong 1 old new
along_taken old new number t =
    elim (cases_eq old.free 0) [
      | inl none_ ↦
          let test = eq-eqb old.free 0 none_ in
          let is : number ≡ old.fresh = t.first ∙ ap (λ (b : Bool). if b then old.fresh else old.free) test in
          let free : new.free ≡ 0 = some_is new.free 0 (t.free ∙ ap (λ (b : Bool). if b then Some 0 else free_link old.free (old.page old.free)) test) in
          let fresh : new.fresh ≡ old.fresh + 1 = t.fresh ∙ ap (λ (b : Bool). if b then old.fresh + 1 else old.fresh) test in
          record {
            passed = [];
            comes = free ∙ sym none_;
            grows = omega (arith, fresh);
            ended = λ some. absurd (some free);
            few = omega (arith, fresh);
            changed = λ n. taken_changed old new number n [] t (inr (omega (arith, is), omega (arith, is, fresh)));
          }
      | inr some ↦
          let test = ne_eqb old.free 0 some in
          let is : number ≡ old.free = t.first ∙ ap (λ (b : Bool). if b then old.fresh else old.free) test in
          let link : Some new.free ≡ free_link old.free (old.page old.free) = t.free ∙ ap (λ (b : Bool). if b then Some 0 else free_link old.free (old.page old.free)) test in
          let fresh : new.fresh ≡ old.fresh = t.fresh ∙ ap (λ (b : Bool). if b then old.fresh + 1 else old.fresh) test in
          record {
            passed = old.free ∷ [];
            comes = (refl, some, sym link);
            grows = omega (arith, fresh);
            ended = λ _. fresh;
            few = omega (arith, fresh);
            changed = λ n. taken_changed old new number n (old.free ∷ []) t (inl (inl is));
          }
    ]

-- ---- the two cases of damage

none_left : (v : PagesView) (page : ℕ) → v.free ≡ 0 → damage v ≡ Some page → (page ≡ 0) × (v.fresh ≡ 4294967295)
unfolding damage
none_left v page none_ is =
    let used : some_if (v.fresh == 4294967295) 0 ≡ Some page =
    sym (ap (λ (b : Bool). if b then some_if (v.fresh == 4294967295) 0 else some_if (is_none (free_link v.free (v.page v.free))) v.free) (eq-eqb v.free 0 none_)) ∙ is in
    let both = cond_some (v.fresh == 4294967295) 0 page used in
    (sym both.1, eqb-true v.fresh 4294967295 both.0)

none_there : (o : Option ℕ) → is_none o ≡ true → o ≡ None
none_there None is = refl
none_there (Some n) is = cc

not_in_form : (v : PagesView) (page : ℕ) → v.free ≢ 0 → damage v ≡ Some page → (page ≡ v.free) × IsNoFree v v.free
unfolding damage
not_in_form v page some is =
    let bad : some_if (is_none (free_link v.free (v.page v.free))) v.free ≡ Some page =
    sym (ap (λ (b : Bool). if b then some_if (v.fresh == 4294967295) 0 else some_if (is_none (free_link v.free (v.page v.free))) v.free) (ne_eqb v.free 0 some)) ∙ is in
    let both = cond_some (is_none (free_link v.free (v.page v.free))) v.free page bad in
    (sym both.1, none_there (free_link v.free (v.page v.free)) both.0)

broken_by : (most : ℕ) (old now : PagesView) → (a : TakesAlong most old now) → now.free ≢ 0 → IsNoFree now now.free → IsNoFree old now.free ⊎ Among a.passed now.free
broken_by most old now a some none_ =
    elim (a.changed now.free) [
      | inl same ↦ inl (sym (ap (λ (l : List ℕ). free_link now.free l) same) ∙ none_)
      | inr changed ↦ elim changed.1 [
        | inl before ↦ inl before
        | inr taken ↦ elim taken [
          | inl among ↦ inr among
          | inr since ↦ absurd (omega (arith, since.0, since.1, a.ended some))
        ]
      ]
    ]

-- the next take meets damage
pub take_meets : (most : ℕ) (old now : PagesView) (page : ℕ) → TakesAlong most old now → damage now ≡ Some page → TakeMeets (suc most) old page
take_meets most old now page a met =
    elim (cases_eq now.free 0) [
      | inl none_ ↦
          let d = none_left now page none_ met in
          record {
            passed = a.passed;
            newly = now.fresh - old.fresh;
            few = omega (arith, a.few, a.grows);
            comes = subst (λ (k : ℕ). ComesTo old a.passed k) (none_ ∙ sym d.0) a.comes;
            broken = inl (d.0, omega (arith, d.1, a.grows));
          }
      | inr some ↦
          let d = not_in_form now page some met in
          record {
            passed = a.passed;
            newly = 0;
            few = omega (arith, a.few, a.grows);
            comes = subst (λ (k : ℕ). ComesTo old a.passed k) (sym d.0) a.comes;
            broken = subst (λ (k : ℕ). ((k ≡ 0) × (old.fresh + 0 ≡ 4294967295)) ⊎ ((k ≢ 0) × (IsNoFree old k ⊎ Among a.passed k))) (sym d.0) (inr (some, broken_by most old now a some d.1));
          }
    ]

pub meets_more : (most more : ℕ) (v : PagesView) (page : ℕ) → most ≤ more → TakeMeets most v page → TakeMeets more v page
meets_more most more v page le m = record {
  passed = m.passed;
  newly = m.newly;
  few = omega (arith, m.few, le);
  comes = m.comes;
  broken = m.broken;
}

comes_same : (old mid : PagesView) (passed : List ℕ) (page : ℕ) → SamePages old mid → ComesTo mid passed page → ComesTo old passed page
comes_same old mid [] page same comes = comes ∙ same.free
comes_same old mid (n ∷ earlier) page same comes = (comes_same old mid earlier n same comes.0, comes.1, sym (λ j. free_link n (same.pages j n)) ∙ comes.2)

-- the same pages
pub meets_same : (most : ℕ) (old mid : PagesView) (page : ℕ) → SamePages old mid → TakeMeets most mid page → TakeMeets most old page
meets_same most old mid page same m = record {
  passed = m.passed;
  newly = m.newly;
  few = m.few;
  comes = comes_same old mid m.passed page same m.comes;
  broken = elim m.broken [
    | inl end ↦ inl (end.0, omega (arith, end.1, same.fresh))
    | inr bad ↦ inr (
      bad.0,
      elim bad.1 [
        | inl none_ ↦ inl (sym (λ j. free_link page (same.pages j page)) ∙ none_)
        | inr among ↦ inr among
      ],
    )
  ];
}
