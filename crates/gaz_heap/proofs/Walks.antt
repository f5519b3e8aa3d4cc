-- A long record is dropped page after page, whatever is supposed of the pages: no page comes twice, and no other changes.
use Rattle.std.proofs.Common.{◌≡◌, ◌≢◌, ◌<◌, ◌+◌, ◌-◌, ◌⊎◌, ℕ, suc, true, false, List, [], ◌∷◌, ◌++◌, append_assoc, refl, sym, ap, ◌∙◌, subst, arith, inl, inr, Some, None}
use Rattle.std.specs.Prelude.{Option}
use Rattle.std.proofs.lemmas.Bool.{cases_Bool, both_ways}
use Rattle.gaz_page.specs.Free.{free_link}
use Rattle.gaz_page.specs.Pages.{PagesView, Gives}
use Rattle.gaz_page.specs.Chains.{Among}
use Rattle.gaz_slots.specs.Overflow.{is_overflow_page, next_in}
use Rattle.gaz_slots.proofs.PageKinds.{free_not_overflow}
use Rattle.gaz_heap.specs.Chain.{chain_at, chain_pages}
use Rattle.gaz_heap.specs.Heap.{GivesAll}
use Rattle.gaz_heap.proofs.Holds.{pages_last, pages_more, none_at_0, nothing, formed_first}
use Rattle.gaz_heap.proofs.LongPuts.{each_from, first_of_more}
use Rattle.gaz_heap.proofs.ChainDrops.{not_twice, chain_next}

-- the pages from the first one to before this one were given
pub record Walked (old now : PagesView) (first page turn : ℕ) : Type 0 where
  pub passed : List ℕ
  pub fresh : now.fresh ≡ old.fresh
  pub pages : (k : ℕ) → chain_pages (turn + k) old.page first ≡ passed ++ chain_pages k old.page page
  pub forms : (n : ℕ) → Among passed n → is_overflow_page n (old.page n) ≡ true
  pub gone : (n : ℕ) → Among passed n → is_overflow_page n (now.page n) ≡ false
  pub stays : (n : ℕ) → (Among passed n → ⊥) → now.page n ≡ old.page n
  pub rest : (k : ℕ) (bytes : List ℕ) → chain_at (turn + k) old.page first ≡ Some bytes
      → ((more : List ℕ) × (chain_at k old.page page ≡ Some more)) × ((n : ℕ) → Among passed n → Among (chain_pages k old.page page) n → ⊥)

pub walked_none : (old : PagesView) (first : ℕ) → Walked old old first first 0
walked_none old first = record {
  passed = [];
  fresh = refl;
  pages = λ k. ap (λ (m : ℕ). chain_pages m old.page first) (none_more k);
  forms = λ n among. absurd among;
  gone = λ n among. absurd among;
  stays = λ n out. refl;
  rest = λ k bytes is. ((bytes, ap (λ (m : ℕ). chain_at m old.page first) (sym (none_more k)) ∙ is), λ n among. absurd among);
}
  where
    none_more : (k : ℕ) → 0 + k ≡ k
    none_more k = omega arith

in_either : (a b : List ℕ) (n : ℕ) → Among (a ++ b) n → Among a n ⊎ Among b n
in_either [] b n among = inr among
in_either (m ∷ a) b n among =
    elim among [
      | inl is ↦ inl (inl is)
      | inr later ↦ elim (in_either a b n later) [ inl here ↦ inl (inr here) | inr there ↦ inr there ]
    ]

in_front : (a b : List ℕ) (n : ℕ) → Among a n → Among (a ++ b) n
in_front [] b n among = absurd among
in_front (m ∷ a) b n among = elim among [ inl is ↦ inl is | inr later ↦ inr (in_front a b n later) ]

in_back : (a b : List ℕ) (n : ℕ) → Among b n → Among (a ++ b) n
in_back [] b n among = among
in_back (m ∷ a) b n among = inr (in_back a b n among)

-- the last one was passed too
in_longer : (passed : List ℕ) (page n : ℕ) → Among (passed ++ page ∷ []) n → Among passed n ⊎ (n ≡ page)
in_longer passed page n among =
    elim (in_either passed (page ∷ []) n among) [
      | inl here ↦ inl here
      | inr last ↦ elim last [ inl is ↦ inr is | inr never ↦ absurd never ]
    ]

-- a page that was given is in form no more, so the page that is read now wasn't given
not_passed : (old now : PagesView) (first page turn : ℕ) (w : Walked old now first page turn) → is_overflow_page page (now.page page) ≡ true → Among w.passed page → ⊥
not_passed old now first page turn w form among = both_ways (is_overflow_page page (now.page page)) (w.gone page among) form

pub walked_more : (old now new : PagesView) (first page next turn : ℕ) → Walked old now first page turn → is_overflow_page page (now.page page) ≡ true → next_in (now.page page) ≡ next → next ≢ 0 → Gives page now new → Walked old new first next (turn + 1)
walked_more old now new first page next turn w form link onward g =
    let out = not_passed old now first page turn w form in
    let same = w.stays page out in
    let link_ : next_in (old.page page) ≡ next = ap (λ (p : List ℕ). next_in p) (sym same) ∙ link in
    let more : next_in (old.page page) ≢ 0 = λ zero_. onward (sym link_ ∙ zero_) in
    let form_ : is_overflow_page page (old.page page) ≡ true = ap (λ (p : List ℕ). is_overflow_page page p) (sym same) ∙ form in
    let turns : (k : ℕ) → turn + 1 + k ≡ turn + suc k = λ k. omega arith in
    let apart : (n : ℕ) → Among w.passed n → n ≢ page = λ n among is. out (subst (λ (m : ℕ). Among w.passed m) is among) in
    record {
      passed = w.passed ++ page ∷ [];
      fresh = g.fresh ∙ w.fresh;
      pages = λ k.
          ap (λ (m : ℕ). chain_pages m old.page first) (turns k)
          ∙ w.pages (suc k)
          ∙ ap (λ (l : List ℕ). w.passed ++ l) (pages_more k old.page page more ∙ ap (λ (m : ℕ). page ∷ chain_pages k old.page m) link_)
          ∙ sym (append_assoc w.passed (page ∷ []) (chain_pages k old.page next));
      forms = λ n among. elim (in_longer w.passed page n among) [
        | inl here ↦ w.forms n here
        | inr is ↦ subst (λ (m : ℕ). is_overflow_page m (old.page m) ≡ true) (sym is) form_
      ];
      gone = λ n among. elim (in_longer w.passed page n among) [
        | inl here ↦ ap (λ (p : List ℕ). is_overflow_page n p) (g.others n (apart n here)) ∙ w.gone n here
        | inr is ↦ subst (λ (m : ℕ). is_overflow_page m (new.page m) ≡ false) (sym is) (given page now.free (new.page page) g.linked)
      ];
      stays = λ n away. g.others n (λ is. away (in_back w.passed (page ∷ []) n (inl is))) ∙ w.stays n (λ here. away (in_front w.passed (page ∷ []) n here));
      rest = λ k bytes is.
          let r = w.rest (suc k) bytes (ap (λ (m : ℕ). chain_at m old.page first) (sym (turns k)) ∙ is) in
          let n_ = chain_next k old.page page r.0.0 r.0.1 more in (
            (n_.0.0, subst (λ (m : ℕ). chain_at k old.page m ≡ Some n_.0.0) link_ n_.0.1),
            (λ n among there.
                let behind = subst (λ (m : ℕ). Among (chain_pages k old.page m) n) (sym link_) there in
                elim (in_longer w.passed page n among) [
                  | inl here ↦ r.1 n here (subst (λ (l : List ℕ). Among l n) (sym n_.1) (inr behind))
                  | inr is ↦ not_twice k old.page page r.0.0 n_.0.0 r.0.1 more n_.0.1 (subst (λ (m : ℕ). Among (chain_pages k old.page (next_in (old.page page))) m) is behind)
                ]),
          );
    }
  where
    given : (number link : ℕ) (bytes : List ℕ) → free_link number bytes ≡ Some link → is_overflow_page number bytes ≡ false
    given number link bytes is =
        elim (cases_Bool (is_overflow_page number bytes)) [
          | inl form ↦ absurd (free_not_overflow number number link bytes is form)
          | inr bad ↦ bad
        ]

pub walked_all : (old now new : PagesView) (first page next turn : ℕ) → turn < 17 → Walked old now first page turn → is_overflow_page page (now.page page) ≡ true → next_in (now.page page) ≡ next → next ≡ 0 → Gives page now new → GivesAll first old new
walked_all old now new first page next turn low w form link last g =
    let out = not_passed old now first page turn w form in
    let same = w.stays page out in
    let link_ : next_in (old.page page) ≡ 0 = ap (λ (p : List ℕ). next_in p) (sym same) ∙ link ∙ last in
    let form_ : is_overflow_page page (old.page page) ≡ true = ap (λ (p : List ℕ). is_overflow_page page p) (sym same) ∙ form in
    let m = 16 - turn in
    let turns : 17 ≡ turn + suc m = omega arith in
    let whole : chain_pages 17 old.page first ≡ w.passed ++ page ∷ [] =
    ap (λ (k : ℕ). chain_pages k old.page first) turns ∙ w.pages (suc m) ∙ ap (λ (l : List ℕ). w.passed ++ l) (pages_last m old.page page link_) in
    record {
      forms = each_from (λ n. is_overflow_page n (old.page n) ≡ true) (chain_pages 17 old.page first) (λ n among. elim (in_longer w.passed page n (subst (λ (l : List ℕ). Among l n) whole among)) [
        | inl here ↦ w.forms n here
        | inr is ↦ subst (λ (k : ℕ). is_overflow_page k (old.page k) ≡ true) (sym is) form_
      ]);
      stays = λ n away.
          let off : Among (w.passed ++ page ∷ []) n → ⊥ = λ among. away (subst (λ (l : List ℕ). Among l n) (sym whole) among) in
          g.others n (λ is. off (in_back w.passed (page ∷ []) n (inl is))) ∙ w.stays n (λ here. off (in_front w.passed (page ∷ []) n here));
      fresh = g.fresh ∙ w.fresh;
    }

none_where : (o : Option (List ℕ)) → ((bytes : List ℕ) → o ≡ Some bytes → ⊥) → o ≡ None
none_where None no_ = refl
none_where (Some bytes) no_ = absurd (no_ bytes refl)

-- a page that isn't in form now wasn't in form, or it comes twice: so there is no chain
pub walked_damaged : (old now : PagesView) (first page turn : ℕ) → turn < 17 → Walked old now first page turn → is_overflow_page page (now.page page) ≡ false → chain_at 17 old.page first ≡ None
walked_damaged old now first page turn low w bad =
    let m = 16 - turn in
    let turns : 17 ≡ turn + suc m = omega arith in
    none_where (chain_at 17 old.page first) (λ bytes is.
    let r = w.rest (suc m) bytes (ap (λ (k : ℕ). chain_at k old.page first) (sym turns) ∙ is) in
    let form = formed_first (suc m) old.page page r.0.0 r.0.1 in
    let out : Among w.passed page → ⊥ = λ among. r.1 page among (first_of_more m old.page page) in
    both_ways (is_overflow_page page (now.page page)) bad (ap (λ (p : List ℕ). is_overflow_page page p) (w.stays page out) ∙ form))

-- a chain that goes on past 17 pages is none
pub walked_past : (old now : PagesView) (first page turn : ℕ) → turn ≡ 17 → Walked old now first page turn → chain_at 17 old.page first ≡ None
walked_past old now first page turn past w =
    let turns : 17 ≡ turn + 0 = omega arith in
    none_where (chain_at 17 old.page first) (λ bytes is.
    let r = w.rest 0 bytes (ap (λ (k : ℕ). chain_at k old.page first) (sym turns) ∙ is) in
    nothing r.0.0 _ (none_at_0 old.page page) r.0.1)
