-- Places keep their records where their pages stay.
use Rattle.std.proofs.Common.{◌≡◌, ◌≢◌, ◌≤◌, ◌<◌, ℕ, zero, suc, true, false, List, [], ◌∷◌, ◌++◌, length, refl, sym, ap, ◌∙◌, subst, arith, inl, inr, Some, None}
use Rattle.std.specs.Prelude.{Option, option_map, ◌&&◌, nat_lt, nat_le}
use Rattle.std.proofs.lemmas.Bool.{cases_Bool, cases_eq, cases_lt, eq-eqb, ne_eqb, lt-ltb, le-ltb}
use Rattle.std.proofs.lemmas.Option.{cond_some}
use Rattle.gaz_page.specs.Free.{short_at}
use Rattle.gaz_page.specs.Pages.{PagesView}
use Rattle.gaz_slots.specs.RecordPage.{record_in}
use Rattle.gaz_slots.specs.Overflow.{is_overflow_page, next_in, piece_in}
use Rattle.gaz_heap.specs.Chain.{chain_at, chain_pages, long_enough}
use Rattle.gaz_heap.specs.Place.{record_at, pages_of, page_of, slot_of, is_chain}
use Rattle.gaz_page.specs.Chains.{Each, InUse}
use Rattle.gaz_heap.specs.Facts.{Holds, StillHolds}
use Rattle.gaz_heap.proofs.Chain.{chain_unformed, chain_short}

-- what a chain of one page more is
pub data Step (most : ℕ) (pages : ℕ → List ℕ) (number : ℕ) (bytes : List ℕ) : Type 0 where
  ends : next_in (pages number) ≡ 0 → piece_in (pages number) ≡ bytes → Step most pages number bytes
  goes : next_in (pages number) ≢ 0 → short_at 2 (pages number) ≡ 4080 → (rest : List ℕ) → chain_at most pages (next_in (pages number)) ≡ Some rest → piece_in (pages number) ++ rest ≡ bytes → Step most pages number bytes

pub at_last : (most : ℕ) (pages : ℕ → List ℕ) (number : ℕ) → is_overflow_page number (pages number) ≡ true → next_in (pages number) ≡ 0 → chain_at (suc most) pages number ≡ Some (piece_in (pages number))
unfolding chain_at
at_last most pages number form last = rw (form, eq-eqb _ _ last) refl

pub at_more : (most : ℕ) (pages : ℕ → List ℕ) (number : ℕ) → is_overflow_page number (pages number) ≡ true → next_in (pages number) ≢ 0 → short_at 2 (pages number) ≡ 4080
    → chain_at (suc most) pages number ≡ option_map (λ bytes. piece_in (pages number) ++ bytes) (chain_at most pages (next_in (pages number)))
unfolding chain_at
at_more most pages number form more full = rw (form, ne_eqb _ _ more, eq-eqb _ _ full) refl

pub pages_last : (most : ℕ) (pages : ℕ → List ℕ) (number : ℕ) → next_in (pages number) ≡ 0 → chain_pages (suc most) pages number ≡ number ∷ []
unfolding chain_pages
pages_last most pages number last = rw (eq-eqb _ _ last) refl

pub pages_more : (most : ℕ) (pages : ℕ → List ℕ) (number : ℕ) → next_in (pages number) ≢ 0 → chain_pages (suc most) pages number ≡ number ∷ chain_pages most pages (next_in (pages number))
unfolding chain_pages
pages_more most pages number more = rw (ne_eqb _ _ more) refl

pub none_at_0 : (pages : ℕ → List ℕ) (number : ℕ) → chain_at zero pages number ≡ None
unfolding chain_at
none_at_0 pages number = refl

pub nothing : (bytes : List ℕ) (o : Option (List ℕ)) → o ≡ None → o ≡ Some bytes → ⊥
nothing bytes o no_ yes_ = let h : None ≡ Some bytes = sym no_ ∙ yes_ in cc

from_map : (front : List ℕ) (o : Option (List ℕ)) (bytes : List ℕ) → option_map (λ b. front ++ b) o ≡ Some bytes → (rest : List ℕ) × (o ≡ Some rest) × (front ++ rest ≡ bytes)
from_map front None bytes is = absurd cc
from_map front (Some rest) bytes is = (rest, refl, cc)

pub formed_first : (most : ℕ) (pages : ℕ → List ℕ) (number : ℕ) (bytes : List ℕ) → chain_at most pages number ≡ Some bytes → is_overflow_page number (pages number) ≡ true
formed_first most pages number bytes is =
    elim (cases_Bool (is_overflow_page number (pages number))) [
      | inl form ↦ form
      | inr bad ↦ absurd (nothing bytes _ (chain_unformed most pages number bad) is)
    ]

pub step_of : (most : ℕ) (pages : ℕ → List ℕ) (number : ℕ) (bytes : List ℕ) → chain_at (suc most) pages number ≡ Some bytes → Step most pages number bytes
step_of most pages number bytes is =
    let form = formed_first (suc most) pages number bytes is in
    elim (cases_eq (next_in (pages number)) 0) [
      | inl last ↦ ends last (let h : Some (piece_in (pages number)) ≡ Some bytes = sym (at_last most pages number form last) ∙ is in cc)
      | inr more ↦ elim (cases_eq (short_at 2 (pages number)) 4080) [
        | inl full ↦ let r = from_map (piece_in (pages number)) (chain_at most pages (next_in (pages number))) bytes (sym (at_more most pages number form more full) ∙ is) in goes more full r.0 r.1 r.2
        | inr short ↦ absurd (nothing bytes _ (chain_short (suc most) pages number more short) is)
      ]
    ]

-- all pages of a chain are overflow pages in form
pub each_formed : (most : ℕ) (pages : ℕ → List ℕ) (number : ℕ) (bytes : List ℕ) → chain_at most pages number ≡ Some bytes → Each (λ n. is_overflow_page n (pages n) ≡ true) (chain_pages most pages number)
each_formed zero pages number bytes is = absurd (nothing bytes _ (none_at_0 pages number) is)
each_formed (suc most) pages number bytes is =
    let P : ℕ → Type 0 = λ n. is_overflow_page n (pages n) ≡ true in
    let form = formed_first (suc most) pages number bytes is in
    elim (step_of most pages number bytes is) [
      | ends last same ↦ subst (λ (l : List ℕ). Each P l) (sym (pages_last most pages number last)) (form, tt)
      | goes more full rest there same ↦ subst (λ (l : List ℕ). Each P l) (sym (pages_more most pages number more)) (form, each_formed most pages (next_in (pages number)) rest there)
    ]

-- the same pages make the same chain
pub chain_same : (most : ℕ) (pages new : ℕ → List ℕ) (number : ℕ) (bytes : List ℕ) → chain_at most pages number ≡ Some bytes → Each (λ n. new n ≡ pages n) (chain_pages most pages number)
    → (chain_at most new number ≡ Some bytes) × (chain_pages most new number ≡ chain_pages most pages number)
chain_same zero pages new number bytes is each = absurd (nothing bytes _ (none_at_0 pages number) is)
chain_same (suc most) pages new number bytes is each =
    let P : ℕ → Type 0 = λ n. new n ≡ pages n in
    let form = formed_first (suc most) pages number bytes is in
    elim (step_of most pages number bytes is) [
      | ends last same ↦
          let e = (subst (λ (l : List ℕ). Each P l) (pages_last most pages number last) each).0 in
          let form_ = subst (λ (p : List ℕ). is_overflow_page number p ≡ true) (sym e) form in
          let last_ = ap (λ (p : List ℕ). next_in p) e ∙ last in
          (at_last most new number form_ last_ ∙ ap (λ (p : List ℕ). Some (piece_in p)) e ∙ ap (λ (b : List ℕ). Some b) same, pages_last most new number last_ ∙ sym (pages_last most pages number last))
      | goes more full rest there same ↦
          let parts = subst (λ (l : List ℕ). Each P l) (pages_more most pages number more) each in
          let e = parts.0 in
          let next = ap (λ (p : List ℕ). next_in p) e in
          let form_ = subst (λ (p : List ℕ). is_overflow_page number p ≡ true) (sym e) form in
          let more_ : next_in (new number) ≢ 0 = λ zero_. more (sym next ∙ zero_) in
          let full_ = ap (λ (p : List ℕ). short_at 2 p) e ∙ full in
          let r = chain_same most pages new (next_in (pages number)) rest there parts.1 in (
            at_more most new number form_ more_ full_
                ∙ (λ i. option_map (λ b. piece_in (e i) ++ b) (chain_at most new (next i)))
                ∙ ap (λ (o : Option (List ℕ)). option_map (λ b. piece_in (pages number) ++ b) o) r.0
                ∙ ap (λ (b : List ℕ). Some b) same,
            pages_more most new number more_ ∙ (λ i. number ∷ chain_pages most new (next i)) ∙ ap (λ (l : List ℕ). number ∷ l) r.1 ∙ sym (pages_more most pages number more),
          )
    ]

pub far : (pages : ℕ → List ℕ) (place : ℕ) → 4294967296 ≤ page_of place → record_at pages place ≡ None
unfolding record_at
far pages place past = rw (le-ltb (page_of place) 4294967296 past) refl

near : (pages : ℕ → List ℕ) (place : ℕ) (bytes : List ℕ) → record_at pages place ≡ Some bytes → page_of place < 4294967296
near pages place bytes is =
    elim (cases_lt (page_of place) 4294967296) [
      | inl low ↦ low
      | inr past ↦ absurd (nothing bytes _ (far pages place past) is)
    ]

pub record_chain : (pages : ℕ → List ℕ) (place : ℕ) → page_of place < 4294967296 → is_chain place ≡ true → record_at pages place ≡ long_enough (chain_at 17 pages (page_of place))
unfolding record_at
record_chain pages place low is = rw (lt-ltb (page_of place) 4294967296 low, is) refl

pub record_slot : (pages : ℕ → List ℕ) (place : ℕ) → page_of place < 4294967296 → is_chain place ≡ false → record_at pages place ≡ record_in (page_of place) (pages (page_of place)) (slot_of place)
unfolding record_at
record_slot pages place low is = rw (lt-ltb (page_of place) 4294967296 low, is) refl

pub pages_chain : (pages : ℕ → List ℕ) (place : ℕ) → is_chain place ≡ true → pages_of pages place ≡ chain_pages 17 pages (page_of place)
unfolding pages_of
pages_chain pages place is = rw is refl

pub pages_slot : (pages : ℕ → List ℕ) (place : ℕ) → is_chain place ≡ false → pages_of pages place ≡ page_of place ∷ []
unfolding pages_of
pages_slot pages place is = rw is refl

from_long : (o : Option (List ℕ)) (bytes : List ℕ) → long_enough o ≡ Some bytes → o ≡ Some bytes
from_long None bytes is = absurd cc
from_long (Some b) bytes is = let read = cond_some (nat_lt 4076 (length b) && nat_le (length b) 65535) b bytes is in ap (λ (x : List ℕ). Some x) read.1

-- the chain of a place that has a long record
pub chain_of : (pages : ℕ → List ℕ) (place : ℕ) (bytes : List ℕ) → is_chain place ≡ true → record_at pages place ≡ Some bytes → chain_at 17 pages (page_of place) ≡ Some bytes
chain_of pages place bytes chain is = from_long (chain_at 17 pages (page_of place)) bytes (sym (record_chain pages place (near pages place bytes is) chain) ∙ is)

still_chain : (pages new : ℕ → List ℕ) (place : ℕ) (bytes : List ℕ) → is_chain place ≡ true → record_at pages place ≡ Some bytes → Each (λ n. new n ≡ pages n) (pages_of pages place) → (record_at new place ≡ Some bytes) × (pages_of new place ≡ pages_of pages place)
still_chain pages new place bytes chain is each =
    let low = near pages place bytes is in
    let there = chain_of pages place bytes chain is in
    let same = chain_same 17 pages new (page_of place) bytes there (subst (λ (l : List ℕ). Each (λ n. new n ≡ pages n) l) (pages_chain pages place chain) each) in (
      record_chain new place low chain ∙ ap (λ (o : Option (List ℕ)). long_enough o) (same.0 ∙ sym there) ∙ sym (record_chain pages place low chain) ∙ is,
      pages_chain new place chain ∙ same.1 ∙ sym (pages_chain pages place chain),
    )

still_slot : (pages new : ℕ → List ℕ) (place : ℕ) (bytes : List ℕ) → is_chain place ≡ false → record_at pages place ≡ Some bytes → Each (λ n. new n ≡ pages n) (pages_of pages place) → (record_at new place ≡ Some bytes) × (pages_of new place ≡ pages_of pages place)
still_slot pages new place bytes slot is each =
    let low = near pages place bytes is in
    let e = (subst (λ (l : List ℕ). Each (λ n. new n ≡ pages n) l) (pages_slot pages place slot) each).0 in (
      record_slot new place low slot ∙ ap (λ (p : List ℕ). record_in (page_of place) p (slot_of place)) e ∙ sym (record_slot pages place low slot) ∙ is,
      pages_slot new place slot ∙ sym (pages_slot pages place slot),
    )

-- a record stays where its pages stay
pub record_still : (pages new : ℕ → List ℕ) (place : ℕ) (bytes : List ℕ) → record_at pages place ≡ Some bytes → Each (λ n. new n ≡ pages n) (pages_of pages place) → (record_at new place ≡ Some bytes) × (pages_of new place ≡ pages_of pages place)
record_still pages new place bytes is each =
    elim (cases_Bool (is_chain place)) [
      | inl chain ↦ still_chain pages new place bytes chain is each
      | inr slot ↦ still_slot pages new place bytes slot is each
    ]

pub each_more : (P Q : ℕ → Type 0) (l : List ℕ) → ((n : ℕ) → P n → Q n) → Each P l → Each Q l
each_more P Q [] more each = tt
each_more P Q (n ∷ rest) more each = (more n each.0, each_more P Q rest more each.1)

pub holds_still : (old new : PagesView) (place : ℕ) (bytes : List ℕ) → old.fresh ≤ new.fresh → Holds old place bytes → Each (λ n. new.page n ≡ old.page n) (pages_of old.page place) → StillHolds old new place bytes
holds_still old new place bytes grows holds each =
    let still = record_still old.page new.page place bytes holds.at each in
    record {
      holds = record {
        at = still.0;
        pages = subst (λ (l : List ℕ). Each (InUse new) l) (sym still.1) (each_more (InUse old) (InUse new) (pages_of old.page place) (λ n was. (was.0, omega (arith, was.1, grows))) holds.pages);
      };
      pages = still.1;
    }
