-- A record was put in place of the one of a slot: what becomes of all others.
use Rattle.std.proofs.Common.{◌≡◌, ◌≢◌, ◌≤◌, ◌<◌, ℕ, zero, suc, true, false, List, length, refl, sym, ap, ◌∙◌, subst, arith, inl, inr, Some, None}
use Rattle.std.specs.Prelude.{Bool, if◌then◌else◌, ◌==◌, IsTrue, IsSome, Option, Result, Ok, Err, IfOk}
use Rattle.std.proofs.lemmas.Bool.{cases_Bool, cases_eq, cases_lt, false_from_ne_true}
use Rattle.gaz_page.specs.declared.pages.PageFault.{PageFault}
use Rattle.gaz_page.specs.declared.pages.PageFault.TheVariants.{Failed, Damaged, Memory}
use Rattle.gaz_page.specs.Pages.{PagesView, SamePages, Writes}
use Rattle.gaz_page.specs.Chains.{Each, InUse}
use Rattle.gaz_page.proofs.PageMaps.{with_same, with_other}
use Rattle.gaz_slots.specs.RecordPage.{size_in, is_used, is_record_page, record_in}
use Rattle.gaz_slots.specs.Edited.{Replaced}
use Rattle.gaz_slots.proofs.Form.{used_record}
use Rattle.gaz_slots.proofs.Slots.{used_below, used_from, record_size, size_small}
use Rattle.gaz_slots.proofs.RoomLeft.{used_there}
use Rattle.gaz_slots.proofs.Recorded.{formed, unformed}
use Rattle.gaz_slots.specs.Overflow.{is_overflow_page, next_in, piece_in}
use Rattle.gaz_slots.proofs.PageKinds.{overflow_not_record}
use Rattle.gaz_heap.specs.Chain.{chain_at, long_enough, with_piece}
use Rattle.gaz_heap.specs.Place.{record_at, page_of, slot_of, is_chain}
use Rattle.gaz_heap.specs.Heap.{HasReplaced, ReplacesSlot, DropDamage}
use Rattle.gaz_heap.specs.Facts.{Replaces}
use Rattle.gaz_heap.proofs.Chain.{chain_unformed}
use Rattle.gaz_heap.proofs.Holds.{record_slot, record_chain, pages_slot, none_at_0, far, nothing}
use Rattle.gaz_heap.proofs.Placing.{slot_place}
use Rattle.gaz_heap.proofs.SlotDrops.{OneSlot, slots_same, others_same, heap_kept, records_kept}

pub slot_replaced : (number slot : ℕ) (bytes read written : List ℕ) (old mid new : PagesView) → SamePages old mid → read ≡ old.page number → is_record_page number read ≡ true → is_used read slot ≡ true
    → Replaced number slot bytes read written → Writes number written mid new → HasReplaced number slot bytes old new
slot_replaced number slot bytes read written old mid new same is form used replaced writes =
    let there : new.page number ≡ written = (λ i. writes.pages i number) ∙ with_same number written mid.page in
    record {
      form = subst (λ (p : List ℕ). is_record_page number p ≡ true) is form;
      was_used = subst (λ (p : List ℕ). is_used p slot ≡ true) is used;
      replaced = subst (λ (p : List ℕ). Replaced number slot bytes p (new.page number)) is (subst (λ (p : List ℕ). Replaced number slot bytes read p) (sym there) replaced);
      others = λ n differs. (λ i. writes.pages i n) ∙ with_other number n written mid.page differs ∙ (λ i. same.pages i n);
      free = writes.free ∙ same.free;
      fresh = writes.fresh ∙ same.fresh;
    }

some_is : (o : Option (List ℕ)) (bytes : List ℕ) → o ≡ Some bytes → IsSome o
some_is o bytes is = subst (λ (r : Option (List ℕ)). IsSome r) (sym is) refl

one_slot : (old new : PagesView) (place : ℕ) (bytes : List ℕ) → is_chain place ≡ false → HasReplaced (page_of place) (slot_of place) bytes old new → OneSlot (page_of place) (slot_of place) place old new
one_slot old new place bytes no_ r =
    let number = page_of place in
    record {
      form = r.form;
      page = refl;
      at = refl;
      no_ = no_;
      fresh = r.fresh;
      others = r.others;
      same = λ k differs. formed number (new.page number) k r.replaced.form ∙ r.replaced.others k differs ∙ sym (formed number (old.page number) k r.form);
    }

had_record : (old new : PagesView) (place : ℕ) (bytes : List ℕ) → page_of place < 4294967296 → is_chain place ≡ false → HasReplaced (page_of place) (slot_of place) bytes old new → IsSome (record_at old.page place)
had_record old new place bytes low no_ r =
    let page = old.page (page_of place) in
    some_is (record_at old.page place) _
    (record_slot old.page place low no_ ∙ formed (page_of place) page (slot_of place) r.form ∙ used_record page (slot_of place) (used_below page (slot_of place) r.was_used) (used_from page (slot_of place) r.was_used))

-- ---- the chains of other places

chain_step : (pages new : ℕ → List ℕ) (most first : ℕ) → new first ≡ pages first → ((n : ℕ) → chain_at most new n ≡ chain_at most pages n) → chain_at (suc most) new first ≡ chain_at (suc most) pages first
unfolding chain_at
chain_step pages new most first same more =
    λ i. if is_overflow_page first (same i)
    then (if next_in (same i) == 0 then Some (piece_in (same i)) else with_piece (same i) (more (next_in (same i)) i))
    else None

-- no chain begins at a record page
none_at : (pages : ℕ → List ℕ) (number first most : ℕ) → is_record_page number (pages number) ≡ true → first ≡ number → chain_at most pages first ≡ None
none_at pages number first most form here =
    chain_unformed most pages first
    (false_from_ne_true (is_overflow_page first (pages first)) (λ over. overflow_not_record first number (pages first) over (subst (λ (n : ℕ). is_record_page number (pages n) ≡ true) (sym here) form)))

-- a chain is the same where only a record page changed, which is one still
chain_equal : (number : ℕ) (pages new : ℕ → List ℕ) → is_record_page number (pages number) ≡ true → is_record_page number (new number) ≡ true → ((n : ℕ) → n ≢ number → new n ≡ pages n)
    → (most first : ℕ) → chain_at most new first ≡ chain_at most pages first
chain_equal number pages new was is others zero first = none_at_0 new first ∙ sym (none_at_0 pages first)
chain_equal number pages new was is others (suc most) first =
    elim (cases_eq first number) [
      | inr away ↦ chain_step pages new most first (others first away) (chain_equal number pages new was is others most)
      | inl here ↦ none_at new number first (suc most) is here ∙ sym (none_at pages number first (suc most) was here)
    ]

chains_same : (old new : PagesView) (number other : ℕ) → is_record_page number (old.page number) ≡ true → is_record_page number (new.page number) ≡ true → ((n : ℕ) → n ≢ number → new.page n ≡ old.page n)
    → is_chain other ≡ true → record_at new.page other ≡ record_at old.page other
chains_same old new number other was is others chain =
    elim (cases_lt (page_of other) 4294967296) [
      | inl low ↦
          record_chain new.page other low chain ∙ ap (λ (o : Option (List ℕ)). long_enough o) (chain_equal number old.page new.page was is others 17 (page_of other)) ∙ sym (record_chain old.page other low chain)
      | inr past ↦ far new.page other past ∙ sym (far old.page other past)
    ]

-- ---- all that is left

pub replaces : (old new : PagesView) (place : ℕ) (bytes : List ℕ) → page_of place < 4294967296 → is_chain place ≡ false → HasReplaced (page_of place) (slot_of place) bytes old new → Replaces old new place bytes
replaces old new place bytes low no_ r =
    let number = page_of place in
    let o = one_slot old new place bytes no_ r in
    let has : record_at new.page place ≡ Some bytes = record_slot new.page place low no_ ∙ formed number (new.page number) (slot_of place) r.replaced.form ∙ r.replaced.there in
    let mine = pages_slot new.page place no_ in
    record {
      slotted = λ is. let wrong = subst (λ (b : Bool). IsTrue b) no_ is in absurd cc;
      had = had_record old new place bytes low no_ r;
      has = has;
      holds = λ earlier h.
          let used = (subst (λ (l : List ℕ). Each (InUse old) l) (pages_slot old.page place no_) h.pages).0 in
          record { at = has; pages = subst (λ (l : List ℕ). Each (InUse new) l) (sym mine) ((used.0, omega (arith, used.1, r.fresh)), tt) };
      others = λ other earlier h differs. others_same number (slot_of place) place old new o other earlier h differs;
      pages = mine ∙ sym (pages_slot old.page place no_);
      form = r.replaced.form;
      stays = r.others;
      rest = λ other differs. elim (cases_Bool (is_chain other)) [
        | inl chain ↦ chains_same old new number other r.form r.replaced.form r.others chain
        | inr slotted ↦ slots_same number (slot_of place) place old new other o slotted differs
      ];
      first = r.free;
      fresh = r.fresh;
      heap = λ current free heap. heap_kept number current old new free r.form r.others r.free r.fresh heap;
      records = λ current. records_kept number current old new r.replaced.form r.others;
    }

pub replaces_of : (old new : PagesView) (place : ℕ) (bytes : List ℕ) (r : Result Bool PageFault) → page_of place < 4294967296 → is_chain place ≡ false → ReplacesSlot (page_of place) (slot_of place) bytes old new r
    → IfOk r (λ did. did ≡ true → Replaces old new place bytes)
replaces_of old new place bytes (Ok true) low no_ r = λ did. replaces old new place bytes low no_ r
replaces_of old new place bytes (Ok false) low no_ r = λ did. absurd cc
replaces_of old new place bytes (Err fault) low no_ r = tt

pub damage_of : (old new : PagesView) (place : ℕ) (bytes : List ℕ) (r : Result Bool PageFault) → place < 281474976710656 → slot_of place ≢ 65535 → ReplacesSlot (page_of place) (slot_of place) bytes old new r → DropDamage (record_at old.page place) r
damage_of old new place bytes (Ok did) near differs r = tt
damage_of old new place bytes (Err Failed) near differs r = tt
damage_of old new place bytes (Err Memory) near differs r = tt
damage_of old new place bytes (Err (Damaged page)) near differs r = slot_place old.page place near differs ∙ r.1

-- ---- a record that isn't longer

in_form : (number slot : ℕ) (page bytes : List ℕ) → record_in number page slot ≡ Some bytes → is_record_page number page ≡ true
in_form number slot page bytes is =
    elim (cases_Bool (is_record_page number page)) [
      | inl form ↦ form
      | inr bad ↦ absurd (nothing bytes _ (unformed number page slot bad) is)
    ]

pub size_at : (number slot : ℕ) (page bytes : List ℕ) → record_in number page slot ≡ Some bytes → (length bytes ≡ size_in page slot) × (length bytes ≤ 4076)
size_at number slot page bytes is =
    let form = in_form number slot page bytes is in
    let there = sym (formed number page slot form) ∙ is in
    let size = record_size number page slot bytes form there in
    (size, omega (arith, size, size_small number page slot form (used_there page slot bytes there)))

pub fits_of : (old new : PagesView) (place : ℕ) (bytes earlier : List ℕ) (r : Result Bool PageFault) → page_of place < 4294967296 → is_chain place ≡ false → ReplacesSlot (page_of place) (slot_of place) bytes old new r
    → record_at old.page place ≡ Some earlier → length bytes ≤ length earlier → IfOk r (λ did. did ≡ true)
fits_of old new place bytes earlier (Ok true) low no_ r is less = refl
fits_of old new place bytes earlier (Ok false) low no_ r is less =
    let size = size_at (page_of place) (slot_of place) (old.page (page_of place)) earlier (sym (record_slot old.page place low no_) ∙ is) in
    absurd (omega (arith, size.0, r.1.longer, less))
fits_of old new place bytes earlier (Err fault) low no_ r is less = tt

-- no record of a slot is longer than 4,076 bytes
pub not_short : (pages : ℕ → List ℕ) (place : ℕ) (earlier : List ℕ) → page_of place < 4294967296 → is_chain place ≡ false → record_at pages place ≡ Some earlier → length earlier ≤ 4076
not_short pages place earlier low no_ is = (size_at (page_of place) (slot_of place) (pages (page_of place)) earlier (sym (record_slot pages place low no_) ∙ is)).1
