-- A record that was put into a slot of the page for new records: what becomes of all others.
use Rattle.std.proofs.Common.{◌≡◌, ◌≢◌, ◌≤◌, ◌<◌, ◌+◌, ◌*◌, ◌⊎◌, ℕ, true, false, List, [], ◌∷◌, sym, ap, ◌∙◌, subst, arith, inl, inr, Some, None}
use Rattle.std.specs.Prelude.{IsTrue, Bool}
use Rattle.std.proofs.lemmas.Bool.{cases_Bool, cases_eq, cases_lt, ne_eqb, false_from_ne_true}
use Rattle.gaz_page.specs.Pages.{PagesView}
use Rattle.gaz_slots.specs.RecordPage.{record_in, is_record_page}
use Rattle.gaz_slots.specs.Overflow.{is_overflow_page}
use Rattle.gaz_heap.specs.Chain.{chain_pages}
use Rattle.gaz_heap.specs.Place.{record_at, pages_of, page_of, slot_of, is_chain}
use Rattle.gaz_heap.specs.Heap.{Stores}
use Rattle.gaz_page.specs.Chains.{Each, Among, InUse, IsFreeChain}
use Rattle.gaz_heap.specs.Facts.{IsHeap, Holds, StillHolds, Puts}
use Rattle.gaz_slots.proofs.PageKinds.{overflow_not_record, free_not_record}
use Rattle.gaz_slots.proofs.Recorded.{formed}
use Rattle.gaz_page.proofs.FreeChains.{free_still}
use Rattle.gaz_heap.proofs.Holds.{each_formed, each_more, chain_of, record_slot, far, pages_chain, pages_slot, holds_still, nothing}

-- the place of a slot
pub the_page : (number slot : ℕ) → slot < 65535 → page_of (number * 65536 + slot) ≡ number
the_page number slot small = omega arith

pub the_slot : (number slot : ℕ) → slot < 65535 → slot_of (number * 65536 + slot) ≡ slot
the_slot number slot small = omega arith

pub no_chain : (number slot : ℕ) → slot < 65535 → is_chain (number * 65536 + slot) ≡ false
no_chain number slot small = ne_eqb (slot_of (number * 65536 + slot)) 65535 (λ is. omega (arith, the_slot number slot small, is, small))

pub same_place : (number slot other : ℕ) → page_of other ≡ number → slot_of other ≡ slot → other ≡ number * 65536 + slot
same_place number slot other page here = omega arith

-- no free page is a record page in form
pub free_differ : (old : PagesView) (number first : ℕ) (free : List ℕ) → is_record_page number (old.page number) ≡ true → IsFreeChain old first free → Each (λ n. n ≢ number) free
free_differ old number first [] form chain = tt
free_differ old number first (n ∷ rest) form chain =
    let link = chain.2 in
    (λ is. free_not_record n number link.0 (old.page n) link.1 (subst (λ (m : ℕ). is_record_page number (old.page m) ≡ true) (sym is) form), free_differ old number link.0 rest form link.2)

-- no page of a long record is a record page in form
pub chain_differs : (old : PagesView) (number place : ℕ) (bytes : List ℕ) → is_record_page number (old.page number) ≡ true → is_chain place ≡ true → record_at old.page place ≡ Some bytes → Each (λ n. n ≢ number) (pages_of old.page place)
chain_differs old number place bytes form chain is =
    subst (λ (l : List ℕ). Each (λ n. n ≢ number) l) (sym (pages_chain old.page place chain))
    (each_more (λ n. is_overflow_page n (old.page n) ≡ true) (λ n. n ≢ number) (chain_pages 17 old.page (page_of place))
    (λ n over same. overflow_not_record n number (old.page n) over (subst (λ (m : ℕ). is_record_page number (old.page m) ≡ true) (sym same) form))
    (each_formed 17 old.page (page_of place) bytes (chain_of old.page place bytes chain is)))

-- the record of a slot, where its page says the same of it
pub slot_equal : (pages new : ℕ → List ℕ) (place : ℕ) → is_chain place ≡ false → record_in (page_of place) (new (page_of place)) (slot_of place) ≡ record_in (page_of place) (pages (page_of place)) (slot_of place) → record_at new place ≡ record_at pages place
slot_equal pages new place slot same =
    elim (cases_lt (page_of place) 4294967296) [
      | inl low ↦ record_slot new place low slot ∙ same ∙ sym (record_slot pages place low slot)
      | inr past ↦ far new place past ∙ sym (far pages place past)
    ]

-- what was put, and what is supposed
pub record Put (number slot : ℕ) (bytes : List ℕ) (old new : PagesView) (free : List ℕ) : Type 0 where
  pub stores : Stores number slot bytes old new
  pub small : slot < 65535
  pub low : number < 4294967296
  pub some : number ≢ 0
  pub heap : IsHeap old number free

in_use : (number : ℕ) (v : PagesView) → number ≢ 0 → (number ≡ 0) ⊎ InUse v number → InUse v number
in_use number v some page = elim page [ inl none_ ↦ absurd (some none_) | inr use_ ↦ use_ ]

-- another slot says what it said
other_slot : (number slot : ℕ) (bytes : List ℕ) (old new : PagesView) (free : List ℕ) (place : ℕ) → Put number slot bytes old new free → is_chain place ≡ false → place ≢ number * 65536 + slot → record_at new.page place ≡ record_at old.page place
other_slot number slot bytes old new free place p no_ differs =
    slot_equal old.page new.page place no_
    (elim (cases_eq (page_of place) number) [
      | inr away ↦ ap (λ (b : List ℕ). record_in (page_of place) b (slot_of place)) (p.stores.others (page_of place) away)
      | inl here ↦
          let k = slot_of place in
          let apart : k ≢ slot = λ same. differs (same_place number slot place here same) in
          let equal : record_in number (new.page number) k ≡ record_in number (old.page number) k =
          formed number (new.page number) k p.stores.filled.form ∙ p.stores.filled.others k apart ∙ sym (formed number (old.page number) k p.stores.form) in
          subst (λ (m : ℕ). record_in m (new.page m) k ≡ record_in m (old.page m) k) (sym here) equal
    ])

was_none : (number slot : ℕ) (bytes : List ℕ) (old new : PagesView) (free : List ℕ) → Put number slot bytes old new free → record_at old.page (number * 65536 + slot) ≡ None
was_none number slot bytes old new free p =
    let place = number * 65536 + slot in
    let page = the_page number slot p.small in
    let at = the_slot number slot p.small in
    record_slot old.page place (omega (arith, page, p.low)) (no_chain number slot p.small)
    ∙ (λ i. record_in (page i) (old.page (page i)) (at i))
    ∙ formed number (old.page number) slot p.stores.form ∙ p.stores.filled.was_free

is_there : (number slot : ℕ) (bytes : List ℕ) (old new : PagesView) (free : List ℕ) → Put number slot bytes old new free → record_at new.page (number * 65536 + slot) ≡ Some bytes
is_there number slot bytes old new free p =
    let place = number * 65536 + slot in
    let page = the_page number slot p.small in
    let at = the_slot number slot p.small in
    record_slot new.page place (omega (arith, page, p.low)) (no_chain number slot p.small)
    ∙ (λ i. record_in (page i) (new.page (page i)) (at i))
    ∙ formed number (new.page number) slot p.stores.filled.form ∙ p.stores.filled.there

its_pages : (number slot : ℕ) (pages : ℕ → List ℕ) → slot < 65535 → pages_of pages (number * 65536 + slot) ≡ number ∷ []
its_pages number slot pages small = pages_slot pages (number * 65536 + slot) (no_chain number slot small) ∙ ap (λ (n : ℕ). n ∷ []) (the_page number slot small)

others_stay : (number slot : ℕ) (bytes : List ℕ) (old new : PagesView) (free : List ℕ) → Put number slot bytes old new free → (other : ℕ) (earlier : List ℕ) → Holds old other earlier → StillHolds old new other earlier
others_stay number slot bytes old new free p other earlier holds =
    let grows : old.fresh ≤ new.fresh = omega (arith, p.stores.fresh) in
    elim (cases_Bool (is_chain other)) [
      | inl chain ↦ holds_still old new other earlier grows holds (each_more (λ n. n ≢ number) (λ n. new.page n ≡ old.page n) (pages_of old.page other) p.stores.others (chain_differs old number other earlier p.stores.form chain holds.at))
      | inr no_ ↦
          let differs : other ≢ number * 65536 + slot = λ is. nothing earlier (record_at old.page other) (ap (λ (q : ℕ). record_at old.page q) is ∙ was_none number slot bytes old new free p) holds.at in
          let same = pages_slot new.page other no_ ∙ sym (pages_slot old.page other no_) in
          record {
            holds = record {
              at = other_slot number slot bytes old new free other p no_ differs ∙ holds.at;
              pages = subst (λ (l : List ℕ). Each (InUse new) l) (sym same) (each_more (InUse old) (InUse new) (pages_of old.page other) (λ n was. (was.0, omega (arith, was.1, grows))) holds.pages);
            };
            pages = same;
          }
    ]

-- a record in a slot of the page for new records
pub stored_puts : (number slot : ℕ) (bytes : List ℕ) (old new : PagesView) (free : List ℕ) → Put number slot bytes old new free → Puts old new number number free bytes (number * 65536 + slot)
stored_puts number slot bytes old new free p =
    let place = number * 65536 + slot in
    let grows : old.fresh ≤ new.fresh = omega (arith, p.stores.fresh) in
    let use_ = in_use number old p.some p.heap.page in
    let used : InUse new number = (use_.0, omega (arith, use_.1, grows)) in
    let mine = its_pages number slot new.page p.small in
    let chain = free_still old new old.free free grows p.heap.chain (each_more (λ n. n ≢ number) (λ n. new.page n ≡ old.page n) free p.stores.others (free_differ old number old.free free p.stores.form p.heap.chain)) in
    record {
      holds = record { at = is_there number slot bytes old new free p; pages = subst (λ (l : List ℕ). Each (InUse new) l) (sym mine) (used, tt) };
      owns = λ n among. elim (subst (λ (l : List ℕ). Among l n) mine among) [
        | inl is ↦ inl (is, subst (λ (m : ℕ). is_record_page m (old.page m) ≡ true) (sym is) p.stores.form)
        | inr never ↦ absurd never
      ];
      grows = grows;
      takes = omega (arith, p.stores.fresh);
      unlisted = λ earlier holds. nothing earlier (record_at old.page place) (was_none number slot bytes old new free p) holds.at;
      others = others_stay number slot bytes old new free p;
      apart = λ other earlier holds chained. let bad = subst (λ (b : Bool). IsTrue b) (no_chain number slot p.small) chained in cc;
      left = free;
      heap = record {
        least = omega (arith, p.heap.least, grows);
        chain = subst (λ (n : ℕ). IsFreeChain new n free) (sym p.stores.free) chain;
        page = inr used;
      };
      fewer = λ n among. among;
      taken = λ n which. elim which [ inl among ↦ inl among | inr range ↦ absurd (omega (arith, range.0, range.1, p.stores.fresh)) ];
      stays = λ n out. p.stores.others n (λ is. out (subst (λ (l : List ℕ). Among l n) (sym mine) (inl is)));
      slots = λ other slotted differs inside. (
        (λ was. other_slot number slot bytes old new free other p (false_from_ne_true (is_chain other) slotted) differs),
        (λ out. absurd (out (inside.0, omega (arith, inside.1, p.stores.fresh)))),
      );
      records = λ was. inr p.stores.filled.form;
    }
