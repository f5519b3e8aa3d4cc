-- A record that was put alone into a page that was taken for it: what becomes of all others.
use Rattle.std.proofs.Common.{◌≡◌, ◌≢◌, ◌≤◌, ◌<◌, ◌+◌, ◌*◌, ◌⊎◌, ℕ, true, false, List, [], ◌∷◌, length, refl, sym, ap, ◌∙◌, subst, arith, inl, inr, Some, None}
use Rattle.std.specs.Prelude.{IsTrue, Bool, ◌==◌, if◌then◌else◌}
use Rattle.std.proofs.lemmas.Bool.{cases_Bool, cases_eq, cases_lt, eq-eqb, ne_eqb, false_from_ne_true}
use Rattle.gaz_page.specs.Free.{free_link}
use Rattle.gaz_page.specs.Pages.{PagesView, SamePages}
use Rattle.gaz_slots.specs.RecordPage.{record_in, is_record_page}
use Rattle.gaz_slots.specs.Overflow.{is_overflow_page}
use Rattle.gaz_heap.specs.Chain.{chain_pages}
use Rattle.gaz_heap.specs.Place.{record_at, pages_of, page_of, slot_of, is_chain}
use Rattle.gaz_heap.specs.Heap.{StoresNew}
use Rattle.gaz_page.specs.Chains.{Each, Among, InUse, IsFreeChain}
use Rattle.gaz_heap.specs.Facts.{IsHeap, Holds, StillHolds, SlotStays, Puts}
use Rattle.gaz_slots.proofs.PageKinds.{free_not_record, free_not_overflow}
use Rattle.gaz_slots.proofs.Recorded.{formed, unformed}
use Rattle.gaz_heap.proofs.Holds.{each_formed, each_more, chain_of, record_slot, far, pages_chain, pages_slot, holds_still, nothing}
use Rattle.gaz_heap.proofs.StoredPuts.{the_page, the_slot, no_chain, same_place, slot_equal}
use Rattle.gaz_page.proofs.FreeChains.{free_still, not_again, each_other}

-- the page was free in form, or never taken
abbrev pub IsNew : PagesView → ℕ → Type 0
IsNew v number = ((link : ℕ) × (free_link number (v.page number) ≡ Some link)) ⊎ (v.fresh ≤ number)

-- what was put, and what is left of the free pages
pub record PutNew (number : ℕ) (bytes : List ℕ) (old new : PagesView) (free left : List ℕ) : Type 0 where
  pub stores : StoresNew number bytes old new
  pub low : number < 4294967296
  pub is_new : IsNew old number
  pub some : 1 ≤ number
  pub inside : number < new.fresh
  pub grows : old.fresh ≤ new.fresh
  pub least : 1 ≤ old.fresh
  pub chain : IsFreeChain old new.free left
  pub apart : Each (λ n. n ≢ number) left
  pub fewer : (n : ℕ) → Among left n → Among free n
  pub taken : (n : ℕ) → Among free n ⊎ ((old.fresh ≤ n) × (n < new.fresh)) → Among left n ⊎ (n ≡ number)
  pub mine : Among free number ⊎ (old.fresh ≤ number)
  pub takes : length free + new.fresh ≡ length left + old.fresh + 1

-- a new page has no record
no_record : (v : PagesView) (number slot link : ℕ) → free_link number (v.page number) ≡ Some link → record_in number (v.page number) slot ≡ None
no_record v number slot link is =
    elim (cases_Bool (is_record_page number (v.page number))) [
      | inl form ↦ absurd (free_not_record number number link (v.page number) is form)
      | inr bad ↦ unformed number (v.page number) slot bad
    ]

slot_none : (v : PagesView) (number place link : ℕ) → is_chain place ≡ false → page_of place ≡ number → free_link number (v.page number) ≡ Some link → record_at v.page place ≡ None
slot_none v number place link no_ here is =
    elim (cases_lt (page_of place) 4294967296) [
      | inr past ↦ far v.page place past
      | inl low ↦ record_slot v.page place low no_ ∙ (λ i. record_in (here i) (v.page (here i)) (slot_of place)) ∙ no_record v number (slot_of place) link is
    ]

-- no page of a place that is spoken of is new
pub not_new : (old : PagesView) (number place : ℕ) (bytes : List ℕ) → IsNew old number → Holds old place bytes → Each (λ n. n ≢ number) (pages_of old.page place)
not_new old number place bytes (inr past) holds = each_more (InUse old) (λ n. n ≢ number) (pages_of old.page place) (λ n was is. omega (arith, was.1, is, past)) holds.pages
not_new old number place bytes (inl link) holds =
    elim (cases_Bool (is_chain place)) [
      | inl chain ↦
          subst (λ (l : List ℕ). Each (λ n. n ≢ number) l) (sym (pages_chain old.page place chain))
          (each_more (λ n. is_overflow_page n (old.page n) ≡ true) (λ n. n ≢ number) (chain_pages 17 old.page (page_of place))
          (λ n over same. free_not_overflow number n link.0 (old.page n) (subst (λ (m : ℕ). free_link number (old.page m) ≡ Some link.0) (sym same) link.1) over)
          (each_formed 17 old.page (page_of place) bytes (chain_of old.page place bytes chain holds.at)))
      | inr no_ ↦
          subst (λ (l : List ℕ). Each (λ n. n ≢ number) l) (sym (pages_slot old.page place no_))
          (λ is. nothing bytes (record_at old.page place) (slot_none old number place link.0 no_ is link.1) holds.at, tt)
    ]

others_still : (number : ℕ) (bytes : List ℕ) (old new : PagesView) (free left : List ℕ) → PutNew number bytes old new free left → (other : ℕ) (earlier : List ℕ) → Holds old other earlier → StillHolds old new other earlier
others_still number bytes old new free left p other earlier holds =
    holds_still old new other earlier p.grows holds (each_more (λ n. n ≢ number) (λ n. new.page n ≡ old.page n) (pages_of old.page other) p.stores.others (not_new old number other earlier p.is_new holds))

-- another slot of the new page has no record
other_none : (number : ℕ) (bytes : List ℕ) (old new : PagesView) (free left : List ℕ) (place : ℕ) → PutNew number bytes old new free left → is_chain place ≡ false → page_of place ≡ number → place ≢ number * 65536 + 0 → record_at new.page place ≡ None
other_none number bytes old new free left place p no_ here differs =
    let k = slot_of place in
    let apart : k ≢ 0 = λ same. differs (same_place number 0 place here same) in
    record_slot new.page place (omega (arith, here, p.low)) no_
    ∙ (λ i. record_in (here i) (new.page (here i)) k)
    ∙ formed number (new.page number) k p.stores.form ∙ p.stores.alone k apart

its_pages : (number : ℕ) (pages : ℕ → List ℕ) → pages_of pages (number * 65536 + 0) ≡ number ∷ []
its_pages number pages = pages_slot pages (number * 65536 + 0) (no_chain number 0 (omega arith)) ∙ ap (λ (n : ℕ). n ∷ []) (the_page number 0 (omega arith))

is_there : (number : ℕ) (bytes : List ℕ) (old new : PagesView) (free left : List ℕ) → PutNew number bytes old new free left → record_at new.page (number * 65536 + 0) ≡ Some bytes
is_there number bytes old new free left p =
    let page = the_page number 0 (omega arith) in
    let at = the_slot number 0 (omega arith) in
    record_slot new.page (number * 65536 + 0) (omega (arith, page, p.low)) (no_chain number 0 (omega arith))
    ∙ (λ i. record_in (page i) (new.page (page i)) (at i))
    ∙ formed number (new.page number) 0 p.stores.form ∙ p.stores.there

pub was_none : (old : PagesView) (number other : ℕ) → IsNew old number → is_chain other ≡ false → page_of other ≡ number → InUse old (page_of other) → record_at old.page other ≡ None
was_none old number other (inl link) no_ here was = slot_none old number other link.0 no_ here link.1
was_none old number other (inr past) no_ here was = absurd (omega (arith, was.1, here, past))

pub later : (fresh n : ℕ) → 1 ≤ n → ((1 ≤ n) × (n < fresh) → ⊥) → fresh ≤ n
later fresh n some out = elim (cases_lt n fresh) [ inl below ↦ absurd (out (some, below)) | inr past ↦ past ]

pub in_use_of : (v : PagesView) (first : ℕ) (chain : List ℕ) (n : ℕ) → IsFreeChain v first chain → Among chain n → InUse v n
in_use_of v first [] n a among = absurd among
in_use_of v first (m ∷ rest) n a among =
    elim among [
      | inl is ↦ subst (InUse v) (sym is) a.1
      | inr more ↦ in_use_of v a.2.0 rest n a.2.2 more
    ]

slots_stay : (number : ℕ) (bytes : List ℕ) (old new : PagesView) (free left : List ℕ) (other : ℕ) → PutNew number bytes old new free left → is_chain other ≡ false → other ≢ number * 65536 + 0 → InUse new (page_of other) → SlotStays old new other
slots_stay number bytes old new free left other p no_ differs inside =
    elim (cases_eq (page_of other) number) [
      | inr away ↦ (
        (λ was. slot_equal old.page new.page other no_ (ap (λ (b : List ℕ). record_in (page_of other) b (slot_of other)) (p.stores.others (page_of other) away))),
        (λ out. elim (p.taken (page_of other) (inr (later old.fresh (page_of other) inside.0 out, inside.1))) [
          | inl among ↦ absurd (out (in_use_of old new.free left (page_of other) p.chain among))
          | inr is ↦ absurd (away is)
        ]),
      )
      | inl here ↦ (
        (λ was. other_none number bytes old new free left other p no_ here differs ∙ sym (was_none old number other p.is_new no_ here was)),
        (λ out. other_none number bytes old new free left other p no_ here differs),
      )
    ]

-- a record alone in a page that was taken for it
pub new_puts : (number current : ℕ) (bytes : List ℕ) (old new : PagesView) (free left : List ℕ) → PutNew number bytes old new free left → Puts old new current number free bytes (number * 65536 + 0)
new_puts number current bytes old new free left p =
    let place = number * 65536 + 0 in
    let mine = its_pages number new.page in
    let used : InUse new number = (p.some, p.inside) in
    record {
      holds = record { at = is_there number bytes old new free left p; pages = subst (λ (l : List ℕ). Each (InUse new) l) (sym mine) (used, tt) };
      owns = λ n among. elim (subst (λ (l : List ℕ). Among l n) mine among) [
        | inl is ↦ inr (subst (λ (m : ℕ). Among free m ⊎ (old.fresh ≤ m)) (sym is) p.mine)
        | inr never ↦ absurd never
      ];
      grows = p.grows;
      takes = omega (arith, p.takes);
      unlisted = λ earlier holds. (subst (λ (l : List ℕ). Each (λ n. n ≢ number) l) (its_pages number old.page) (not_new old number place earlier p.is_new holds)).0 refl;
      others = others_still number bytes old new free left p;
      apart = λ other earlier holds chained. let bad = subst (λ (b : Bool). IsTrue b) (no_chain number 0 (omega arith)) chained in cc;
      left = left;
      heap = record {
        least = omega (arith, p.least, p.grows);
        chain = free_still old new new.free left p.grows p.chain (each_more (λ n. n ≢ number) (λ n. new.page n ≡ old.page n) left p.stores.others p.apart);
        page = inr used;
      };
      fewer = p.fewer;
      taken = λ n which. elim (p.taken n which) [
        | inl among ↦ inl among
        | inr is ↦ inr (subst (λ (l : List ℕ). Among l n) (sym mine) (inl is))
      ];
      stays = λ n out. p.stores.others n (λ is. out (subst (λ (l : List ℕ). Among l n) (sym mine) (inl is)));
      slots = λ other slotted differs inside. slots_stay number bytes old new free left other p (false_from_ne_true (is_chain other) slotted) differs inside;
      records = λ was. inr p.stores.form;
    }

-- where no page is free, the least that was never taken is given
pub fresh_puts : (number current : ℕ) (bytes : List ℕ) (old new : PagesView) → StoresNew number bytes old new → number < 4294967296 → IsHeap old current [] → Puts old new current number [] bytes (number * 65536 + 0)
fresh_puts number current bytes old new stores low heap =
    let none_ : old.free ≡ 0 = heap.chain in
    let is : number ≡ old.fresh = stores.taken ∙ ap (λ (b : Bool). if b then old.fresh else old.free) (eq-eqb old.free 0 none_) in
    let free : Some new.free ≡ Some 0 = stores.free ∙ ap (λ (b : Bool). if b then Some 0 else free_link old.free (old.page old.free)) (eq-eqb old.free 0 none_) in
    let fresh : new.fresh ≡ old.fresh + 1 = stores.fresh ∙ ap (λ (b : Bool). if b then old.fresh + 1 else old.fresh) (eq-eqb old.free 0 none_) in
    let last : new.free ≡ 0 = cc in
    new_puts number current bytes old new [] [] (record {
      stores = stores;
      low = low;
      is_new = inr (omega (arith, is));
      some = omega (arith, is, heap.least);
      inside = omega (arith, is, fresh);
      grows = omega (arith, fresh);
      least = heap.least;
      chain = last;
      apart = tt;
      fewer = λ n among. among;
      taken = λ n which. elim which [ inl among ↦ absurd among | inr range ↦ inr (omega (arith, range.0, range.1, is, fresh)) ];
      mine = inr (omega (arith, is));
      takes = omega (arith, fresh);
    })

-- where pages are free, the first is given
pub free_puts : (number current n : ℕ) (bytes rest : List ℕ) (old new : PagesView) → StoresNew number bytes old new → number < 4294967296 → IsHeap old current (n ∷ rest) → Puts old new current number (n ∷ rest) bytes (number * 65536 + 0)
free_puts number current n bytes rest old new stores low heap =
    let first : old.free ≡ n = heap.chain.0 in
    let use_ = heap.chain.1 in
    let link = heap.chain.2 in
    let some : old.free ≢ 0 = λ zero_. omega (arith, zero_, first, use_.0) in
    let no_ = ne_eqb old.free 0 some in
    let is : number ≡ n = stores.taken ∙ ap (λ (b : Bool). if b then old.fresh else old.free) no_ ∙ first in
    let free : Some new.free ≡ Some link.0 = stores.free ∙ ap (λ (b : Bool). if b then Some 0 else free_link old.free (old.page old.free)) no_ ∙ (λ i. free_link (first i) (old.page (first i))) ∙ link.1 in
    let fresh : new.fresh ≡ old.fresh = stores.fresh ∙ ap (λ (b : Bool). if b then old.fresh + 1 else old.fresh) no_ in
    let next : link.0 ≡ new.free = cc in
    let whole : IsFreeChain old n (n ∷ rest) = (refl, use_, link) in
    new_puts number current bytes old new (n ∷ rest) rest (record {
      stores = stores;
      low = low;
      is_new = inl (link.0, subst (λ (m : ℕ). free_link m (old.page m) ≡ Some link.0) (sym is) link.1);
      some = omega (arith, is, use_.0);
      inside = omega (arith, is, use_.1, fresh);
      grows = omega (arith, fresh);
      least = heap.least;
      chain = subst (λ (m : ℕ). IsFreeChain old m rest) next link.2;
      apart = subst (λ (m : ℕ). Each (λ k. k ≢ m) rest) (sym is) (each_other n rest (not_again old n rest whole));
      fewer = λ m among. inr among;
      taken = λ m which. elim which [
        | inl among ↦ elim among [ inl same ↦ inr (same ∙ sym is) | inr more ↦ inl more ]
        | inr range ↦ absurd (omega (arith, range.0, range.1, fresh))
      ];
      mine = inl (inl is);
      takes = omega (arith, fresh);
    })

-- pages that are the same as those before
pub same_stores : (number : ℕ) (bytes : List ℕ) (first old new : PagesView) → SamePages first old → StoresNew number bytes old new → StoresNew number bytes first new
same_stores number bytes first old new same stores = record {
  taken = stores.taken ∙ (λ i. if same.free i == 0 then same.fresh i else same.free i);
  free = stores.free ∙ (λ i. if same.free i == 0 then Some 0 else free_link (same.free i) (same.pages i (same.free i)));
  fresh = stores.fresh ∙ (λ i. if same.free i == 0 then same.fresh i + 1 else same.fresh i);
  form = stores.form;
  there = stores.there;
  alone = stores.alone;
  others = λ n differs. stores.others n differs ∙ (λ i. same.pages i n);
}

pub taken_puts : (number current : ℕ) (bytes free : List ℕ) (old new : PagesView) → StoresNew number bytes old new → number < 4294967296 → IsHeap old current free → Puts old new current number free bytes (number * 65536 + 0)
taken_puts number current bytes [] old new stores low heap = fresh_puts number current bytes old new stores low heap
taken_puts number current bytes (n ∷ rest) old new stores low heap = free_puts number current n bytes rest old new stores low heap
