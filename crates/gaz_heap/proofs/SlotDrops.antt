-- A record of a slot was dropped: what becomes of all others.
use Rattle.std.proofs.Common.{◌≡◌, ◌≢◌, ◌≤◌, ℕ, true, false, List, [], ◌∷◌, sym, ap, ◌∙◌, subst, arith, inl, inr, Some, None}
use Rattle.std.proofs.lemmas.Bool.{cases_Bool, cases_eq, cases_lt, false_from_ne_true}
use Rattle.gaz_page.specs.Free.{free_link}
use Rattle.gaz_page.specs.Pages.{PagesView}
use Rattle.gaz_slots.specs.RecordPage.{record_in, slot_record, is_record_page}
use Rattle.gaz_heap.specs.Place.{record_at, pages_of, page_of, slot_of, is_chain}
use Rattle.gaz_heap.specs.Heap.{Clears, GivesLast, HasUsed}
use Rattle.gaz_page.specs.Chains.{Each, Among, InUse, IsFreeChain}
use Rattle.gaz_heap.specs.Facts.{IsHeap, Holds, StillHolds, IsForRecords, Drops}
use Rattle.gaz_slots.proofs.Form.{used_record}
use Rattle.gaz_slots.proofs.PageKinds.{free_not_record}
use Rattle.gaz_slots.proofs.Recorded.{formed, unformed}
use Rattle.gaz_heap.proofs.Holds.{each_more, far, record_slot, pages_slot, holds_still, nothing}
use Rattle.gaz_heap.proofs.StoredPuts.{free_differ, chain_differs, slot_equal}
use Rattle.gaz_page.proofs.FreeChains.{free_still}

-- what both ways of dropping a slot have in common
pub record OneSlot (number slot place : ℕ) (old new : PagesView) : Type 0 where
  pub form : is_record_page number (old.page number) ≡ true
  pub page : page_of place ≡ number
  pub at : slot_of place ≡ slot
  pub no_ : is_chain place ≡ false
  pub fresh : new.fresh ≡ old.fresh
  pub others : (n : ℕ) → n ≢ number → new.page n ≡ old.page n
  pub same : (k : ℕ) → k ≢ slot → record_in number (new.page number) k ≡ record_in number (old.page number) k

its_page : (number slot place : ℕ) (old new : PagesView) (pages : ℕ → List ℕ) → OneSlot number slot place old new → pages_of pages place ≡ number ∷ []
its_page number slot place old new pages o = pages_slot pages place o.no_ ∙ ap (λ (n : ℕ). n ∷ []) o.page

same_slot : (place other : ℕ) → page_of other ≡ page_of place → slot_of other ≡ slot_of place → other ≡ place
same_slot place other page slot = omega arith

pub slots_same : (number slot place : ℕ) (old new : PagesView) (other : ℕ) → OneSlot number slot place old new → is_chain other ≡ false → other ≢ place → record_at new.page other ≡ record_at old.page other
slots_same number slot place old new other o no_ differs =
    slot_equal old.page new.page other no_
    (elim (cases_eq (page_of other) number) [
      | inr away ↦ ap (λ (p : List ℕ). record_in (page_of other) p (slot_of other)) (o.others (page_of other) away)
      | inl here ↦
          let apart : slot_of other ≢ slot = λ is. differs (same_slot place other (here ∙ sym o.page) (is ∙ sym o.at)) in
          subst (λ (m : ℕ). record_in m (new.page m) (slot_of other) ≡ record_in m (old.page m) (slot_of other)) (sym here) (o.same (slot_of other) apart)
    ])

is_gone : (number slot place : ℕ) (old new : PagesView) → OneSlot number slot place old new → record_in number (new.page number) slot ≡ None → record_at new.page place ≡ None
is_gone number slot place old new o none_ =
    elim (cases_lt (page_of place) 4294967296) [
      | inl low ↦ record_slot new.page place low o.no_ ∙ (λ i. record_in (o.page i) (new.page (o.page i)) (o.at i)) ∙ none_
      | inr past ↦ far new.page place past
    ]

pub others_same : (number slot place : ℕ) (old new : PagesView) → OneSlot number slot place old new → (other : ℕ) (earlier : List ℕ) → Holds old other earlier → other ≢ place → StillHolds old new other earlier
others_same number slot place old new o other earlier holds differs =
    let grows : old.fresh ≤ new.fresh = omega (arith, o.fresh) in
    elim (cases_Bool (is_chain other)) [
      | inl chain ↦ holds_still old new other earlier grows holds (each_more (λ n. n ≢ number) (λ n. new.page n ≡ old.page n) (pages_of old.page other) o.others (chain_differs old number other earlier o.form chain holds.at))
      | inr no_ ↦
          let same = pages_slot new.page other no_ ∙ sym (pages_slot old.page other no_) in
          record {
            holds = record {
              at = slots_same number slot place old new other o no_ differs ∙ holds.at;
              pages = subst (λ (l : List ℕ). Each (InUse new) l) (sym same) (each_more (InUse old) (InUse new) (pages_of old.page other) (λ n was. (was.0, omega (arith, was.1, grows))) holds.pages);
            };
            pages = same;
          }
    ]

-- what is supposed of pages of which a record page changed still holds
pub heap_kept : (number current : ℕ) (old new : PagesView) (free : List ℕ) → is_record_page number (old.page number) ≡ true → ((n : ℕ) → n ≢ number → new.page n ≡ old.page n) → new.free ≡ old.free → new.fresh ≡ old.fresh
    → IsHeap old current free → IsHeap new current free
heap_kept number current old new free form others first fresh heap =
    let grows : old.fresh ≤ new.fresh = omega (arith, fresh) in
    let chain = free_still old new old.free free grows heap.chain (each_more (λ n. n ≢ number) (λ n. new.page n ≡ old.page n) free others (free_differ old number old.free free form heap.chain)) in
    record {
      least = omega (arith, heap.least, grows);
      chain = subst (λ (n : ℕ). IsFreeChain new n free) (sym first) chain;
      page = elim heap.page [ inl none_ ↦ inl none_ | inr was ↦ inr (was.0, omega (arith, was.1, grows)) ];
    }

pub records_kept : (number current : ℕ) (old new : PagesView) → is_record_page number (new.page number) ≡ true → ((n : ℕ) → n ≢ number → new.page n ≡ old.page n) → IsForRecords old current → IsForRecords new current
records_kept number current old new form others was =
    elim (cases_eq current number) [
      | inl is ↦ inr (subst (λ (m : ℕ). is_record_page m (new.page m) ≡ true) (sym is) form)
      | inr away ↦ elim was [ inl none_ ↦ inl none_ | inr formed_ ↦ inr (subst (λ (p : List ℕ). is_record_page current p ≡ true) (sym (others current away)) formed_) ]
    ]

-- what is left where the page stays
pub cleared_drops : (number slot place current : ℕ) (old new : PagesView) (free : List ℕ) → Clears number slot old new → page_of place ≡ number → slot_of place ≡ slot → is_chain place ≡ false → InUse old number → IsHeap old current free
    → (number ≢ current → HasUsed (new.page number)) → Drops old new current free place
cleared_drops number slot place current old new free c page at no_ use_ heap stays =
    let o : OneSlot number slot place old new = record {
      form = c.form;
      page = page;
      at = at;
      no_ = no_;
      fresh = c.fresh;
      others = c.others;
      same = λ k differs. formed number (new.page number) k c.cleared.form ∙ c.cleared.others k differs ∙ sym (formed number (old.page number) k c.form);
    } in
    let mine = its_page number slot place old new old.page o in
    record {
      gone = is_gone number slot place old new o (formed number (new.page number) slot c.cleared.form ∙ c.cleared.free);
      others = λ other earlier holds differs share. others_same number slot place old new o other earlier holds differs;
      after = free;
      heap = heap_kept number current old new free c.form c.others c.free c.fresh heap;
      more = λ n among. among;
      given = λ n among. inl among;
      emptied = λ n among away empty.
          let is : n ≡ number = elim (subst (λ (l : List ℕ). Among l n) mine among) [ inl is ↦ is | inr never ↦ absurd never ] in
          let left = stays (λ same. away (is ∙ same)) in
          absurd (nothing _ _ (subst (λ (m : ℕ). (is_record_page m (new.page m) ≡ true → (k : ℕ) → slot_record (new.page m) k ≡ None)) is empty c.cleared.form left.0) (used_record (new.page number) left.0 left.1 left.2));
      whole = λ long. absurd (let wrong = sym long ∙ o.no_ in cc);
      stays = λ n out. c.others n (λ is. out (subst (λ (l : List ℕ). Among l n) (sym mine) (inl is)));
      fresh = c.fresh;
      slots = λ other slotted differs. slots_same number slot place old new other o (false_from_ne_true (is_chain other) slotted) differs;
      records = records_kept number current old new c.cleared.form c.others;
    }

no_record_in : (number slot link : ℕ) (v : PagesView) → free_link number (v.page number) ≡ Some link → record_in number (v.page number) slot ≡ None
no_record_in number slot link v is =
    elim (cases_Bool (is_record_page number (v.page number))) [
      | inl form ↦ absurd (free_not_record number number link (v.page number) is form)
      | inr bad ↦ unformed number (v.page number) slot bad
    ]

-- what is left where the page goes with its last record
pub given_drops : (number slot place current : ℕ) (old new : PagesView) (free : List ℕ) → GivesLast number slot old new → page_of place ≡ number → slot_of place ≡ slot → is_chain place ≡ false → InUse old number → IsHeap old current free → number ≢ current → Drops old new current free place
given_drops number slot place current old new free c page at no_ use_ heap away =
    let g = c.gives in
    let grows : old.fresh ≤ new.fresh = omega (arith, g.fresh) in
    let bad : (k : ℕ) → record_in number (new.page number) k ≡ None = λ k. no_record_in number k old.free new g.linked in
    let o : OneSlot number slot place old new = record {
      form = c.form;
      page = page;
      at = at;
      no_ = no_;
      fresh = g.fresh;
      others = g.others;
      same = λ k differs. bad k ∙ sym (formed number (old.page number) k c.form ∙ c.alone k differs);
    } in
    let mine = its_page number slot place old new old.page o in
    let chain = free_still old new old.free free grows heap.chain (each_more (λ n. n ≢ number) (λ n. new.page n ≡ old.page n) free g.others (free_differ old number old.free free c.form heap.chain)) in
    record {
      gone = is_gone number slot place old new o (bad slot);
      others = λ other earlier holds differs share. others_same number slot place old new o other earlier holds differs;
      after = number ∷ free;
      heap = record {
        least = omega (arith, heap.least, grows);
        chain = (g.free, (use_.0, omega (arith, use_.1, grows)), (old.free, g.linked, chain));
        page = elim heap.page [ inl none_ ↦ inl none_ | inr was ↦ inr (was.0, omega (arith, was.1, grows)) ];
      };
      more = λ n among. inr among;
      given = λ n among. elim among [ inl is ↦ inr (subst (λ (l : List ℕ). Among l n) (sym mine) (inl is)) | inr later ↦ inl later ];
      emptied = λ n among away_ empty. inl (elim (subst (λ (l : List ℕ). Among l n) mine among) [ inl is ↦ is | inr never ↦ absurd never ]);
      whole = λ long. absurd (let wrong = sym long ∙ o.no_ in cc);
      stays = λ n out. g.others n (λ is. out (subst (λ (l : List ℕ). Among l n) (sym mine) (inl is)));
      fresh = g.fresh;
      slots = λ other slotted differs. slots_same number slot place old new other o (false_from_ne_true (is_chain other) slotted) differs;
      records = λ was. elim was [ inl none_ ↦ inl none_ | inr form ↦ inr (subst (λ (p : List ℕ). is_record_page current p ≡ true) (sym (g.others current (λ is. away (sym is)))) form) ];
    }
