-- A record that is dropped leaves pages laid.
use Rattle.std.proofs.Common.{◌≡◌, ◌≢◌, ◌≤◌, ◌<◌, ◌-◌, ◌+◌, ◌*◌, ◌⊎◌, ℕ, true, false, List, sym, ap, ◌∙◌, subst, arith, inl, inr}
use Rattle.std.specs.Prelude.{IsTrue, Contains}
use Rattle.std.proofs.lemmas.Bool.{cases_Bool, cases_eq}
use Rattle.gaz_page.specs.declared.tree_root.Root.{Root}
use Rattle.gaz_page.specs.Pages.{PagesView}
use Rattle.gaz_page.specs.Chains.{Among}
use Rattle.gaz_leaf.specs.Node.{Pair}
use Rattle.gaz_slots.specs.RecordPage.{is_record_page, is_used}
use Rattle.gaz_slots.proofs.PageKinds.{overflow_not_record}
use Rattle.gaz_tree.specs.Stands.{OfTree}
use Rattle.gaz_tree.proofs.Changed.{reach_on}
use Rattle.gaz_tree.proofs.Trading.{in_chain}
use Rattle.gaz_heap.specs.Place.{pages_of, page_of, is_chain, record_at}
use Rattle.gaz_heap.specs.Facts.{Holds, StillHolds, Drops}
use Rattle.gaz_heap.proofs.Holds.{nothing, pages_slot}
use Rattle.gaz_heap.proofs.LongPuts.{among_or_not}
use Rattle.gaz_heap.proofs.StoredPuts.{the_page, no_chain}
use Rattle.gaz_together.proofs.Keeps.{tree_after_drop}
use Rattle.gaz_rows.specs.Stands.{Use, tree, slots, chain, free, HasSlots, IsFor}
use Rattle.gaz_rows.specs.Laid.{IsLaid, LaidWithout, ends_of, tree_in, all_but, AfterRecordDropped}
use Rattle.gaz_rows.proofs.LaidForms.{slot_form, contains_of, among_of}
use Rattle.gaz_rows.proofs.LaidParts.{Parts, laid_of, free_of, apart_of, low_of, heap_of, records_of, place_form, place_not_tree, more_slots}
use Rattle.gaz_rows.proofs.LaidSlots.{among_all, among_rest, used_has, used_small, used_or_none, used_back, slot_at, near_place, is_used_by}
use Rattle.gaz_rows.proofs.LaidRoom.{room_stays}

module _ (old new : PagesView) (root : Root) (pairs : List Pair) (current : ℕ) (kept places : List ℕ) (place : ℕ)
    (laid : IsLaid old root pairs kept places) (there : Contains places place) (current_is : (current ≡ 0) ⊎ Contains kept current) (alone : Contains kept (page_of place) → page_of place ≡ current)
    (drops : Drops old new current laid.tree.chain.frees place) where
  left : List ℕ
  left = all_but place places

  fewer : (n : ℕ) → HasSlots kept (all_but place places) n → HasSlots kept places n
  fewer n has = more_slots kept kept (all_but place places) places (λ m kept_is. kept_is) (λ other is. (among_all place places other is).0) n has

  holds : Holds old place (laid.held place there).0
  holds = (laid.held place there).1

  -- the other records
  still : (other : ℕ) (is : Contains places other) → other ≢ place → StillHolds old new other (laid.held other is).0
  still other is differs =
      drops.others other (laid.held other is).0 (laid.held other is).1 differs (apart_of old root pairs kept places laid place other there is (λ same. differs (sym same)))

  tree_stays : (n : ℕ) → OfTree old.page (tree_in root) n → new.page n ≡ old.page n
  tree_stays n reach = drops.stays n (λ among. place_not_tree old root pairs place (laid.held place there).0 n laid.tree holds among reach)

  -- a page of the place that has slots is its only one
  its_page : (n : ℕ) → HasSlots kept places n → Among (pages_of old.page place) n → (is_chain place ≡ false) × (n ≡ page_of place)
  its_page n has among = elim (place_form old place (laid.held place there).0 n holds among) [
    | inl long ↦ absurd (overflow_not_record n n (old.page n) long.1 (laid.used_once.in_form n has))
    | inr short ↦ (short.0, short.1)
  ]

  slot_holds : (n slot : ℕ) → slot < 65535 → (bytes : List ℕ) → Holds new (n * 65536 + slot) bytes → is_record_page n (new.page n) ≡ true
  slot_holds n slot small bytes has =
      subst (λ (k : ℕ). is_record_page k (new.page k) ≡ true) (the_page n slot small) (slot_form new (n * 65536 + slot) bytes (no_chain n slot small) has.at)

  forms : (n : ℕ) → HasSlots kept (all_but place places) n → is_record_page n (new.page n) ≡ true
  forms n has = elim (among_or_not (pages_of old.page place) n) [
    | inr away ↦ subst (λ (p : List ℕ). is_record_page n p ≡ true) (sym (drops.stays n away)) (laid.used_once.in_form n (fewer n has))
    | inl here ↦ by has (its_page n (fewer n has) here).1
  ]
    where
      by : HasSlots kept (all_but place places) n → n ≡ page_of place → is_record_page n (new.page n) ≡ true
      by (inl slot) is =
          let other = among_all place places (n * 65536 + slot.0) slot.2 in
          slot_holds n slot.0 slot.1 (laid.held (n * 65536 + slot.0) other.0).0 (still (n * 65536 + slot.0) other.0 other.1).holds
      by (inr kept_is) is =
          let same : n ≡ current = is ∙ alone (subst (Contains kept) is kept_is.0) in
          elim (drops.records (records_of old root pairs kept places laid current current_is)) [
            | inl none_ ↦ absurd (kept_is.1 (same ∙ none_))
            | inr form ↦ subst (λ (k : ℕ). is_record_page k (new.page k) ≡ true) (sym same) form
          ]

  -- a slot of the place's page that is used is that of another place
  used_still : (n slot : ℕ) → n ≡ page_of place → HasSlots kept places n → is_record_page n (new.page n) ≡ true → is_used (new.page n) slot ≡ true → Contains (all_but place places) (n * 65536 + slot)
  used_still n slot is has form used =
      let small = used_small n slot (new.page n) form used in
      let low : n < 4294967296 = subst (λ (k : ℕ). k < 4294967296) (sym is) (near_place old.page place (laid.held place there).0 holds.at) in
      let now = used_has (new.page n) slot used in
      let differs : n * 65536 + slot ≢ place =
      λ same. nothing now.0 (record_at new.page place) drops.gone (ap (λ (p : ℕ). record_at new.page p) (sym same) ∙ slot_at new.page n slot low small form ∙ now.1) in
      let same = drops.slots (n * 65536 + slot) (λ long. (let wrong = sym long ∙ no_chain n slot small in cc)) differs in
      among_rest place places (n * 65536 + slot)
      (laid.used_once.no_more n slot has (used_back old.page new.page n slot low small form (laid.used_once.in_form n has) same used)) differs

  no_more_now : (n slot : ℕ) → HasSlots kept (all_but place places) n → IsTrue (is_used (new.page n) slot) → Contains (all_but place places) (n * 65536 + slot)
  no_more_now n slot has used = elim (cases_eq n (page_of place)) [
    | inl is ↦ used_still n slot is (fewer n has) (forms n has) used
    | inr away ↦
        let small = used_small n slot (new.page n) (forms n has) used in
        let same = drops.stays n (λ among. away (its_page n (fewer n has) among).1) in
        among_rest place places (n * 65536 + slot) (laid.used_once.no_more n slot (fewer n has) (subst (λ (p : List ℕ). IsTrue (is_used p slot)) same used))
        (λ is. away (sym (the_page n slot small) ∙ ap (λ (p : ℕ). page_of p) is))
  ]

  -- what a page that had slots is for now
  slots_now : (n : ℕ) → 1 ≤ n → HasSlots kept places n → HasSlots kept (all_but place places) n ⊎ Among drops.after n
  slots_now n some (inr kept_is) = inl (inr kept_is)
  slots_now n some (inl slot) = elim (cases_eq (n * 65536 + slot.0) place) [
    | inr differs ↦ inl (inl (slot.0, slot.1, among_rest place places (n * 65536 + slot.0) slot.2 differs))
    | inl is ↦
        let here : n ≡ page_of place = sym (the_page n slot.0 slot.1) ∙ ap (λ (p : ℕ). page_of p) is in
        let slotted : is_chain place ≡ false = subst (λ (p : ℕ). is_chain p ≡ false) is (no_chain n slot.0 slot.1) in
        let among = subst (λ (l : List ℕ). Among l n) (sym (pages_slot old.page place slotted)) (inl here) in
        elim (cases_eq n current) [
          | inl same ↦ elim current_is [
            | inl none_ ↦ absurd (let zero_ = same ∙ none_ in omega (arith, some, zero_))
            | inr kept_is ↦ inl (inr (subst (Contains kept) (sym same) kept_is, λ none_. omega (arith, some, none_)))
          ]
          | inr other ↦ elim (used_or_none (new.page n)) [
            | inr none_ ↦ inr (drops.emptied n among other (λ form. none_))
            | inl used ↦ elim (cases_Bool (is_record_page n (new.page n))) [
              | inr bad ↦ inr (drops.emptied n among other (λ form. absurd (let wrong = sym form ∙ bad in cc)))
              | inl form ↦
                  let is_it = is_used_by (new.page n) used.0 used.1 used.2 in
                  inl (inl (used.0, used_small n used.0 (new.page n) form is_it, used_still n used.0 here (inl slot) form is_it))
            ]
          ]
        ]
  ]

  use_now : (what : Use) (n : ℕ) → 1 ≤ n → IsFor old.page (ends_of old root) kept places laid.used_once.frees what n → (now_for : Use) × IsFor new.page (ends_of new root) kept (all_but place places) drops.after now_for n
  use_now tree n some is = (tree, reach_on old.page new.page (root.height - 1) root.top n tree_stays is)
  use_now slots n some is = elim (slots_now n some is) [ inl has ↦ (slots, has) | inr among ↦ (free, contains_of drops.after n among) ]
  use_now (chain p) n some is = elim (cases_eq p place) [
    | inr differs ↦ (chain p, (among_rest place places p is.0 differs, is.1, subst (λ (l : List ℕ). Contains l n) (sym (still p is.0 differs).pages) is.2))
    | inl same ↦
        let among = among_of (pages_of old.page place) n (subst (λ (q : ℕ). Contains (pages_of old.page q) n) same is.2) in
        (free, contains_of drops.after n (drops.whole (subst (λ (q : ℕ). IsTrue (is_chain q)) same is.1) n among))
  ]
  use_now free n some is =
      (free, contains_of drops.after n (drops.more n (free_of old root pairs kept places laid n is)))

  parts : Parts new root pairs kept (all_but place places)
  parts = record {
    tree_is = tree_after_drop old new (tree_in root) pairs current laid.tree.chain.frees (laid.held place there).0 place laid.tree (heap_of old root pairs kept places laid current current_is) holds drops;
    held = λ other has. let was = among_all place places other has in ((laid.held other was.0).0, (still other was.0 was.1).holds);
    frees = drops.after;
    chain_is = drops.heap.chain;
    used = λ n some below. let was = laid.used_once.used n some (omega (arith, below, drops.fresh)) in use_now was.0 n some was.1;
    low = λ n has. let was = low_of old root pairs kept places laid n (fewer n has) in (was.0, omega (arith, was.1, drops.fresh));
    in_form = forms;
    no_more = no_more_now;
    apart = λ one other a b differ is also n here now.
        let first = among_all place places one a in
        let second = among_all place places other b in
        apart_of old root pairs kept places laid one other first.0 second.0 differ is also n
        (subst (λ (l : List ℕ). Among l n) (still one first.0 first.1).pages here) (subst (λ (l : List ℕ). Among l n) (still other second.0 second.1).pages now);
  }

  pub dropped : LaidWithout old new root pairs kept places place
  dropped = record {
    laid = laid_of new root pairs kept (all_but place places) parts;
    same = λ other has. let was = among_all place places other has in (still other was.0 was.1).holds.at ∙ sym (laid.held other was.0).1.at;
    room = room_stays old new laid.tree.chain drops.fresh
        (λ then n among. in_chain new n then (record { chain = record { frees = drops.after; chain = drops.heap.chain }; among = drops.more n among }));
  }

pub after_record_dropped : AfterRecordDropped
after_record_dropped old new root pairs current kept places place laid there current_is alone drops = dropped old new root pairs current kept places place laid there current_is alone drops
