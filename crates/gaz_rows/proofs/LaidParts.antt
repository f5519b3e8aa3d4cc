-- What makes pages laid, each fact by itself, and what laid pages give.
use Rattle.std.proofs.Common.{◌≡◌, ◌≢◌, ◌≤◌, ◌<◌, ◌-◌, ◌+◌, ◌*◌, ◌⊎◌, ℕ, zero, suc, true, false, List, refl, sym, ◌∙◌, subst, arith, inl, inr}
use Rattle.std.specs.Prelude.{IsTrue, Contains}
use Rattle.std.proofs.lemmas.Bool.{cases_Bool, cases_eq, eq-eqb}
use Rattle.gaz_page.specs.declared.tree_root.Root.{Root}
use Rattle.gaz_page.specs.Pages.{PagesView}
use Rattle.gaz_page.specs.Chains.{Among, InUse, IsFreeChain}
use Rattle.gaz_page.proofs.FreeChains.{chain_one}
use Rattle.gaz_leaf.specs.Node.{Pair}
use Rattle.gaz_slots.specs.RecordPage.{is_record_page, is_used}
use Rattle.gaz_slots.specs.Overflow.{is_overflow_page}
use Rattle.gaz_tree.specs.Tree.{Reaches}
use Rattle.gaz_tree.specs.Stands.{Stands as IsTreeOf, OfTree}
use Rattle.gaz_tree.proofs.Chains.{on_chain}
use Rattle.gaz_heap.specs.Chain.{chain_pages}
use Rattle.gaz_heap.specs.Place.{pages_of, page_of, slot_of, is_chain}
use Rattle.gaz_heap.specs.Facts.{Holds, ShareNone, IsHeap, IsForRecords}
use Rattle.gaz_heap.proofs.Holds.{each_formed, chain_of, pages_chain, pages_slot}
use Rattle.gaz_heap.proofs.LongPuts.{each_at}
use Rattle.gaz_heap.proofs.NewPuts.{in_use_of}
use Rattle.gaz_rows.specs.Stands.{Use, tree, slots, chain, free, HasSlots, IsFor}
use Rattle.gaz_rows.specs.Laid.{IsLaid, ends_of, tree_in}
use Rattle.gaz_rows.proofs.LaidForms.{HasForm, OnePlace, same_use, tree_not_slots, tree_not_chain, tree_form, slot_form, linked_of, free_chain_of, among_of, contains_of}

pub chain_page_form : (v : PagesView) (place : ℕ) (bytes : List ℕ) (n : ℕ) → IsTrue (is_chain place) → Holds v place bytes → Among (pages_of v.page place) n → HasForm (chain place) n (v.page n)
chain_page_form v place bytes n is holds among =
    each_at (λ k. is_overflow_page k (v.page k) ≡ true) (chain_pages 17 v.page (page_of place)) n (each_formed 17 v.page (page_of place) bytes (chain_of v.page place bytes is holds.at))
    (subst (λ (l : List ℕ). Among l n) (pages_chain v.page place is) among)

-- the facts by which pages are laid
pub record Parts (v : PagesView) (root : Root) (pairs : List Pair) (kept places : List ℕ) : Type 0 where
  pub tree_is : IsTreeOf v (tree_in root) pairs
  pub held : (place : ℕ) → Contains places place → (bytes : List ℕ) × Holds v place bytes
  pub frees : List ℕ
  pub chain_is : IsFreeChain v v.free frees
  pub used : (page : ℕ) → 1 ≤ page → page < v.fresh → (what : Use) × IsFor v.page (ends_of v root) kept places frees what page
  pub low : (page : ℕ) → HasSlots kept places page → InUse v page
  pub in_form : (page : ℕ) → HasSlots kept places page → is_record_page page (v.page page) ≡ true
  pub no_more : (page slot : ℕ) → HasSlots kept places page → IsTrue (is_used (v.page page) slot) → Contains places (page * 65536 + slot)
  pub apart : (one other : ℕ) → Contains places one → Contains places other → one ≢ other → ShareNone v one other

module _ (v : PagesView) (root : Root) (pairs : List Pair) (kept places : List ℕ) (p : Parts v root pairs kept places) where
  For : Use → ℕ → Type 0
  For what page = IsFor v.page (ends_of v root) kept places p.frees what page

  form_of : (what : Use) (n : ℕ) → IsFor v.page (ends_of v root) kept places p.frees what n → HasForm what n (v.page n)
  form_of tree n is = tree_form v (tree_in root) pairs n p.tree_is is
  form_of slots n is = p.in_form n is
  form_of (chain place) n is = let held = p.held place is.0 in chain_page_form v place held.0 n is.1 held.1 (among_of (pages_of v.page place) n is.2)
  form_of free n is = on_chain v v.free n p.frees p.chain_is (among_of p.frees n is)

  one_place : (one other : Use) (n : ℕ) → IsFor v.page (ends_of v root) kept places p.frees one n → IsFor v.page (ends_of v root) kept places p.frees other n → OnePlace one other
  one_place (chain a) (chain b) n is also =
      elim (cases_eq a b) [
        | inl same ↦ same
        | inr differ ↦ absurd (p.apart a b is.0 also.0 differ is.1 also.1 n (among_of (pages_of v.page a) n is.2) (among_of (pages_of v.page b) n also.2))
      ]
  one_place (chain a) tree n is also = tt
  one_place (chain a) slots n is also = tt
  one_place (chain a) free n is also = tt
  one_place tree other n is also = tt
  one_place slots other n is also = tt
  one_place free other n is also = tt

  in_range : (n : ℕ) (what : Use) → IsFor v.page (ends_of v root) kept places p.frees what n → (1 ≤ n) × (n < v.fresh)
  in_range n tree is = let low = p.tree_is.lies n is in (omega (arith, low.start), low.end)
  in_range n slots is = p.low n is
  in_range n (chain place) is = let held = p.held place is.0 in each_at (InUse v) (pages_of v.page place) n held.1.pages (among_of (pages_of v.page place) n is.2)
  in_range n free is = in_use_of v v.free p.frees n p.chain_is (among_of p.frees n is)

  pub laid_of : IsLaid v root pairs kept places
  laid_of = record {
    tree = p.tree_is;
    held = p.held;
    used_once = record {
      frees = p.frees;
      free_chain = linked_of v v.free p.frees p.chain_is;
      used = p.used;
      once = λ n one other is also. same_use n (v.page n) one other (form_of one n is) (form_of other n also) (one_place one other n is also);
      in_range = in_range;
      in_form = p.in_form;
      no_more = p.no_more;
    };
  }

-- ---- what laid pages give

-- a page of a record is a record page or one of its chain
pub place_form : (v : PagesView) (place : ℕ) (bytes : List ℕ) (n : ℕ) → Holds v place bytes → Among (pages_of v.page place) n
    → (IsTrue (is_chain place) × HasForm (chain place) n (v.page n)) ⊎ ((is_chain place ≡ false) × (n ≡ page_of place) × HasForm slots n (v.page n))
place_form v place bytes n holds among =
    elim (cases_Bool (is_chain place)) [
      | inl is ↦ inl (is, chain_page_form v place bytes n is holds among)
      | inr slotted ↦ elim (subst (λ (l : List ℕ). Among l n) (pages_slot v.page place slotted) among) [
        | inl here ↦ inr (slotted, here, subst (λ (k : ℕ). is_record_page k (v.page k) ≡ true) (sym here) (slot_form v place bytes slotted holds.at))
        | inr nowhere ↦ absurd nowhere
      ]
    ]

-- no page of a record is the tree's
pub place_not_tree : (v : PagesView) (root : Root) (pairs : List Pair) (place : ℕ) (bytes : List ℕ) (n : ℕ) → IsTreeOf v (tree_in root) pairs → Holds v place bytes → Among (pages_of v.page place) n → OfTree v.page (tree_in root) n → ⊥
place_not_tree v root pairs place bytes n s holds among reach =
    let form = tree_form v (tree_in root) pairs n s reach in
    elim (place_form v place bytes n holds among) [
      | inl long ↦ tree_not_chain n place (v.page n) form long.1
      | inr short ↦ tree_not_slots n (v.page n) form short.2
    ]

itself : (pages : ℕ → List ℕ) (level page : ℕ) → Reaches pages level page page
itself pages zero page = refl
itself pages (suc level) page = inl refl

slot_below : (place : ℕ) → is_chain place ≡ false → slot_of place < 65535
slot_below place slotted =
    elim (cases_eq (slot_of place) 65535) [
      | inl is ↦ absurd (let wrong = sym (eq-eqb (slot_of place) 65535 is) ∙ slotted in cc)
      | inr differs ↦ omega (arith, differs)
    ]

-- the page of a place of a slot has slots
pub slots_at : (kept places : List ℕ) (place : ℕ) → is_chain place ≡ false → Contains places place → HasSlots kept places (page_of place)
slots_at kept places place slotted has =
    let is : place ≡ page_of place * 65536 + slot_of place = omega arith in
    inl (slot_of place, slot_below place slotted, subst (Contains places) is has)

-- with more places and more pages kept
pub more_slots : (kept more places others : List ℕ) → ((n : ℕ) → Contains kept n → Contains more n) → ((n : ℕ) → Contains places n → Contains others n) → (n : ℕ) → HasSlots kept places n → HasSlots more others n
more_slots kept more places others keep place n (inl has) = inl (has.0, has.1, place (n * 65536 + has.0) has.2)
more_slots kept more places others keep place n (inr has) = inr (keep n has.0, has.1)

pub more_for : (pages : ℕ → List ℕ) (root : Root) (kept more places others frees : List ℕ) → ((n : ℕ) → Contains kept n → Contains more n) → ((n : ℕ) → Contains places n → Contains others n)
    → (what : Use) (n : ℕ) → IsFor pages root kept places frees what n → IsFor pages root more others frees what n
more_for pages root kept more places others frees keep place tree n is = is
more_for pages root kept more places others frees keep place slots n is = more_slots kept more places others keep place n is
more_for pages root kept more places others frees keep place (chain p) n is = (place p is.0, is.1, is.2)
more_for pages root kept more places others frees keep place free n is = is

module _ (v : PagesView) (root : Root) (pairs : List Pair) (kept places : List ℕ) (laid : IsLaid v root pairs kept places) where
  -- the free pages are those of which the tree knows
  pub free_of : (n : ℕ) → Contains laid.used_once.frees n → Among laid.tree.chain.frees n
  free_of n has = subst (λ (l : List ℕ). Among l n) (chain_one v v.free laid.used_once.frees laid.tree.chain.frees (free_chain_of v root kept places laid.used_once) laid.tree.chain.chain) (among_of laid.used_once.frees n has)

  pub free_form : (n : ℕ) → Among laid.tree.chain.frees n → HasForm free n (v.page n)
  free_form n among = on_chain v v.free n laid.tree.chain.frees laid.tree.chain.chain among

  pub apart_of : (one other : ℕ) → Contains places one → Contains places other → one ≢ other → ShareNone v one other
  apart_of one other a b differ is also n here there = absurd (differ (by (laid.used_once.once n (chain one) (chain other) (a, is, contains_of (pages_of v.page one) n here) (b, also, contains_of (pages_of v.page other) n there))))
    where
      by : chain one ≡ chain other → one ≡ other
      by same = cc

  pub low_of : (n : ℕ) → HasSlots kept places n → InUse v n
  low_of n has = laid.used_once.in_range n slots has

  pub heap_of : (current : ℕ) → (current ≡ 0) ⊎ Contains kept current → IsHeap v current laid.tree.chain.frees
  heap_of current is = record {
    least = let top = laid.tree.lies root.top (itself v.page (root.height - 1) root.top) in omega (arith, top.start, top.end);
    chain = laid.tree.chain.chain;
    page = elim is [
      | inl none_ ↦ inl none_
      | inr has ↦ elim (cases_eq current 0) [ inl none_ ↦ inl none_ | inr some ↦ inr (low_of current (inr (has, some))) ]
    ];
  }

  pub records_of : (current : ℕ) → (current ≡ 0) ⊎ Contains kept current → IsForRecords v current
  records_of current (inl none_) = inl none_
  records_of current (inr has) = elim (cases_eq current 0) [ inl none_ ↦ inl none_ | inr some ↦ inr (laid.used_once.in_form current (inr (has, some))) ]
