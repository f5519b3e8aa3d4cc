-- A record that is put in place of another one leaves pages laid, and so do pages that stay the same.
use Rattle.std.proofs.Common.{◌≡◌, ◌≢◌, ◌<◌, ◌-◌, ◌+◌, ◌*◌, ℕ, true, List, refl, sym, subst, arith, inl, inr}
use Rattle.std.specs.Prelude.{IsTrue, Contains}
use Rattle.std.proofs.lemmas.Bool.{cases_eq, false_from_ne_true}
use Rattle.gaz_page.specs.declared.tree_root.Root.{Root}
use Rattle.gaz_page.specs.Pages.{PagesView, SamePages}
use Rattle.gaz_page.specs.Chains.{Among, IsFreeChain}
use Rattle.gaz_leaf.specs.Node.{Pair}
use Rattle.gaz_slots.specs.RecordPage.{is_record_page, is_used}
use Rattle.gaz_tree.specs.Stands.{OfTree}
use Rattle.gaz_tree.proofs.Changed.{reach_on}
use Rattle.gaz_tree.proofs.Trading.{in_chain, chain_same, few_same}
use Rattle.gaz_heap.specs.Place.{pages_of, page_of, is_chain}
use Rattle.gaz_heap.specs.Facts.{Holds, StillHolds, Replaces}
use Rattle.gaz_heap.proofs.Holds.{pages_slot}
use Rattle.gaz_together.proofs.Keeps.{tree_after_replace}
use Rattle.gaz_rows.specs.Stands.{Use, tree, slots, chain, free, HasSlots, IsFor}
use Rattle.gaz_rows.specs.Laid.{IsLaid, LaidAgain, HasRoom, ends_of, tree_in, AfterReplaced}
use Rattle.gaz_rows.proofs.LaidForms.{contains_of}
use Rattle.gaz_rows.proofs.LaidParts.{Parts, laid_of, free_of, apart_of, low_of, heap_of, place_not_tree}
use Rattle.gaz_rows.proofs.LaidSlots.{among_all, used_small, used_back, near_place}
use Rattle.gaz_rows.proofs.LaidRoom.{room_stays}

module _ (old new : PagesView) (root : Root) (pairs : List Pair) (kept places : List ℕ) (place : ℕ) (bytes : List ℕ)
    (laid : IsLaid old root pairs kept places) (there : Contains places place) (replaces : Replaces old new place bytes) where
  holds : Holds old place (laid.held place there).0
  holds = (laid.held place there).1

  -- the other records
  still : (other : ℕ) (is : Contains places other) → other ≢ place → StillHolds old new other (laid.held other is).0
  still other is differs = replaces.others other (laid.held other is).0 (laid.held other is).1 differs

  held_now : (other : ℕ) → Contains places other → (its : List ℕ) × Holds new other its
  held_now other is = elim (cases_eq other place) [
    | inl same ↦ (bytes, subst (λ (p : ℕ). Holds new p bytes) (sym same) (replaces.holds (laid.held place there).0 holds))
    | inr differs ↦ ((laid.held other is).0, (still other is differs).holds)
  ]

  -- each record stands on the pages on which one stood there before
  pages_stay : (other : ℕ) → Contains places other → pages_of new.page other ≡ pages_of old.page other
  pages_stay other is = elim (cases_eq other place) [
    | inl same ↦ subst (λ (p : ℕ). pages_of new.page p ≡ pages_of old.page p) (sym same) replaces.pages
    | inr differs ↦ (still other is differs).pages
  ]

  its_page : (n : ℕ) → n ≡ page_of place → Among (pages_of old.page place) n
  its_page n is = subst (λ (l : List ℕ). Among l n) (sym (pages_slot old.page place (false_from_ne_true (is_chain place) replaces.slotted))) (inl is)

  tree_stays : (n : ℕ) → OfTree old.page (tree_in root) n → new.page n ≡ old.page n
  tree_stays n reach = replaces.stays n (λ is. place_not_tree old root pairs place (laid.held place there).0 n laid.tree holds (its_page n is) reach)

  chain_now : IsFreeChain new new.free laid.tree.chain.frees
  chain_now = (replaces.heap 0 laid.tree.chain.frees (heap_of old root pairs kept places laid 0 (inl refl))).chain

  forms : (n : ℕ) → HasSlots kept places n → is_record_page n (new.page n) ≡ true
  forms n has = elim (cases_eq n (page_of place)) [
    | inl is ↦ subst (λ (k : ℕ). is_record_page k (new.page k) ≡ true) (sym is) replaces.form
    | inr away ↦ subst (λ (p : List ℕ). is_record_page n p ≡ true) (sym (replaces.stays n away)) (laid.used_once.in_form n has)
  ]

  -- a used slot of the page of the place is that of the place, or was used
  used_here : (n slot : ℕ) → n ≡ page_of place → HasSlots kept places n → is_used (new.page n) slot ≡ true → Contains places (n * 65536 + slot)
  used_here n slot is has used =
      let form = forms n has in
      let low : n < 4294967296 = subst (λ (k : ℕ). k < 4294967296) (sym is) (near_place old.page place (laid.held place there).0 holds.at) in
      elim (cases_eq (n * 65536 + slot) place) [
        | inl same ↦ subst (Contains places) (sym same) there
        | inr differs ↦
            laid.used_once.no_more n slot has
            (used_back old.page new.page n slot low (used_small n slot (new.page n) form used) form (laid.used_once.in_form n has) (replaces.rest (n * 65536 + slot) differs) used)
      ]

  no_more_now : (n slot : ℕ) → HasSlots kept places n → IsTrue (is_used (new.page n) slot) → Contains places (n * 65536 + slot)
  no_more_now n slot has used = elim (cases_eq n (page_of place)) [
    | inl is ↦ used_here n slot is has used
    | inr away ↦ laid.used_once.no_more n slot has (subst (λ (p : List ℕ). IsTrue (is_used p slot)) (replaces.stays n away) used)
  ]

  -- each page is for what it was
  use_now : (what : Use) (n : ℕ) → IsFor old.page (ends_of old root) kept places laid.used_once.frees what n → IsFor new.page (ends_of new root) kept places laid.tree.chain.frees what n
  use_now tree n is = reach_on old.page new.page (root.height - 1) root.top n tree_stays is
  use_now slots n is = is
  use_now (chain p) n is = (is.0, is.1, subst (λ (l : List ℕ). Contains l n) (sym (pages_stay p is.0)) is.2)
  use_now free n is = contains_of laid.tree.chain.frees n (free_of old root pairs kept places laid n is)

  parts : Parts new root pairs kept places
  parts = record {
    tree_is = tree_after_replace old new (tree_in root) pairs place bytes laid.tree replaces;
    held = held_now;
    frees = laid.tree.chain.frees;
    chain_is = chain_now;
    used = λ n some below. let was = laid.used_once.used n some (omega (arith, below, replaces.fresh)) in (was.0, use_now was.0 n was.1);
    low = λ n has. let was = low_of old root pairs kept places laid n has in (was.0, omega (arith, was.1, replaces.fresh));
    in_form = forms;
    no_more = no_more_now;
    apart = λ one other a b differ is also n here now.
        apart_of old root pairs kept places laid one other a b differ is also n
        (subst (λ (l : List ℕ). Among l n) (pages_stay one a) here) (subst (λ (l : List ℕ). Among l n) (pages_stay other b) now);
  }

  pub replaced : LaidAgain old new root pairs kept places place
  replaced = record {
    laid = laid_of new root pairs kept places parts;
    same = λ other has. replaces.rest other (among_all place places other has).1;
    room = room_stays old new laid.tree.chain replaces.fresh
        (λ then n among. in_chain new n then (record { chain = record { frees = laid.tree.chain.frees; chain = chain_now }; among = among }));
  }

pub after_replaced : AfterReplaced
after_replaced old new root pairs kept places place bytes laid there replaces = replaced old new root pairs kept places place bytes laid there replaces

-- ---- pages that stay the same

module _ (old new : PagesView) (same : SamePages old new) where
  -- the same pages, with the counts of before
  abbrev as_new : PagesView
  as_new = record old { page = new.page; free = new.free; fresh = new.fresh }

  is_same : old ≡ as_new
  is_same i = record old { page = sym same.pages i; free = sym same.free i; fresh = sym same.fresh i }

  -- Of pages only their bytes, the free ones and the least one never taken matter.
  pub laid_same : (root : Root) (pairs : List Pair) (kept places : List ℕ) → IsLaid old root pairs kept places → IsLaid new root pairs kept places
  laid_same root pairs kept places laid =
      let moved : IsLaid as_new root pairs kept places = subst (λ (v : PagesView). IsLaid v root pairs kept places) is_same laid in
      record {
        tree = record {
          top = moved.tree.top;
          lies = moved.tree.lies;
          chain = chain_same old new same laid.tree.chain;
        };
        held = λ place has. let its = moved.held place has in (its.0, record { at = its.1.at; pages = its.1.pages });
        used_once = moved.used_once;
      }

  pub room_same : (n : ℕ) → HasRoom n old → HasRoom n new
  room_same n room then =
      let before = chain_same new old (record { pages = sym same.pages; free = sym same.free; fresh = sym same.fresh }) then in
      let least = room before in
      omega (arith, least, few_same 0 old new same before then)
