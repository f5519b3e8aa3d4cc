-- A key that is put or taken out leaves pages laid.
use Rattle.std.proofs.Common.{◌≡◌, ◌⊎◌, ℕ, true, List, sym, ◌∙◌, subst, arith, inl, inr}
use Rattle.std.specs.Prelude.{IsTrue, Contains}
use Rattle.std.proofs.lemmas.Bool.{cases_lt}
use Rattle.gaz_page.specs.declared.tree_root.Root.{Root}
use Rattle.gaz_page.specs.Pages.{PagesView}
use Rattle.gaz_page.specs.Chains.{Among, IsTakenSince}
use Rattle.gaz_leaf.specs.Node.{Pair}
use Rattle.gaz_slots.specs.RecordPage.{is_record_page, is_used}
use Rattle.gaz_tree.specs.Put.{HasChain, IsFree, Changes}
use Rattle.gaz_tree.specs.Stands.{Stands as IsTreeOf, OfTree}
use Rattle.gaz_tree.proofs.Trading.{in_chain}
use Rattle.gaz_heap.specs.Facts.{StillHolds}
use Rattle.gaz_together.proofs.Keeps.{record_after_key}
use Rattle.gaz_rows.specs.Stands.{Use, tree, slots, chain, free, HasSlots, IsFor}
use Rattle.gaz_rows.specs.Laid.{IsLaid, SameRecords, ends_of, tree_in, AfterKeyPut, AfterKeyRemoved}
use Rattle.gaz_rows.proofs.LaidForms.{tree_form, tree_not_slots, tree_not_free, free_not_slots, contains_of}
use Rattle.gaz_rows.proofs.LaidParts.{Parts, laid_of, free_of, free_form, apart_of, low_of}
use Rattle.gaz_rows.proofs.LaidRoom.{room_stays}

module _ (old new : PagesView) (root now : Root) (pairs more : List Pair) (kept places : List ℕ) (laid : IsLaid old root pairs kept places) (after : IsTreeOf new (tree_in now) more)
    (all : (n : ℕ) → (OfTree old.page (tree_in root) n ⊎ IsFree old n) ⊎ IsTakenSince old new n → OfTree new.page (tree_in now) n ⊎ IsFree new n) (changes : Changes (OfTree old.page (tree_in root)) old new) where
  still : (place : ℕ) → Contains places place → (bytes : List ℕ) × StillHolds old new place bytes
  still place has = let was = laid.held place has in (was.0, record_after_key old new (tree_in root) pairs place was.0 laid.tree changes was.1)

  -- a page with slots stays
  stays : (n : ℕ) → HasSlots kept places n → new.page n ≡ old.page n
  stays n has =
      let form = laid.used_once.in_form n has in
      changes.others n (λ reach. tree_not_slots n (old.page n) (tree_form old (tree_in root) pairs n laid.tree reach) form)
      (λ spare. elim spare [
        | inl linked ↦ free_not_slots n (old.page n) linked form
        | inr past ↦ (let low = low_of old root pairs kept places laid n has in omega (arith, low.1, past))
      ])

  -- what a page of the tree, a free one or one that was newly taken is for now
  moved : (n : ℕ) → (OfTree old.page (tree_in root) n ⊎ IsFree old n) ⊎ IsTakenSince old new n → (what : Use) × IsFor new.page (ends_of new now) kept places after.chain.frees what n
  moved n was = elim (all n was) [
    | inl reach ↦ (tree, reach)
    | inr linked ↦ (free, contains_of after.chain.frees n (in_chain new n after.chain linked))
  ]

  used_as : (what : Use) (n : ℕ) → IsFor old.page (ends_of old root) kept places laid.used_once.frees what n → (now_for : Use) × IsFor new.page (ends_of new now) kept places after.chain.frees now_for n
  used_as tree n is = moved n (inl (inl is))
  used_as slots n is = (slots, is)
  used_as (chain p) n is = (chain p, (is.0, is.1, subst (λ (l : List ℕ). Contains l n) (sym (still p is.0).1.pages) is.2))
  used_as free n is =
      moved n (inl (inr (record { chain = laid.tree.chain; among = free_of old root pairs kept places laid n is })))

  parts : Parts new now more kept places
  parts = record {
    tree_is = after;
    held = λ place has. let s = still place has in (s.0, s.1.holds);
    frees = after.chain.frees;
    chain_is = after.chain.chain;
    used = λ n some below. elim (cases_lt n old.fresh) [
      | inl low ↦ (let was = laid.used_once.used n some low in used_as was.0 n was.1)
      | inr late ↦ moved n (inr (late, below))
    ];
    low = λ n has. let was = low_of old root pairs kept places laid n has in (was.0, omega (arith, was.1, changes.grows));
    in_form = λ n has. subst (λ (p : List ℕ). is_record_page n p ≡ true) (sym (stays n has)) (laid.used_once.in_form n has);
    no_more = λ n slot has used. laid.used_once.no_more n slot has (subst (λ (p : List ℕ). IsTrue (is_used p slot)) (stays n has) used);
    apart = λ one other a b differ is also n here there.
        apart_of old root pairs kept places laid one other a b differ is also n
        (subst (λ (l : List ℕ). Among l n) (still one a).1.pages here) (subst (λ (l : List ℕ). Among l n) (still other b).1.pages there);
  }

  pub key_laid : IsLaid new now more kept places
  key_laid = laid_of new now more kept places parts

  pub key_same : SameRecords old new places
  unfolding still
  key_same place has = let s = still place has in let was = laid.held place has in s.1.holds.at ∙ sym was.1.at

pub after_key_put : AfterKeyPut
after_key_put old new root now pairs more kept places laid after trades changes few = record {
  laid = key_laid old new root now pairs more kept places laid after trades.all changes;
  same = key_same old new root now pairs more kept places laid after trades.all changes;
  room = λ n room linked. let least = room laid.tree.chain in let taken = few laid.tree.chain linked in omega (arith, least, taken);
}

pub after_key_removed : AfterKeyRemoved
after_key_removed old new root now pairs fewer kept places laid after fresh returns changes within = record {
  laid = key_laid old new root now pairs fewer kept places laid after all changes;
  same = key_same old new root now pairs fewer kept places laid after all changes;
  room = λ n room. room_stays old new laid.tree.chain fresh still_free n (λ linked. let least = room linked in omega (arith, least));
}
  where
    all : (n : ℕ) → (OfTree old.page (tree_in root) n ⊎ IsFree old n) ⊎ IsTakenSince old new n → OfTree new.page (tree_in now) n ⊎ IsFree new n
    all n (inl was) = returns.all n was
    all n (inr late) = absurd (omega (arith, late.0, late.1, fresh))

    still_free : (then : HasChain new) (n : ℕ) → Among laid.tree.chain.frees n → Among then.frees n
    still_free then n among = elim (returns.all n (inr (record { chain = laid.tree.chain; among = among }))) [
      | inr linked ↦ in_chain new n then linked
      | inl reach ↦
          absurd (tree_not_free n (old.page n) (tree_form old (tree_in root) pairs n laid.tree (within n reach)) (free_form old root pairs kept places laid n among))
    ]
