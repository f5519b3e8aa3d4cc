-- What the records of a step leave, by the calls that put and drop them.
use Rattle.std.proofs.Common.{◌≡◌, ◌≢◌, ℕ, List, ◌∷◌, sym, ◌∙◌, ap, subst, Option, Some, None}
use Rattle.std.specs.Prelude.{Contains, not, if◌then◌else◌}
use Rattle.std.proofs.lemmas.Bool.{ne_eqb}
use Rattle.gaz_page.specs.declared.tree_root.Root.{Root}
use Rattle.gaz_page.specs.Pages.{PagesView}
use Rattle.gaz_leaf.specs.Node.{Pair}
use Rattle.gaz_heap.specs.Place.{record_at}
use Rattle.gaz_rows.specs.Laid.{all_but}
use Rattle.gaz_rows.specs.Work.{HasAdded, HasDropped}
use Rattle.gaz_rows.specs.Steps.{RecordsLeft, with_new}
use Rattle.gaz_rows.proofs.Members.{head_is_in, tail_is_in}
use Rattle.gaz_rows.proofs.ReindexedLines.{none_is_some}
use Rattle.gaz_rows.proofs.PairsPlaces.{new_in, old_in, but_from}

module _ (new : Option (List ℕ)) (place : ℕ) (others : List ℕ) (bytes mid now : ℕ → Option (List ℕ)) where
  -- The records stay as they are left.
  pub left_on : RecordsLeft new place others bytes mid → ((p : ℕ) → Contains (with_new new place others) p → now p ≡ mid p) → RecordsLeft new place others bytes now
  left_on left same = record {
    there = λ line is. same place (new_in new place others line is) ∙ left.there line is;
    unlisted = left.unlisted;
    same = λ p has. same p (old_in new place others p has) ∙ left.same p has;
  }

  -- They were the same before.
  pub left_since : ((p : ℕ) → Contains others p → mid p ≡ bytes p) → RecordsLeft new place others mid now → RecordsLeft new place others bytes now
  left_since same left = record {
    there = left.there;
    unlisted = left.unlisted;
    same = λ p has. left.same p has ∙ same p has;
  }

-- a record is put
pub left_put : (old new : PagesView) (root now : Root) (pairs : List Pair) (places : List ℕ) (line : List ℕ) (place : ℕ) → HasAdded old new root now pairs places line place → RecordsLeft (Some line) place places (record_at old.page) (record_at new.page)
left_put old new root now pairs places line place added = record {
  there = λ l is. added.there ∙ is;
  unlisted = λ l is. added.unlisted;
  same = added.same;
}

-- a record is dropped
pub left_dropped : (old new : PagesView) (root : Root) (pairs : List Pair) (places : List ℕ) (gone place : ℕ) → HasDropped old new root pairs places gone → RecordsLeft None place (all_but gone places) (record_at old.page) (record_at new.page)
left_dropped old new root pairs places gone place dropped = record {
  there = λ l is. absurd (none_is_some l is);
  unlisted = λ l is. absurd (none_is_some l is);
  same = dropped.same;
}

-- ---- a record is put, and then another is dropped

module _ (place gone : ℕ) (places : List ℕ) (was : Contains places gone) (unlisted : Contains places place → ⊥) where
  differs : place ≢ gone
  differs is = unlisted (subst (Contains places) (sym is) was)

  -- the places then
  pub put_but : all_but gone (place ∷ places) ≡ place ∷ all_but gone places
  put_but = ap (λ b. if not b then place ∷ all_but gone places else all_but gone places) (ne_eqb place gone differs)

  still_unlisted : Contains (all_but gone places) place → ⊥
  still_unlisted has = unlisted (but_from (Some gone) places place has).0

  pub left_put_dropped : (old mid new : PagesView) (root now : Root) (pairs : List Pair) (line : List ℕ) → HasAdded old mid root now pairs places line place → HasDropped mid new now pairs (place ∷ places) gone
      → RecordsLeft (Some line) place (all_but gone places) (record_at old.page) (record_at new.page)
  left_put_dropped old mid new root now pairs line added dropped = record {
    there = λ l is. kept place (head_is_in place (all_but gone places)) ∙ added.there ∙ is;
    unlisted = λ l is. still_unlisted;
    same = λ p has. kept p (tail_is_in place (all_but gone places) p has) ∙ added.same p (but_from (Some gone) places p has).0;
  }
    where
      kept : (p : ℕ) → Contains (place ∷ all_but gone places) p → record_at new.page p ≡ record_at mid.page p
      kept p has = dropped.same p (subst (λ ps. Contains ps p) (sym put_but) has)
