-- A change from its first call to its last: calls on the area that isn't in use, and then the commit.
use Rattle.std.proofs.Common.{◌≡◌, ◌≢◌, ◌⊎◌, ◌∙◌, inl, inr, refl, sym, subst, None, Option, Ok, Err, Result}
use Rattle.std.specs.Prelude.{IfSome}
use Rattle.gaz_redo.specs.Slots.{SameBytes}
use Rattle.gaz_outside.proofs.Runs.{confined_start}
use Rattle.gaz_install.proofs.Named.{reads_idle}
use Rattle.gaz_num.specs.Refusal.{Refusal}
use Rattle.gaz_outside.specs.Outside.{ShelfView, files_of}
use Rattle.gaz_outside.specs.Station.{StationView, Outcome, Leaves as StopLeaves, LeavesOnly, Confined, AnyIn}
use Rattle.gaz_outside.proofs.Runs.{goes_far}
use Rattle.gaz_page.specs.declared.tree_root.Root.{Root}
use Rattle.gaz_pages.specs.Areas.{idle_area}
use Rattle.gaz_pages.specs.Fits.{Fits}
use Rattle.gaz_plain.specs.Gazetteer.{Gazetteer}
use Rattle.gaz_plain.specs.Load.{Files}
use Rattle.gaz_rows.specs.declared.fault.ChangeFault.{ChangeFault}
use Rattle.gaz_rows.specs.declared.fault.ChangeFault.TheVariants.{NotLoaded, Sequence, Absent, Shelf, TooLong, Malformed, Full, Station, Damaged, Memory}
use Rattle.gaz_rows.specs.Holds.{AllHold, IsOldOrNext}
use Rattle.gaz_change.proofs.Changing.{weaker}
use Rattle.gaz_change.specs.Change.{refusal_by, Changes, Gives, Leaves}
use Rattle.gaz_install.proofs.Idle.{holds_still, moments_still}

-- after a refusal the first gazetteer stands, but where the station failed it needn't
leaves_first : (first next : Gazetteer) (v : StationView) (fault : ChangeFault) → (fault ≢ Station → AllHold v first) → Leaves first next v (Err fault)
leaves_first first next v NotLoaded holds = holds (λ is. cc is)
leaves_first first next v (Sequence have) holds = holds (λ is. cc is)
leaves_first first next v (Absent file) holds = holds (λ is. cc is)
leaves_first first next v (Shelf file) holds = holds (λ is. cc is)
leaves_first first next v (TooLong file) holds = holds (λ is. cc is)
leaves_first first next v (Malformed file line reason) holds = holds (λ is. cc is)
leaves_first first next v (Full file line table) holds = holds (λ is. cc is)
leaves_first first next v Station holds = tt
leaves_first first next v (Damaged page) holds = holds (λ is. cc is)
leaves_first first next v Memory holds = holds (λ is. cc is)

module _ (before : Option Root) (v0 v1 : StationView) (fits : Fits before v0) (run : Confined (AnyIn (idle_area before)) v0 v1) (defined : Gazetteer → Files → Result Gazetteer Refusal) (shelf : ShelfView) (first : Gazetteer) (holds : AllHold v0 first) where
  abbrev Refused : ChangeFault → Files → Type 0
  Refused fault files = IfSome (refusal_by fault) (λ refusal. defined first files ≡ Err refusal)

  -- it ended before the commit
  pub ended : (fault : ChangeFault) → IfSome (files_of shelf) (Refused fault) → Changes defined first shelf v0 v1 (Err fault)
  ended fault refused = record {
    next = first;
    moments = moments_still before v0 fits v1 run first first holds;
    next_is = weaker (files_of shelf) (λ files h. inl refl) refused;
    gives = refused;
    leaves = leaves_first first first v1 fault (λ other. holds_still before v0 fits v1 run first holds);
  }

  module _ (next : Gazetteer) (v2 : StationView) (known : IfSome (files_of shelf) (λ files. defined first files ≡ Ok next)) (commits : LeavesOnly v1 v2 (IsOldOrNext first next v1)) where
    all_moments : LeavesOnly v0 v2 (IsOldOrNext first next v0)
    all_moments = goes_far v0 v1 v2 _ _ (moments_still before v0 fits v1 run first next holds) commits (λ c either. (either.0, subst (λ t. c.text ≡ t) run.printed either.1))

    -- the commit is made
    pub committed : AllHold v2 next → Changes defined first shelf v0 v2 (Ok tt)
    committed after = record {
      next = next;
      moments = all_moments;
      next_is = weaker (files_of shelf) (λ files is. inr is) known;
      gives = known;
      leaves = after;
    }

    -- the commit failed, or wasn't begun
    pub failed : (fault : ChangeFault) → refusal_by fault ≡ None → (fault ≢ Station → AllHold v2 first) → Changes defined first shelf v0 v2 (Err fault)
    failed fault outside still = record {
      next = next;
      moments = all_moments;
      next_is = weaker (files_of shelf) (λ files is. inr is) known;
      gives = weaker (files_of shelf) (λ files is. subst (λ o. IfSome o (λ refusal. defined first files ≡ Err refusal)) (sym outside) tt) known;
      leaves = leaves_first first next v2 fault still;
    }

-- A change is so, too, by another definition that gives the same, and by a view of the shelf with the same files.
pub changes_as : (defined other : Gazetteer → Files → Result Gazetteer Refusal) (first : Gazetteer) (shelf later : ShelfView) (old new : StationView) (r : Result Unit ChangeFault)
    → ((files : Files) → other first files ≡ defined first files) → files_of later ≡ files_of shelf → Changes defined first shelf old new r → Changes other first later old new r
changes_as defined other first shelf later old new r same files_are changes = record {
  next = changes.next;
  moments = changes.moments;
  next_is = subst (λ known. IfSome known (λ files. (changes.next ≡ first) ⊎ (other first files ≡ Ok changes.next))) (sym files_are)
      (weaker (files_of shelf) (λ files is. elim is [ inl stays ↦ inl stays | inr made ↦ inr (same files ∙ made) ]) changes.next_is);
  gives = subst (λ known. IfSome known (λ files. Gives changes.next (other first files) r)) (sym files_are)
      (weaker (files_of shelf) (λ files gives. subst (λ result. Gives changes.next result r) (sym (same files)) gives) changes.gives);
  leaves = changes.leaves;
}

-- no call was made
pub unmoved : (before : Option Root) (v : StationView) (fits : Fits before v) → ((c : Outcome) → v.left_since v.moment c → StopLeaves v c) → (defined : Gazetteer → Files → Result Gazetteer Refusal) (shelf : ShelfView) (first : Gazetteer) → AllHold v first
    → (fault : ChangeFault) → IfSome (files_of shelf) (λ files. IfSome (refusal_by fault) (λ refusal. defined first files ≡ Err refusal)) → Changes defined first shelf v v (Err fault)
unmoved before v fits now defined shelf first holds fault refused =
    ended before v v fits (reads_idle v v before (confined_start SameBytes (λ a d. refl) v now)) defined shelf first holds fault refused
