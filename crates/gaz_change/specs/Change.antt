-- What a load or a day does, to a store and to a mirror.
use Rattle.std.specs.Prelude.{◌≡◌, ◌≤◌, ◌+◌, ◌*◌, ◌⊎◌, ℕ, Bool, ⊤, List, [], ◌∷◌, length, sum_by, unwrap_or, Option, Some, None, IfSome, IsSome, IsTrue, Result, Ok, Err, IfErr, OnOk, Contains}
use Rattle.gaz_outside.specs.Outside.{ShelfView, RisesOnce, SameFiles, FindsFiles, SameNumbers, OpensNumber, files_of}
pub use Rattle.gaz_outside.specs.Outside.{NoneOpen}
use Rattle.gaz_outside.specs.Station.{StationView, LeavesOnly}
use Rattle.gaz_num.specs.declared.words.FileName.{FileName}
use Rattle.gaz_num.specs.Words.{file_text}
use Rattle.gaz_num.specs.Pieces.{lines_within}
use Rattle.gaz_num.specs.Refusal.{Refusal, not_loaded, sequence, absent, too_long, malformed, full, ◌>>=◌}
use Rattle.gaz_plain.specs.Gazetteer.{Gazetteer}
use Rattle.gaz_plain.specs.Fold.{fold}
use Rattle.gaz_plain.specs.Load.{Files, files_of as files_named}
use Rattle.gaz_page.specs.declared.tree_root.Root.{Root}
use Rattle.gaz_page.specs.Pages.{PagesView}
use Rattle.gaz_rows.specs.declared.fault.ChangeFault.{ChangeFault}
use Rattle.gaz_rows.specs.declared.fault.ChangeFault.TheVariants.{NotLoaded, Sequence, Absent, Shelf, TooLong, Malformed, Full, Station, Damaged, Memory}
use Rattle.gaz_rows.specs.declared.fault.StepFault.{StepFault}
use Rattle.gaz_rows.specs.declared.fault.StepFault.TheVariants as step
use Rattle.gaz_rows.specs.Store.{IsStore}
use Rattle.gaz_rows.specs.Holds.{AllHold, IsOldOrNext}

-- the refusal that a fault is by definition, or none where the outside or memory is to blame
abbrev pub refusal_by : ChangeFault → Option Refusal
refusal_by NotLoaded = Some not_loaded
refusal_by (Sequence have) = Some (sequence have)
refusal_by (Absent file) = Some (absent file)
refusal_by (TooLong file) = Some (too_long file)
refusal_by (Malformed file line reason) = Some (malformed file line reason)
refusal_by (Full file line table) = Some (full file line table)
refusal_by other = None

-- The answer is the defined one, where it isn't a fault of the outside or want of memory.
abbrev pub Gives : Gazetteer → Result Gazetteer Refusal → Result Unit ChangeFault → Type 0
Gives next defined (Ok done) = defined ≡ Ok next
Gives next defined (Err fault) = IfSome (refusal_by fault) (λ refusal. defined ≡ Err refusal)

-- The fault isn't damage.
abbrev pub IsSound : ChangeFault → Type 0
IsSound (Damaged page) = ⊥
IsSound other = ⊤

-- The shelf didn't fail.
pub record IsUnblamed (old new : ShelfView) : Type 0 where
  pub faults : new.faults ≡ old.faults
  pub last : new.last_fault ≡ old.last_fault

-- The shelf failed once, at this file.
pub record FailedAt (file : FileName) (old new : ShelfView) : Type 0 where
  pub faults : RisesOnce old.faults new.faults
  pub last : new.last_fault ≡ Some (file_text file)

-- The shelf failed once, at the file that is named, or didn't fail.
abbrev pub Blamed : {A : Type 0} → ShelfView → ShelfView → Result A ChangeFault → Type 0
Blamed old new (Err (Shelf file)) = FailedAt file old new
Blamed old new other = IsUnblamed old new

-- The file is one of these, and none before it is absent.
abbrev pub IsReached : Files → FileName → List FileName → Type 0
IsReached files file [] = ⊥
IsReached files file (name ∷ names) = (name ≡ file) ⊎ (IsSome (files (file_text name)) × IsReached files file names)

-- The file at which the shelf failed is one of these, and none before it is absent.
abbrev pub BlamesReached : {A : Type 0} → Files → List FileName → Result A ChangeFault → Type 0
BlamesReached files names (Err (Shelf file)) = IsReached files file names
BlamesReached files names other = ⊤

-- After a refusal for the date the shelf is as it was. After another answer no number is open, and the shelf may have found other files.
abbrev pub LeavesShelf : ShelfView → ShelfView → Result Unit ChangeFault → Type 0
LeavesShelf old new (Err NotLoaded) = SameNumbers old new × SameFiles old new
LeavesShelf old new (Err (Sequence have)) = SameNumbers old new × SameFiles old new
LeavesShelf old new other = NoneOpen new × FindsFiles old new

-- A number was given for the file, or the file is absent, or the shelf failed at it.
abbrev pub Opened : FileName → ShelfView → ShelfView → Result ℕ ChangeFault → Type 0
Opened name old new (Ok number) = OpensNumber (file_text name) old new number × IfSome (files_of new) (λ files. IsSome (files (file_text name)))
Opened name old new (Err (Absent file)) = (file ≡ name) × SameNumbers old new × IfSome (files_of new) (λ files. files (file_text name) ≡ None)
Opened name old new (Err (Shelf file)) = (file ≡ name) × SameNumbers old new
Opened name old new (Err other) = ⊥

-- Each number stands for its name; there may be more numbers.
abbrev pub AreOpen : List FileName → List ℕ → ShelfView → Type 0
AreOpen [] numbers view = ⊤
AreOpen (name ∷ names) [] view = ⊥
AreOpen (name ∷ names) (number ∷ numbers) view = (view.opened number ≡ Some (file_text name)) × AreOpen names numbers view

-- Each file is there.
abbrev pub AreThere : Files → List FileName → Type 0
AreThere files [] = ⊤
AreThere files (name ∷ names) = IsSome (files (file_text name)) × AreThere files names

-- The files are there, or the first that isn't is told, or the shelf failed at one and none before it is absent.
abbrev pub AreFound : {A : Type 0} → Files → List FileName → Result A ChangeFault → Type 0
AreFound files names (Ok _) = AreThere files names
AreFound files names (Err (Absent file)) = files_named files names ≡ Err (absent file)
AreFound files names (Err (Shelf file)) = IsReached files file names
AreFound files names (Err other) = ⊥

-- what a gazetteer becomes by the files of these names, or the first that is absent
abbrev pub fold_named : Files → List FileName → Gazetteer → Result Gazetteer Refusal
fold_named files names gaz = files_named files names >>= λ found. fold gaz found

-- how many lines the files of these names have together
abbrev pub lines_of : Files → List FileName → ℕ
lines_of files names = sum_by (λ name. length (lines_within (unwrap_or (files (file_text name)) []))) names

-- the fault of a line of a file, for that of its step
abbrev pub fault_at : FileName → ℕ → StepFault → ChangeFault
fault_at file line (step.Malformed reason) = Malformed file line reason
fault_at file line (step.Full table) = Full file line table
fault_at file line step.Failed = Station
fault_at file line (step.Damaged page) = Damaged page
fault_at file line step.Memory = Memory

-- The fault is one that a fold of the file may have.
abbrev pub IsFaultOfFile : FileName → ChangeFault → Type 0
IsFaultOfFile name (Shelf file) = file ≡ name
IsFaultOfFile name (TooLong file) = file ≡ name
IsFaultOfFile name (Malformed file line reason) = file ≡ name
IsFaultOfFile name (Full file line table) = file ≡ name
IsFaultOfFile name Station = ⊤
IsFaultOfFile name (Damaged page) = ⊤
IsFaultOfFile name Memory = ⊤
IsFaultOfFile name other = ⊥

-- The fault is one that a fold of one of the files may have.
abbrev pub IsFaultOfFiles : List FileName → ChangeFault → Type 0
IsFaultOfFiles names fault = (name : FileName) × Contains names name × IsFaultOfFile name fault

-- The fault is one of an opening of files: one is absent, or the shelf failed.
abbrev pub IsOfOpening : ChangeFault → Type 0
IsOfOpening (Absent file) = ⊤
IsOfOpening (Shelf file) = ⊤
IsOfOpening other = ⊥

-- The fault is one of the date.
abbrev pub IsOfDate : ChangeFault → Type 0
IsOfDate NotLoaded = ⊤
IsOfDate (Sequence have) = ⊤
IsOfDate other = ⊥

-- What lines made of a store that stood for a gazetteer. After `Ok` it stands for the next one, which has the same date, and where the
-- files are told it is the defined one. A fault is no damage, and where the files are told it is the defined one too.
pub record Folds {X : Type 0} (known : Option X) (defined : X → Result Gazetteer Refusal) (first : Gazetteer) (new : PagesView) (now : Root) (result : Result Unit ChangeFault) : Type 0 where
  pub next : Gazetteer
  pub date : next.date ≡ first.date
  pub stands : OnOk result (IsStore next new now)
  pub gives : IfSome known (λ told. Gives next (defined told) result)
  pub sound : IfErr result IsSound

-- The count of faults of what holds the pages rises by one where it failed, and else stands.
abbrev pub FailsOnce : ℕ → ℕ → Result Unit ChangeFault → Type 0
FailsOnce before now (Err Station) = RisesOnce before now
FailsOnce before now other = now ≡ before

-- Memory of the pages is wanting from now on only where the answer says that memory is.
abbrev pub Starves : Bool → Bool → Result Unit ChangeFault → Type 0
Starves before now (Err Memory) = IsTrue before → IsTrue now
Starves before now other = now ≡ before

-- At most 320 pages more were changed for each of so many lines.
abbrev pub ChangesByLine : ℕ → PagesView → PagesView → Type 0
ChangesByLine lines old new = new.changed ≤ old.changed + 320 * lines

-- What lines leave of pages besides their bytes: they go on to tell, and to be changed, as they did, and what they answered has its cause.
pub record FoldCosts (old new : PagesView) (result : Result Unit ChangeFault) : Type 0 where
  pub told : new.is_told ≡ old.is_told
  pub read_only : new.is_read_only ≡ old.is_read_only
  pub reads_grow : old.reads ≤ new.reads
  pub faults : FailsOnce old.faults new.faults result
  pub starved : Starves old.is_starved new.is_starved result

-- After `Ok` all outcomes have the next gazetteer, and after a refusal all have the first still. Only where the station failed it
-- may be either.
abbrev pub Leaves : Gazetteer → Gazetteer → StationView → Result Unit ChangeFault → Type 0
Leaves first next v (Ok done) = AllHold v next
Leaves first next v (Err Station) = ⊤
Leaves first next v (Err other) = AllHold v first

-- A change of a mirror whose outcomes all had one gazetteer: this one still stands at each moment, or the next, which is the
-- defined one.
pub record Changes (defined : Gazetteer → Files → Result Gazetteer Refusal) (first : Gazetteer) (shelf : ShelfView) (old new : StationView) (result : Result Unit ChangeFault) : Type 0 where
  pub next : Gazetteer
  pub moments : LeavesOnly old new (IsOldOrNext first next old)
  -- the next one is that of the definition, also where the station failed behind it
  pub next_is : IfSome (files_of shelf) (λ files. (next ≡ first) ⊎ (defined first files ≡ Ok next))
  pub gives : IfSome (files_of shelf) (λ files. Gives next (defined first files) result)
  pub leaves : Leaves first next new result

-- The station didn't fail and no page is damaged: the mirror can be used on.
abbrev pub IsOutside : Result Unit ChangeFault → Type 0
IsOutside (Err Station) = ⊥
IsOutside (Err (Damaged page)) = ⊥
IsOutside other = ⊤
