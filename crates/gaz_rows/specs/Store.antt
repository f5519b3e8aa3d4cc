-- What the calls of a store promise.
use Rattle.std.specs.Prelude.{◌≡◌, ◌≤◌, ℕ, Bool, List, [], take, Option, option_map, Result, Err, IsOk, IfErr, IsTrue}
use Rattle.gaz_plain.specs.Gazetteer.{Gazetteer}
use Rattle.gaz_num.specs.declared.words.Table.{Table}
use Rattle.gaz_plain.specs.Gazetteer.{LineFault, malformed, full, line_with}
use Rattle.gaz_page.specs.declared.tree_root.Root.{Root}
use Rattle.gaz_num.specs.Counts.{RisesOnce}
use Rattle.gaz_page.specs.Pages.{PagesView, SamePages, Counts}
use Rattle.gaz_rows.specs.declared.fault.AskFault.{AskFault}
use Rattle.gaz_rows.specs.declared.fault.AskFault.TheVariants as ask
use Rattle.gaz_rows.specs.declared.fault.StepFault.{StepFault}
use Rattle.gaz_rows.specs.declared.fault.StepFault.TheVariants as step
use Rattle.gaz_rows.specs.Stands.{StandsForBut}
use Rattle.gaz_rows.specs.Laid.{ends_of}

-- The pages and the root stand for a gazetteer, but for the keys that wait.
abbrev pub IsStoreBut : List (List ℕ) → Gazetteer → PagesView → Root → Type 0
IsStoreBut waiting gaz v root = StandsForBut waiting gaz v.page (ends_of v root)

-- The pages and the root stand for a gazetteer.
abbrev pub IsStore : Gazetteer → PagesView → Root → Type 0
IsStore gaz v root = IsStoreBut [] gaz v root

-- The line stands in the front of the buffer, or there is none.
abbrev pub IsAnswer : Option (List ℕ) → List ℕ → Option ℕ → Type 0
IsAnswer line buf found = line ≡ option_map (λ size. take size buf) found

-- The answer is no damage and no want of memory.
abbrev pub IsSound : AskFault → Type 0
IsSound ask.Failed = Unit
IsSound (ask.Damaged page) = ⊥
IsSound ask.Memory = ⊥

-- The answer is no want of memory.
abbrev pub TakesNoMemory : AskFault → Type 0
TakesNoMemory ask.Memory = ⊥
TakesNoMemory other = Unit

-- The count of faults rises by one where the pages failed, and else stands.
abbrev pub FailsOnce : {T : Type 0} → ℕ → ℕ → Result T AskFault → Type 0
FailsOnce before now (Err ask.Failed) = RisesOnce before now
FailsOnce before now other = now ≡ before

-- Memory is wanting from now on where the answer says so, and else as it was.
abbrev pub StarvesBy : {T : Type 0} → Bool → Bool → Result T AskFault → Type 0
StarvesBy before now (Err ask.Memory) = IsTrue now
StarvesBy before now other = now ≡ before

-- The answer has a cause: the pages failed only where their count of faults rose, and memory was wanting only where they say so.
pub record HasAskCause {T : Type 0} (old new : PagesView) (result : Result T AskFault) : Type 0 where
  pub grows : old.faults ≤ new.faults
  pub counted : FailsOnce old.faults new.faults result
  pub starved : StarvesBy old.is_starved new.is_starved result

-- P holds, unless the pages failed.
abbrev pub UnlessFailed : {T : Type 0} → Result T AskFault → Type 0 → Type 0
UnlessFailed (Err ask.Failed) P = Unit
UnlessFailed other P = P

-- What a question leaves: the same pages, of which at most so many were read and none was changed. It takes no memory.
pub record HasAsked {T : Type 0} (most : ℕ) (old new : PagesView) (result : Result T AskFault) : Type 0 where
  pub same : UnlessFailed result (IsTrue old.is_told → SamePages old new)
  pub counts : Counts most 0 old new
  pub unchanged : new.changed ≡ old.changed
  pub cause : HasAskCause old new result
  pub no_memory : IfErr result TakesNoMemory

-- The answer is no damage.
abbrev pub IsUndamaged : AskFault → Type 0
IsUndamaged (ask.Damaged page) = ⊥
IsUndamaged other = Unit

-- Where the pages stand for a gazetteer, the fault is no damage.
abbrev pub IsSoundOver : PagesView → Root → AskFault → Type 0
IsSoundOver v root fault = IsTrue v.is_told → (waiting : List (List ℕ)) (gaz : Gazetteer) → IsStoreBut waiting gaz v root → IsSound fault

-- The answer is the line that the gazetteer has at a key, where the pages stand for one.
abbrev pub Answers : Table → List ℕ → PagesView → Root → List ℕ → Option ℕ → Type 0
Answers table key v root buf found = IsTrue v.is_told → (waiting : List (List ℕ)) (gaz : Gazetteer) → IsStoreBut waiting gaz v root → IsAnswer (line_with table key gaz) buf found

-- The fault of a step is that of the definition, or one of the pages. Memory is wanting only where the line would be taken.
abbrev pub IsStepFaultOf : Result Gazetteer LineFault → StepFault → Type 0
IsStepFaultOf taken (step.Malformed reason) = taken ≡ Err (malformed reason)
IsStepFaultOf taken (step.Full table) = taken ≡ Err (full table)
IsStepFaultOf taken (step.Damaged page) = ⊥
IsStepFaultOf taken step.Memory = IsOk taken
IsStepFaultOf taken step.Failed = Unit

-- The count of faults of a step.
abbrev pub StepFailsOnce : {T : Type 0} → ℕ → ℕ → Result T StepFault → Type 0
StepFailsOnce before now (Err step.Failed) = RisesOnce before now
StepFailsOnce before now other = now ≡ before
