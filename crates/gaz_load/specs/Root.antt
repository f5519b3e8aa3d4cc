-- What the lines of a load make of a new store.
use Rattle.std.specs.Prelude.{⊤, Option, IfSome, Result, Ok, Err, IfOk, IfErr}
use Rattle.gaz_num.specs.Refusal.{Refusal}
use Rattle.gaz_page.specs.declared.tree_root.Root.{Root}
use Rattle.gaz_page.specs.Pages.{PagesView}
use Rattle.gaz_plain.specs.Gazetteer.{Gazetteer}
use Rattle.gaz_rows.specs.declared.fault.AskFault.{AskFault}
use Rattle.gaz_rows.specs.declared.fault.AskFault.TheVariants as ask
use Rattle.gaz_rows.specs.declared.fault.ChangeFault.{ChangeFault}
use Rattle.gaz_rows.specs.declared.fault.ChangeFault.TheVariants.{Station, Damaged, Memory}
use Rattle.gaz_rows.specs.Store.{IsStore}
use Rattle.gaz_change.specs.Change.{Gives, IsSound}

-- the answer without the root
abbrev pub done_of : Result Root ChangeFault → Result Unit ChangeFault
done_of (Ok root) = Ok tt
done_of (Err fault) = Err fault

-- the fault of a load where its pages have one
abbrev pub fault_of : AskFault → ChangeFault
fault_of ask.Failed = Station
fault_of (ask.Damaged page) = Damaged page
fault_of ask.Memory = Memory

-- The fault is one of the pages or of memory, and none of a file or of the date.
abbrev pub IsOfPages : ChangeFault → Type 0
IsOfPages Station = ⊤
IsOfPages (Damaged page) = ⊤
IsOfPages Memory = ⊤
IsOfPages other = ⊥

-- What lines made of a store that stood for a gazetteer, of which the answer is the root. After `Ok` it stands for the next one, which is the
-- defined one where the files are told. A fault is no damage, and where the files are told it is the defined one too.
pub record FoldsToRoot {X : Type 0} (known : Option X) (defined : X → Result Gazetteer Refusal) (new : PagesView) (result : Result Root ChangeFault) : Type 0 where
  pub next : Gazetteer
  pub stands : IfOk result (IsStore next new)
  pub gives : IfSome known (λ told. Gives next (defined told) (done_of result))
  pub sound : IfErr result IsSound
