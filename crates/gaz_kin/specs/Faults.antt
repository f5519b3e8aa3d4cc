-- Faults of kin as those of a store.
use Rattle.std.specs.Prelude.{Result, Ok, Err}
use Rattle.gaz_page.specs.declared.tree_root.Root.{Root}
use Rattle.gaz_page.specs.Pages.{PagesView}
use Rattle.gaz_rows.specs.declared.fault.AskFault.{AskFault}
use Rattle.gaz_rows.specs.declared.fault.AskFault.TheVariants as ask
use Rattle.gaz_rows.specs.Store.{IsSound}
use Rattle.gaz_kin.specs.Over.{OverStore}
use Rattle.gaz_kin.specs.declared.fault.KinFault.{KinFault}
use Rattle.gaz_kin.specs.declared.fault.KinFault.TheVariants.{Failed, Damaged}

-- the fault of the store
abbrev pub ask_fault_of : KinFault → AskFault
ask_fault_of Failed = ask.Failed
ask_fault_of (Damaged page) = ask.Damaged page

-- the answer with the fault of the store
abbrev pub as_asked : {T : Type 0} → Result T KinFault → Result T AskFault
as_asked (Ok given) = Ok given
as_asked (Err fault) = Err (ask_fault_of fault)

-- Where the pages stand for a gazetteer, the fault is no damage.
abbrev pub NotOver : PagesView → Root → KinFault → Type 0
NotOver v root fault = OverStore v root (λ gaz. IsSound (ask_fault_of fault))
