-- What a question to a mirror on a device promises.
use Rattle.std.specs.Prelude.{true, false, IsTrue, Result}
use Rattle.gaz_outside.specs.Station.{StationView}
use Rattle.gaz_page.specs.declared.tree_root.Root.{Root}
use Rattle.gaz_pages.specs.declared.extent.Extent.{Extent}
use Rattle.gaz_pages.specs.Keeps.{OnlyReads}
use Rattle.gaz_pages.specs.Views.{live_view}
use Rattle.gaz_plain.specs.Gazetteer.{Gazetteer}
use Rattle.gaz_rows.specs.declared.fault.AskFault.{AskFault}
use Rattle.gaz_rows.specs.Content.{Mirrors}
use Rattle.gaz_rows.specs.Store.{FailsOnce}
use Rattle.gaz_kin.specs.Over.{OverStore}

-- Where the areas as they read mirror a gazetteer, this holds of it.
abbrev pub OverMirror : StationView → (Gazetteer → Type 0) → Type 0
OverMirror v P = IsTrue v.is_told → (gaz : Gazetteer) → Mirrors v.bytes gaz → P gaz

-- Where the committed pages of a root stand for a gazetteer, this holds of it.
abbrev pub OverLive : Extent → Root → StationView → (Gazetteer → Type 0) → Type 0
OverLive extent root v P = OverStore (live_view extent true false v) root P

-- What a question leaves: nothing is written, and the answer has a cause.
pub record HasRead {A : Type 0} (old new : StationView) (result : Result A AskFault) : Type 0 where
  pub reads : OnlyReads old new
  pub cause : FailsOnce old.faults new.faults result
