-- Changed pages that stand for a gazetteer in memory do so laid over their area.
use Rattle.std.proofs.Common.{ℕ}
use Rattle.gaz_outside.specs.declared.station.Area.{Area}
use Rattle.gaz_outside.specs.Station.{StationView}
use Rattle.gaz_page.specs.declared.tree_root.Root.{Root}
use Rattle.gaz_page.specs.Area.{page_at}
use Rattle.gaz_redo.specs.Slots.{laid_in}
use Rattle.gaz_pages.specs.declared.changed.Changed.{Changed}
use Rattle.gaz_pages.specs.Laid.{imaged}
use Rattle.gaz_pages.specs.Views.{held_view, all_images, AreChanged}
use Rattle.gaz_plain.specs.Gazetteer.{Gazetteer}
use Rattle.gaz_rows.specs.Laid.{ends_of}
use Rattle.gaz_rows.specs.Stands.{StandsFor}
use Rattle.gaz_rows.specs.Store.{IsStore}
use Rattle.gaz_install.proofs.Below.{stands_below}

module _ (area : Area) (before : ℕ) (changed : Changed) (v : StationView) (next : Gazetteer) (root : Root) (are : AreChanged area before changed (v.bytes area)) (store : IsStore next (held_view area changed v) root) where
  pub stands_over : StandsFor next (page_at (laid_in area changed.images (v.bytes area))) (ends_of (held_view area changed v) root)
  stands_over = stands_below next (imaged area (all_images changed) (v.bytes area)) (page_at (laid_in area changed.images (v.bytes area))) (ends_of (held_view area changed v) root) store
      (λ n some below. are.pages n some below)
