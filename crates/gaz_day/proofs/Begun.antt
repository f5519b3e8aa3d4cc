-- Where a day begins: over the committed pages, of which none was changed yet.
use Rattle.std.proofs.Common.{◌≡◌, List, [], ◌++◌, sym, ◌∙◌, ap, subst, Option, Result}
use Rattle.gaz_num.specs.Refusal.{Refusal}
use Rattle.gaz_outside.specs.declared.station.Area.{Area}
use Rattle.gaz_outside.specs.Station.{StationView}
use Rattle.gaz_page.specs.declared.tree_root.Root.{Root}
use Rattle.gaz_page.specs.Area.{page_at}
use Rattle.gaz_redo.specs.Slots.{Slot}
use Rattle.gaz_pages.specs.declared.changed.Changed.{Changed}
use Rattle.gaz_pages.specs.Areas.{side_area}
use Rattle.gaz_pages.specs.Laid.{imaged}
use Rattle.gaz_pages.specs.Views.{held_view}
use Rattle.gaz_plain.specs.Gazetteer.{Gazetteer}
use Rattle.gaz_rows.specs.declared.fault.ChangeFault.{ChangeFault}
use Rattle.gaz_rows.specs.Stands.{StandsFor}
use Rattle.gaz_rows.specs.Store.{IsStore}
use Rattle.gaz_change.specs.Change.{Folds}

-- the pages that the root names are those of the store, with the root of another date
pub begun_store : (root now : Root) (changed : Changed) (v : StationView) (gaz : Gazetteer) → changed.images ≡ [] → changed.past ≡ [] → changed.fresh ≡ root.fresh → changed.free ≡ root.free
    → now.fresh ≡ root.fresh → now.free ≡ root.free → StandsFor gaz (page_at (v.bytes (side_area root.side))) now → IsStore gaz (held_view (side_area root.side) changed v) now
begun_store root now changed v gaz images past fresh free fresh_now free_now stands =
    let none : changed.images ++ changed.past ≡ [] = ap (λ (ss : List Slot). ss ++ changed.past) images ∙ past in
    let bytes = v.bytes (side_area root.side) in
    let fresh_is : now.fresh ≡ changed.fresh = fresh_now ∙ sym fresh in
    let free_is : now.free ≡ changed.free = free_now ∙ sym free in
    let ends : now ≡ record now { fresh = changed.fresh; free = changed.free } = λ i. record now { fresh = fresh_is i; free = free_is i } in
    subst (λ (ss : List Slot). StandsFor gaz (imaged (side_area root.side) ss bytes) (record now { fresh = changed.fresh; free = changed.free })) (sym none)
    (subst (λ (r : Root). StandsFor gaz (page_at bytes) r) ends stands)

-- the same of what is called otherwise
pub store_as : (gaz : Gazetteer) (area other : Area) (changed other_changed : Changed) (v other_v : StationView) (root other_root : Root) → other ≡ area → other_changed ≡ changed → other_v ≡ v → other_root ≡ root
    → IsStore gaz (held_view area changed v) root → IsStore gaz (held_view other other_changed other_v) other_root
store_as gaz area other changed other_changed v other_v root other_root areas changes views roots store =
    subst (λ (a : Area). IsStore gaz (held_view a other_changed other_v) other_root) (sym areas)
    (subst (λ (x : Changed). IsStore gaz (held_view area x other_v) other_root) (sym changes)
    (subst (λ (w : StationView). IsStore gaz (held_view area changed w) other_root) (sym views)
    (subst (λ (r : Root). IsStore gaz (held_view area changed v) r) (sym roots) store)))

pub folds_as : {X : Type 0} (known : Option X) (defined : X → Result Gazetteer Refusal) (gaz : Gazetteer) (area other : Area) (changed other_changed : Changed) (v other_v : StationView) (root other_root : Root) (result : Result Unit ChangeFault)
    → other ≡ area → other_changed ≡ changed → other_v ≡ v → other_root ≡ root → Folds known defined gaz (held_view area changed v) root result → Folds known defined gaz (held_view other other_changed other_v) other_root result
folds_as known defined gaz area other changed other_changed v other_v root other_root result areas changes views roots folds =
    subst (λ (a : Area). Folds known defined gaz (held_view a other_changed other_v) other_root result) (sym areas)
    (subst (λ (x : Changed). Folds known defined gaz (held_view area x other_v) other_root result) (sym changes)
    (subst (λ (w : StationView). Folds known defined gaz (held_view area changed w) other_root result) (sym views)
    (subst (λ (r : Root). Folds known defined gaz (held_view area changed v) r result) (sym roots) folds)))
