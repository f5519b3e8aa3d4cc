-- A load before its first call, and one said by other words.
use Rattle.std.proofs.Common.{◌≡◌, ℕ, List, sym, subst, Option, Ok, Err, Result}
use Rattle.gaz_num.specs.Refusal.{Refusal}
use Rattle.gaz_outside.specs.declared.station.Area.{Area}
use Rattle.gaz_outside.specs.Station.{StationView}
use Rattle.gaz_page.specs.declared.page.Side.{Side}
use Rattle.gaz_page.specs.declared.tree_root.Root.{Root}
use Rattle.gaz_page.specs.Pages.{PagesView}
use Rattle.gaz_pages.specs.declared.changed.Changed.{Changed}
use Rattle.gaz_pages.specs.Areas.{side_area}
use Rattle.gaz_pages.specs.Views.{held_view, AreChanged, StillChanged}
use Rattle.gaz_plain.specs.Gazetteer.{Gazetteer}
use Rattle.gaz_rows.specs.declared.fault.ChangeFault.{ChangeFault}
use Rattle.gaz_rows.specs.Store.{IsStore}
use Rattle.gaz_change.specs.Change.{Folds}
use Rattle.gaz_load.specs.Root.{FoldsToRoot}

-- what lines made of a store, by its answer
pub folds_ok : {X : Type 0} (known : Option X) (defined : X → Result Gazetteer Refusal) (gaz : Gazetteer) (view other : PagesView) (root answer : Root) → view ≡ other → answer ≡ root
    → Folds known defined gaz view root (Ok tt) → FoldsToRoot known defined other (Ok answer)
folds_ok known defined gaz view other root answer views roots folds = record {
  next = folds.next;
  stands = subst (λ (v : PagesView). IsStore folds.next v answer) views (subst (λ (r : Root). IsStore folds.next view r) (sym roots) folds.stands);
  gives = folds.gives;
  sound = tt;
}

pub folds_err : {X : Type 0} (known : Option X) (defined : X → Result Gazetteer Refusal) (gaz : Gazetteer) (view other : PagesView) (root : Root) (fault : ChangeFault)
    → Folds known defined gaz view root (Err fault) → FoldsToRoot known defined other (Err fault)
folds_err known defined gaz view other root fault folds = record { next = folds.next; stands = tt; gives = folds.gives; sound = folds.sound }

-- the same of what is called otherwise
pub view_as : (area other : Area) (changed other_changed : Changed) (v other_v : StationView) → other ≡ area → other_changed ≡ changed → other_v ≡ v → held_view area changed v ≡ held_view other other_changed other_v
view_as area other changed other_changed v other_v areas changes views = λ i. held_view (sym areas i) (sym changes i) (sym views i)

pub store_as : (gaz : Gazetteer) (view other : PagesView) (root other_root : Root) → view ≡ other → other_root ≡ root → IsStore gaz view root → IsStore gaz other other_root
store_as gaz view other root other_root views roots store = subst (λ (w : PagesView). IsStore gaz w other_root) views (subst (λ (r : Root). IsStore gaz view r) (sym roots) store)

still_as : (side other : Side) (v other_v : StationView) (x other_x y : Changed) → other ≡ side → ((a : Area) → other_v.bytes a ≡ v.bytes a) → other_x ≡ x
    → StillChanged (side_area other) 1 other_x y (other_v.bytes (side_area other)) → StillChanged (side_area side) 1 x y (v.bytes (side_area side))
still_as side other v other_v x other_x y sides bytes xs still =
    subst (λ (c : Changed). StillChanged (side_area side) 1 c y (v.bytes (side_area side))) xs
    (subst (λ (l : List ℕ). StillChanged (side_area side) 1 other_x y l) (bytes (side_area side))
    (subst (λ (s : Side). StillChanged (side_area s) 1 other_x y (other_v.bytes (side_area s))) sides still))

-- the pages that were changed, through two calls
pub laid_through : (side one two : Side) (v v_one v_two : StationView) (x x_one y y_two z z_end : Changed) → one ≡ side → two ≡ side → ((a : Area) → v_one.bytes a ≡ v.bytes a) → ((a : Area) → v_two.bytes a ≡ v.bytes a)
    → x_one ≡ x → y_two ≡ y → z_end ≡ z → AreChanged (side_area side) 1 x (v.bytes (side_area side))
    → StillChanged (side_area one) 1 x_one y (v_one.bytes (side_area one)) → StillChanged (side_area two) 1 y_two z (v_two.bytes (side_area two)) → AreChanged (side_area side) 1 z_end (v.bytes (side_area side))
laid_through side one two v v_one v_two x x_one y y_two z z_end ones twos first second xs ys zs laid still more =
    subst (λ (c : Changed). AreChanged (side_area side) 1 c (v.bytes (side_area side))) (sym zs)
    (still_as side two v v_two y y_two z twos second ys more (still_as side one v v_one x x_one y ones first xs still laid))
