-- What a line has changed stands under another root with the same tree and the same page for new records, and what its faults come to.
use Rattle.std.proofs.Common.{◌≡◌, ◌<◌, ℕ, List, [], ◌∷◌, sym, subst}
use Rattle.std.specs.Prelude.{Option, Contains, IsTrue}
use Rattle.gaz_num.specs.declared.words.Table.{Table}
use Rattle.gaz_plain.specs.Gazetteer.{limit_of}
use Rattle.gaz_page.specs.declared.pages.PageFault.{PageFault}
use Rattle.gaz_page.specs.declared.pages.PageFault.TheVariants as page
use Rattle.gaz_page.specs.declared.tree_root.Root.{Root}
use Rattle.gaz_page.specs.Pages.{PagesView, NotDamaged}
use Rattle.gaz_leaf.specs.Node.{Pair}
use Rattle.gaz_rows.specs.declared.fault.StepFault.{StepFault}
use Rattle.gaz_rows.specs.Laid.{IsLaid}
use Rattle.gaz_rows.specs.Steps.{with_new, counted}
use Rattle.gaz_rows.specs.Faults.{step_fault_of}
use Rattle.gaz_rows.specs.Change.{IsChanged, HasLeft}
use Rattle.gaz_rows.specs.Stepping.{ComesRightly, ChangesRightly}
use Rattle.gaz_rows.proofs.LaidKept.{after_root}

-- The root has other counts.
pub changed_root : (old new : PagesView) (now other : Root) (pairs : List Pair) (others : List ℕ) (line : Option (List ℕ)) (place : ℕ) → other.top ≡ now.top → other.height ≡ now.height → other.heap ≡ now.heap
    → IsChanged old new now pairs others line place → IsChanged old new other pairs others line place
changed_root old new now other pairs others line place top height heap changed = record {
  laid = subst (λ h. IsLaid new other pairs (h ∷ []) (with_new line place others)) (sym heap) (after_root new now other pairs (now.heap ∷ []) (with_new line place others) top height changed.laid);
  left = changed.left;
}

-- A fault of the pages, as that of a line that comes.
pub come_fault : (table : Table) (root : Root) (v : PagesView) (fault : PageFault) (result : StepFault)
    → (IsTrue v.is_told → (pairs : List Pair) (places : List ℕ) → IsLaid v root pairs (root.heap ∷ []) places → HasLeft v pairs → NotDamaged fault)
    → counted root.counts table < limit_of table → result ≡ step_fault_of fault → ComesRightly table root v result
come_fault table root v fault result sound room is = subst (ComesRightly table root v) (sym is) (by fault sound)
  where
    by : (fault : PageFault) → (IsTrue v.is_told → (pairs : List Pair) (places : List ℕ) → IsLaid v root pairs (root.heap ∷ []) places → HasLeft v pairs → NotDamaged fault) → ComesRightly table root v (step_fault_of fault)
    by page.Failed sound = tt
    by (page.Damaged n) sound = λ pairs places told laid left. sound told pairs places laid left
    by page.Memory sound = room

-- And as that of a line that goes or is replaced.
pub change_fault : (table : Table) (root : Root) (v : PagesView) (place : ℕ) (was : List ℕ) (fault : PageFault) (result : StepFault)
    → (IsTrue v.is_told → (pairs : List Pair) (places : List ℕ) → IsLaid v root pairs (root.heap ∷ []) places → Contains places place → HasLeft v pairs → NotDamaged fault)
    → result ≡ step_fault_of fault → ChangesRightly table root v place was result
change_fault table root v place was fault result sound is = subst (ChangesRightly table root v place was) (sym is) (by fault sound)
  where
    by : (fault : PageFault) → (IsTrue v.is_told → (pairs : List Pair) (places : List ℕ) → IsLaid v root pairs (root.heap ∷ []) places → Contains places place → HasLeft v pairs → NotDamaged fault)
        → ChangesRightly table root v place was (step_fault_of fault)
    by page.Failed sound = tt
    by (page.Damaged n) sound = λ pairs places told laid left there keyed counts. sound told pairs places laid there left
    by page.Memory sound = tt
