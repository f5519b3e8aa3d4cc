-- A record that is put, or dropped, by the page for new records that the root names.
use Rattle.std.proofs.Common.{◌≡◌, ◌<◌, ◌≤◌, ◌+◌, ◌-◌, ◌^◌, ℕ, List, [], ◌∷◌, refl, sym, ◌∙◌, arith, inl, inr}
use Rattle.std.specs.Prelude.{◌⊎◌, true, false, Result, Ok, Err, IfErr, Contains, None, Some}
use Rattle.gaz_page.specs.declared.pages.PageFault.{PageFault}
use Rattle.gaz_page.specs.declared.pages.PageFault.TheVariants.{Failed, Damaged, Memory}
use Rattle.gaz_page.specs.declared.tree_root.Root.{Root}
use Rattle.gaz_page.specs.Pages.{PagesView, NotDamaged}
use Rattle.gaz_leaf.specs.Node.{Pair}
use Rattle.gaz_heap.specs.Place.{page_of, record_at}
use Rattle.gaz_heap.specs.Facts.{IsHeap, Puts, Drops, PutFails}
use Rattle.gaz_heap.specs.Heap.{HasUsed, DropDamage}
use Rattle.gaz_keys.proofs.Tags.{contained, contained_none}
use Rattle.gaz_rows.specs.Laid.{IsLaid, HasRoom}
use Rattle.gaz_rows.specs.Work.{HasAdded, HasDropped}
use Rattle.gaz_rows.proofs.Members.{head_is_in}
use Rattle.gaz_rows.proofs.LaidKept.{after_root}
use Rattle.gaz_rows.proofs.LaidParts.{heap_of}
use Rattle.gaz_rows.proofs.LaidPut.{after_record_put_alone}
use Rattle.gaz_rows.proofs.LaidDrop.{after_record_dropped}

-- What is laid has records by the page that the root names.
pub is_heap : (v : PagesView) (root : Root) (pairs : List Pair) (places : List ℕ) (laid : IsLaid v root pairs (root.heap ∷ []) places) → IsHeap v root.heap laid.tree.chain.frees
is_heap v root pairs places laid = heap_of v root pairs (root.heap ∷ []) places laid root.heap (inr (head_is_in root.heap []))

-- A record is put.
pub has_added : (old new : PagesView) (root : Root) (now : ℕ) (pairs : List Pair) (places : List ℕ) (laid : IsLaid old root pairs (root.heap ∷ []) places) (bytes : List ℕ) (place : ℕ)
    → (now ≡ root.heap) ⊎ ((root.heap ≡ 0) ⊎ HasUsed (old.page root.heap)) → Puts old new root.heap now laid.tree.chain.frees bytes place
    → HasAdded old new root (record root { heap = now }) pairs places bytes place
has_added old new root now pairs places laid bytes place behind puts =
    let put = after_record_put_alone old new root pairs root.heap now places bytes place laid behind puts in
    record {
      laid = after_root new root (record root { heap = now }) pairs (now ∷ []) (place ∷ places) refl refl put.laid;
      there = put.there;
      unlisted = put.unlisted;
      same = put.same;
      room = put.room;
    }

-- With room for it a put meets no damage.
pub sound_add : (old : PagesView) (root : Root) (pairs : List Pair) (places : List ℕ) (laid : IsLaid old root pairs (root.heap ∷ []) places) (fault : PageFault)
    → PutFails old root.heap laid.tree.chain.frees (Err fault) → HasRoom 34 old → NotDamaged fault
sound_add old root pairs places laid Failed fails room = tt
sound_add old root pairs places laid Memory fails room = tt
sound_add old root pairs places laid (Damaged page) (inl bad) room = absurd (true_is_false (sym (laid.used_once.in_form root.heap (inr (head_is_in root.heap [], bad.1))) ∙ bad.2))
  where
    true_is_false : true ≡ false → ⊥
    true_is_false is = cc
sound_add old root pairs places laid (Damaged page) (inr spent) room = absurd (by spent.1.0 spent.1.1 (room laid.tree.chain))
  where
    by : {fresh count : ℕ} → 2 ^ 32 - 18 ≤ fresh → count < 17 → 34 ≤ count + (4294967295 - fresh) → ⊥
    by last few room = omega (arith, last, few, room)

only_one : (a b : ℕ) → Contains (a ∷ []) b → b ≡ a
only_one a b has = elim (contained a [] b has) [ inl is ↦ sym is | inr more ↦ absurd (contained_none b more) ]

-- A record is dropped.
pub has_dropped : (old new : PagesView) (root : Root) (pairs : List Pair) (places : List ℕ) (laid : IsLaid old root pairs (root.heap ∷ []) places) (place : ℕ) → Contains places place
    → Drops old new root.heap laid.tree.chain.frees place → HasDropped old new root pairs places place
has_dropped old new root pairs places laid place there drops =
    let gone = after_record_dropped old new root pairs root.heap (root.heap ∷ []) places place laid there (inr (head_is_in root.heap [])) (only_one root.heap (page_of place)) drops in
    record { laid = gone.laid; same = gone.same; room = gone.room }

-- A record that stands somewhere is dropped without damage.
pub sound_drop : (old : PagesView) (place : ℕ) (bytes : List ℕ) → record_at old.page place ≡ Some bytes → (fault : PageFault) → DropDamage {T = Unit} (record_at old.page place) (Err fault) → NotDamaged fault
sound_drop old place bytes is Failed damage = tt
sound_drop old place bytes is Memory damage = tt
sound_drop old place bytes is (Damaged page) damage = absurd (none_is_some (sym damage ∙ is))
  where
    none_is_some : None ≡ Some bytes → ⊥
    none_is_some is = cc

pub sound_drop_all : (old : PagesView) (place : ℕ) (bytes : List ℕ) → record_at old.page place ≡ Some bytes → (result : Result Unit PageFault) → DropDamage (record_at old.page place) result
    → IfErr result NotDamaged
sound_drop_all old place bytes is (Ok done) damage = tt
sound_drop_all old place bytes is (Err fault) damage = sound_drop old place bytes is fault damage
