-- A record that is put for the one of a place: there, or elsewhere once that one is dropped.
use Rattle.std.proofs.Common.{◌≡◌, ◌+◌, ℕ, List, [], ◌∷◌, refl, sym, ap, ◌∙◌, subst, arith, inl, inr}
use Rattle.std.specs.Prelude.{Bool, Contains, Err, Some}
use Rattle.std.proofs.lemmas.Bool.{cases_eq}
use Rattle.gaz_page.specs.declared.pages.PageFault.{PageFault}
use Rattle.gaz_page.specs.declared.pages.PageFault.TheVariants.{Failed, Damaged, Memory}
use Rattle.gaz_page.specs.declared.tree_root.Root.{Root}
use Rattle.gaz_page.specs.Pages.{PagesView, SamePages, NotDamaged}
use Rattle.gaz_leaf.specs.Node.{Pair}
use Rattle.gaz_heap.specs.Place.{record_at}
use Rattle.gaz_heap.specs.Heap.{DropDamage}
use Rattle.gaz_heap.specs.Facts.{Replaces}
use Rattle.gaz_keys.proofs.Tags.{contained}
use Rattle.gaz_rows.specs.Laid.{IsLaid, all_but}
use Rattle.gaz_rows.specs.Work.{HasAdded, HasDropped, HasPutFor}
use Rattle.gaz_rows.proofs.Members.{head_is_in, tail_is_in}
use Rattle.gaz_rows.proofs.LaidKept.{after_order}
use Rattle.gaz_rows.proofs.LaidSlots.{among_all, among_rest}
use Rattle.gaz_rows.proofs.LaidReplaced.{after_replaced, room_same}
use Rattle.gaz_rows.proofs.Working.{less_room}
use Rattle.gaz_rows.proofs.Records.{sound_drop}

-- The place and the others are all places.
first_place : (place : ℕ) (places : List ℕ) (other : ℕ) → Contains places other → Contains (place ∷ all_but place places) other
first_place place places other has = elim (cases_eq other place) [
  | inl is ↦ subst (Contains (place ∷ all_but place places)) (sym is) (head_is_in place (all_but place places))
  | inr differs ↦ tail_is_in place (all_but place places) other (among_rest place places other has differs)
]

was_place : (place : ℕ) (places : List ℕ) (other : ℕ) → Contains places place → Contains (place ∷ all_but place places) other → Contains places other
was_place place places other there has = elim (contained place (all_but place places) other has) [
  | inl is ↦ subst (Contains places) is there
  | inr more ↦ (among_all place places other more).0
]

-- A record is put in place of the one that stands there.
pub put_there : (old new : PagesView) (root : Root) (pairs : List Pair) (places : List ℕ) (place : ℕ) (bytes : List ℕ) → IsLaid old root pairs (root.heap ∷ []) places → Contains places place
    → Replaces old new place bytes → HasPutFor old new root pairs places bytes place place
put_there old new root pairs places place bytes laid there replaces =
    let again = after_replaced old new root pairs (root.heap ∷ []) places place bytes laid there replaces in
    record {
      laid = after_order new root pairs (root.heap ∷ []) places (place ∷ all_but place places) again.laid (first_place place places) (λ other has. was_place place places other there has);
      there = replaces.has;
      unlisted = λ has. (among_all place places place has).1 refl;
      same = again.same;
      room = λ n room. again.room n (less_room (n + 17) n old (omega arith) room);
    }

-- The pages stay the same, the record of the place is dropped, and one is put.
pub put_elsewhere : (old mid gone new : PagesView) (root now : Root) (pairs : List Pair) (places : List ℕ) (bytes : List ℕ) (place place_now : ℕ) → SamePages old mid
    → HasDropped mid gone root pairs places place → HasAdded gone new root now pairs (all_but place places) bytes place_now → HasPutFor old new now pairs places bytes place place_now
put_elsewhere old mid gone new root now pairs places bytes place place_now same dropped added =
    record {
      laid = added.laid;
      there = added.there;
      unlisted = added.unlisted;
      same = λ other has. added.same other has ∙ dropped.same other has ∙ ap (λ (pages : ℕ → List ℕ). record_at pages other) same.pages;
      room = λ n room. added.room n (dropped.room (n + 17) (room_same old mid same (n + 17) room));
    }

-- A record that stands somewhere is replaced without damage.
pub sound_replace : (old : PagesView) (place : ℕ) (bytes : List ℕ) → record_at old.page place ≡ Some bytes → (fault : PageFault) → DropDamage {T = Bool} (record_at old.page place) (Err fault) → NotDamaged fault
sound_replace old place bytes is Failed damage = tt
sound_replace old place bytes is Memory damage = tt
sound_replace old place bytes is (Damaged page) damage = sound_drop old place bytes is (Damaged page) damage
