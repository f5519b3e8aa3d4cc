-- One call on a record and some on the tree make what a line changes.
use Rattle.std.proofs.Common.{◌≡◌, ◌≤◌, ◌+◌, ℕ, List, [], ◌∷◌, length, sym, ◌∙◌, subst, arith}
use Rattle.std.specs.Prelude.{Result, Contains, Some, None}
use Rattle.gaz_page.specs.declared.pages.PageFault.{PageFault}
use Rattle.gaz_page.specs.declared.tree_root.Root.{Root}
use Rattle.gaz_page.specs.Pages.{PagesView}
use Rattle.gaz_leaf.specs.Node.{Pair, key_of}
use Rattle.gaz_tree.specs.Pairs.{without}
use Rattle.gaz_heap.specs.Place.{record_at}
use Rattle.gaz_rows.specs.Laid.{IsLaid, SameRecords, all_but}
use Rattle.gaz_rows.specs.Work.{TurnsPairs, IsSoundWith, HasDropped, without_all}
use Rattle.gaz_rows.specs.Change.{IsChanged}
use Rattle.gaz_rows.proofs.Members.{head_is_in, tail_is_in}
use Rattle.gaz_rows.proofs.LaidSlots.{among_all}
use Rattle.gaz_rows.proofs.Working.{less_room, without_fewer}

-- Without these keys there are no more pairs.
pub without_all_fewer : (keys : List (List ℕ)) (pairs : List Pair) → length (without_all keys pairs) ≤ length pairs
without_all_fewer [] pairs = omega arith
without_all_fewer (key ∷ keys) pairs = let less = without_fewer (key_of key) pairs in let fewer = without_all_fewer keys (without (key_of key) pairs) in omega (arith, less, fewer)

-- What is sound behind a turn is sound before it, with the room and the pairs that the turn takes.
pub sound_behind : {T : Type 0} (result : Result T PageFault) (a b c d : ℕ) (f : List Pair → List Pair) (old mid : PagesView) (root between : Root) → TurnsPairs a f old root mid between
    → ((pairs : List Pair) → length (f pairs) ≤ length pairs + c) → IsSoundWith b d mid between result → IsSoundWith (a + b) (c + d) old root result
sound_behind result a b c d f old mid root between turn grows sound pairs kept places laid room few =
    let one = turn pairs kept places laid in
    let most = grows pairs in
    sound (f pairs) kept places one.laid (one.room b (less_room (a + b) (b + a) old (omega arith) room)) (omega (arith, most, few))

-- A record stands at a place of its own, and then the tree is turned.
pub come_by : (n : ℕ) (f : List Pair → List Pair) (old mid new : PagesView) (between now : Root) (pairs : List Pair) (others : List ℕ) (line : List ℕ) (place : ℕ)
    → IsLaid mid between pairs (between.heap ∷ []) (place ∷ others) → record_at mid.page place ≡ Some line → (Contains others place → ⊥) → SameRecords old mid others
    → TurnsPairs n f mid between new now → now.heap ≡ between.heap → IsChanged old new now (f pairs) others (Some line) place
come_by n f old mid new between now pairs others line place laid there unlisted same turn heap =
    let one = turn pairs (between.heap ∷ []) (place ∷ others) laid in
    record {
      laid = subst (λ h. IsLaid new now (f pairs) (h ∷ []) (place ∷ others)) (sym heap) one.laid;
      left = record {
        there = λ l is. one.same place (head_is_in place others) ∙ there ∙ is;
        unlisted = λ l is. unlisted;
        same = λ stood has. one.same stood (tail_is_in place others stood has) ∙ same stood has;
      };
    }

-- The tree is turned, and then a record is dropped.
pub gone_by : (n : ℕ) (f : List Pair → List Pair) (old mid new : PagesView) (root between now : Root) (pairs : List Pair) (places : List ℕ) (place : ℕ)
    → IsLaid old root pairs (root.heap ∷ []) places → TurnsPairs n f old root mid between → between.heap ≡ root.heap → now ≡ between
    → (IsLaid mid between (f pairs) (between.heap ∷ []) places → HasDropped mid new now (f pairs) places place)
    → IsChanged old new now (f pairs) (all_but place places) None 0
gone_by n f old mid new root between now pairs places place laid turn heap same_root drop =
    let one = turn pairs (root.heap ∷ []) places laid in
    let dropped = drop (subst (λ h. IsLaid mid between (f pairs) (h ∷ []) places) (sym heap) one.laid) in
    record {
      laid = dropped.laid;
      left = record {
        there = λ l is. absurd (none_is_some l is);
        unlisted = λ l is. absurd (none_is_some l is);
        same = λ stood has. dropped.same stood has ∙ one.same stood (among_all place places stood has).0;
      };
    }
  where
    none_is_some : (l : List ℕ) → None ≡ Some l → ⊥
    none_is_some l is = cc
