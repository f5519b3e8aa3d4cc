-- A walk over the pairs of a range.
use Rattle.std.proofs.Common.{◌≡◌, ◌+◌, ℕ, true, false, true≢false, List, [], length, sym, ap, subst, arith}
use Rattle.std.specs.Prelude.{Contains}
use Rattle.gaz_pick.specs.Asked.{Asked}
use Rattle.gaz_pick.specs.Order.{Pair as Picked}
use Rattle.gaz_plain.specs.Gazetteer.{Gazetteer, IsGazetteer}
use Rattle.gaz_leaf.specs.Node.{Pair}
use Rattle.gaz_scan.specs.declared.scan.Scan.{Scan}
use Rattle.gaz_scan.specs.Scan.{Comes}
use Rattle.gaz_rows.proofs.Members.{tail_is_in}
use Rattle.gaz_plan.specs.declared.walk.Way.{Way}
use Rattle.gaz_plan.specs.Seen.{SeesMore}
use Rattle.gaz_plan.specs.Ways.{stands_for, is_among}
use Rattle.gaz_plan.specs.Searched.{AreOf, SeesNext}
use Rattle.gaz_plan.proofs.Offering.{sees_nothing, sees_both}

module _ (gaz : Gazetteer) (is : IsGazetteer gaz) (asked : Asked) (keep : ℕ) (way : Way) where
  -- So many pairs came, and once the rows for which the others stand are seen, those of all are.
  pub record ArePending (turns : ℕ) (pages : ℕ → List ℕ) (scan : Scan) (left : List Pair) (start now : List Picked) : Type 0 where
    pub rest : List Pair
    pub comes : Comes pages scan rest
    pub count : length left ≡ turns + length rest
    pub part : (p : Pair) → Contains rest p → Contains left p
    pub goes_on : (new : List Picked) → SeesMore gaz asked keep (is_among asked way rest) now new → SeesMore gaz asked keep (is_among asked way left) start new

  pub pending_first : (pages : ℕ → List ℕ) (scan : Scan) (left : List Pair) (start : List Picked) → Comes pages scan left → ArePending 0 pages scan left start start
  pending_first pages scan left start comes = record { rest = left; comes = comes; count = omega arith; part = λ p has. has; goes_on = λ new more. more }

  module _ (turns : ℕ) (old : ℕ → List ℕ) (scan : Scan) (left : List Pair) (start now : List Picked) (p : ArePending turns old scan left start now) where
    -- those to come are of the same kind
    pub rest_are : (tag : ℕ) (all : List Pair) → AreOf tag all left → AreOf tag all p.rest
    rest_are tag all are =
        let count = p.count in
        let few = are.few in
        record { found = λ q has. are.found q (p.part q has); tagged = λ q has. are.tagged q (p.part q has); few = omega (arith, count, few) }

    -- the rows for which the next one stands were seen
    pub pending_on : (new : ℕ → List ℕ) (scan_now : Scan) (after : List Picked) → SeesNext gaz asked way keep new scan_now p.rest now after true → ArePending (turns + 1) new scan_now left start after
    pending_on new scan_now after sees =
        let n = sees.0 in
        let before = p.count in
        let one = ap length n.first in
        record {
          rest = n.rest;
          comes = n.comes;
          count = omega (arith, before, one);
          part = λ q has. p.part q (subst (λ pairs. Contains pairs q) (sym n.first) (tail_is_in n.pair n.rest q has));
          goes_on = λ later more.
              p.goes_on later
              (subst (λ pairs. SeesMore gaz asked keep (is_among asked way pairs) now later) (sym n.first)
              (sees_both gaz is asked keep (stands_for asked way n.pair.key) (is_among asked way n.rest) now after later sees.1 more));
        }

    -- none was left
    pub pending_none : (new : ℕ → List ℕ) (scan_now : Scan) (after : List Picked) → SeesNext gaz asked way keep new scan_now p.rest now after false → SeesMore gaz asked keep (is_among asked way left) start after
    pending_none new scan_now after sees =
        subst (λ pairs. SeesMore gaz asked keep (is_among asked way left) start pairs) (sym sees.1)
        (p.goes_on now (subst (λ pairs. SeesMore gaz asked keep (is_among asked way pairs) now now) (sym sees.0) (sees_nothing gaz is asked keep (is_among asked way []) now (λ row at is_one other. true≢false (sym other)))))
