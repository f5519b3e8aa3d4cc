-- Children that are offered of the rows with the ids of a scan, and of the countries of one.
use Rattle.std.proofs.Common.{◌≡◌, ◌+◌, ℕ, Bool, true≢false, List, [], length, sym, ap, subst, arith, Result, Ok, Err}
use Rattle.std.specs.Prelude.{◌||◌, ◌==◌, OnOk}
use Rattle.gaz_row.specs.Row.{id_of}
use Rattle.gaz_pick.specs.Order.{Pair as Picked}
use Rattle.gaz_plain.specs.Gazetteer.{Gazetteer, IsGazetteer}
use Rattle.gaz_plain.specs.Children.{SeesMore}
use Rattle.gaz_plain.proofs.Offering.{sees_nothing, sees_both}
use Rattle.gaz_leaf.specs.Node.{Pair}
use Rattle.gaz_scan.specs.declared.scan.Scan.{Scan}
use Rattle.gaz_scan.specs.Scan.{Comes}
use Rattle.gaz_kin.specs.declared.ids.Part.{Part}
use Rattle.gaz_kin.specs.Ids.{ids_in, IsNext}
use Rattle.gaz_kin.specs.Below.{is_one_of}

pub on_ok : {T E : Type 0} (P Q : Type 0) (result : Result T E) → (P → Q) → OnOk result P → OnOk result Q
on_ok P Q (Ok given) to is = to is
on_ok P Q (Err fault) to is = is

module _ (gaz : Gazetteer) (is : IsGazetteer gaz) (id keep : ℕ) (part : Part) where
  -- the rows with the ids of pairs
  abbrev pub have_ids : List Pair → List ℕ → Bool
  have_ids pairs row = is_one_of (ids_in part pairs) (id_of row)

  -- So many ids came, and once the rows of the others are seen, those of all are.
  pub record ArePending (turns : ℕ) (pages : ℕ → List ℕ) (scan : Scan) (left : List Pair) (start now : List Picked) : Type 0 where
    pub rest : List Pair
    pub comes : Comes pages scan rest
    pub count : length left ≡ turns + length rest
    pub goes_on : (new : List Picked) → SeesMore gaz id keep (have_ids rest) now new → SeesMore gaz id keep (have_ids left) start new

  pub pending_first : (pages : ℕ → List ℕ) (scan : Scan) (left : List Pair) (start : List Picked) → Comes pages scan left → ArePending 0 pages scan left start start
  pending_first pages scan left start comes = record { rest = left; comes = comes; count = omega arith; goes_on = λ new more. more }

  module _ (turns : ℕ) (old : ℕ → List ℕ) (scan : Scan) (left : List Pair) (start now : List Picked) (p : ArePending turns old scan left start now) where
    -- the row with the next id was seen
    pub pending_on : (mid new : ℕ → List ℕ) (scan_now : Scan) (child : ℕ) (after : List Picked) → new ≡ mid → IsNext part mid scan_now p.rest child → SeesMore gaz id keep (λ row. child == id_of row) now after → ArePending (turns + 1) new scan_now left start after
    pending_on mid new scan_now child after same n sees_one =
        let before = p.count in
        let one = ap length n.first in
        record {
          rest = n.rest;
          comes = subst (λ pages. Comes pages scan_now n.rest) (sym same) n.comes;
          count = omega (arith, before, one);
          goes_on = λ later more.
              p.goes_on later
              (subst (λ pairs. SeesMore gaz id keep (have_ids pairs) now later) (sym n.first)
              (subst (λ (i : ℕ). SeesMore gaz id keep (λ row. (i == id_of row) || have_ids n.rest row) now later) (sym n.has)
              (sees_both gaz is id keep (λ row. child == id_of row) (have_ids n.rest) now after later sees_one more)));
        }

    -- all were
    pub pending_none : p.rest ≡ [] → SeesMore gaz id keep (have_ids left) start now
    pending_none ends =
        p.goes_on now (subst (λ pairs. SeesMore gaz id keep (have_ids pairs) now now) (sym ends) (sees_nothing gaz is id keep (have_ids []) now (λ row at child other. true≢false (sym other))))
