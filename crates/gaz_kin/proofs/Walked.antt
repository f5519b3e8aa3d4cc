-- A walk over the ids in the keys of a range.
use Rattle.std.proofs.Common.{◌≡◌, ◌≤◌, ◌+◌, ◌*◌, ℕ, Bool, true, false, List, [], ◌∷◌, length, refl, sym, ◌∙◌, ap, ap₂, arith, Some, None}
use Rattle.std.specs.Prelude.{find}
use Rattle.gaz_page.specs.declared.tree_root.Root.{Root}
use Rattle.gaz_leaf.specs.Node.{Pair}
use Rattle.gaz_scan.specs.declared.scan.Scan.{Scan}
use Rattle.gaz_scan.specs.Scan.{Comes, tree_of}
use Rattle.gaz_tree.specs.declared.tree.Tree.{Tree}
use Rattle.std.proofs.Math.Nat.{mul-le-mul, mul-le-mul_left}
use Rattle.gaz_kin.specs.Over.{each_of}
use Rattle.gaz_kin.specs.declared.ids.Part.{Part}
use Rattle.gaz_kin.specs.Ids.{id_in_key, ids_in, IsTested}

-- So many ids came, of which none fits, and the others are still to come.
pub record ArePassed (part : Part) (fits : ℕ → Bool) (turns : ℕ) (pages : ℕ → List ℕ) (scan : Scan) (left : List Pair) : Type 0 where
  pub rest : List Pair
  pub comes : Comes pages scan rest
  pub same : find fits (ids_in part rest) ≡ find fits (ids_in part left)
  pub count : length left ≡ turns + length rest

module _ (part : Part) (fits : ℕ → Bool) where
  -- at first
  pub none_passed : (pages : ℕ → List ℕ) (scan : Scan) (left : List Pair) → Comes pages scan left → ArePassed part fits 0 pages scan left
  none_passed pages scan left comes = record { rest = left; comes = comes; same = refl; count = omega arith }

  module _ (turns : ℕ) (old : ℕ → List ℕ) (scan : Scan) (left : List Pair) (p : ArePassed part fits turns old scan left) where
    -- one more that doesn't fit
    pub passed_on : (new : ℕ → List ℕ) (scan_now : Scan) (id : ℕ) → IsTested part fits false new scan_now p.rest id → ArePassed part fits (turns + 1) new scan_now left
    passed_on new scan_now id t =
        let n = t.next in
        let before = p.count in
        let one = ap length n.first in
        let fails : fits (id_in_key part n.pair.key) ≡ false = ap fits n.has ∙ t.test in
        let here : find fits (ids_in part p.rest) ≡ find fits (ids_in part n.rest) = ap (λ ps. find fits (ids_in part ps)) n.first ∙ rw fails refl in
        record {
          rest = n.rest;
          comes = n.comes;
          same = sym here ∙ p.same;
          count = omega (arith, before, one);
        }

    -- one that fits is the first
    pub found_first : (new : ℕ → List ℕ) (scan_now : Scan) (id : ℕ) → IsTested part fits true new scan_now p.rest id → Some id ≡ find fits (ids_in part left)
    found_first new scan_now id t =
        let n = t.next in
        let passes : fits (id_in_key part n.pair.key) ≡ true = ap fits n.has ∙ t.test in
        let here : find fits (ids_in part p.rest) ≡ Some (id_in_key part n.pair.key) = ap (λ ps. find fits (ids_in part ps)) n.first ∙ rw passes refl in
        ap Some (sym n.has) ∙ sym here ∙ p.same

    -- none was left
    pub found_none : p.rest ≡ [] → None ≡ find fits (ids_in part left)
    found_none ends = ap (λ ps. find fits (ids_in part ps)) (sym ends) ∙ p.same

-- ---- how much was read

-- a turn for each, and the end
pub few_now : (each ends turns count old mid new : ℕ) (rest : List Pair) → mid ≤ old + each * turns → new ≤ mid + each → (rest ≡ [] → new ≤ mid + ends) → count ≡ turns + length rest → new ≤ old + (each * count + ends)
few_now each ends turns count old mid new [] before now last is = let end = last refl in let le = mul-le-mul_left {m = turns} {n = count} each (omega (arith, is)) in omega (arith, before, end, le)
few_now each ends turns count old mid new (pair ∷ rest) before now last is = let le = mul-le-mul_left {m = turns + 1} {n = count} each (omega (arith, is)) in omega (arith, before, now, le)

-- a turn that looks at a key and at what it leads to
pub one_more : (height scanned each turns old mid next new : ℕ) → scanned ≡ height → mid ≤ old + (2 * height + each) * turns → next ≤ mid + 2 * scanned → new ≤ next + each → new ≤ old + (2 * height + each) * (turns + 1)
one_more height scanned each turns old mid next new same before now then = omega (arith, same, before, now, then)

-- no more turns than there are
pub all_done : (each ends turns count old mid new : ℕ) → turns ≤ count → mid ≤ old + each * turns → new ≤ mid + ends → new ≤ old + (each * count + ends)
all_done each ends turns count old mid new fewer before now = let le = mul-le-mul_left {m = turns} {n = count} each fewer in omega (arith, before, now, le)

-- the least heights of all
pub few_in_all : (height scanned count most old new : ℕ) → scanned ≡ height → height ≤ 6 → count ≤ most → new ≤ old + ((2 * scanned + (height + 17)) * count + 2 * scanned) → new ≤ old + (35 * most + 12)
few_in_all height scanned count most old new same shallow fewer now =
    let le = mul-le-mul {n₁ = 2 * scanned + (height + 17)} {m₁ = count} {n₂ = 35} {m₂ = most} (omega (arith, same, shallow)) fewer in
    omega (arith, same, shallow, now, le)

-- so many rows that may be children
pub few_offered : (height scanned sought count most old new : ℕ) → scanned ≡ height → height ≤ 6 → count ≤ most → new ≤ old + ((2 * scanned + (35 * sought + 153)) * count + 2 * scanned) → new ≤ old + (64 * (most * (sought + 4)) + 12)
few_offered height scanned sought count most old new same shallow fewer now =
    let le = mul-le-mul {n₁ = 2 * scanned + (35 * sought + 153)} {m₁ = count} {n₂ = 64 * (sought + 4)} {m₂ = most} (omega (arith, same, shallow)) fewer in
    omega (arith, same, shallow, now, le)

pub each_same : (a b : Scan) (root other : Root) → tree_of a ≡ tree_of b → root ≡ other → each_of a root ≡ each_of b other
each_same a b root other tree same = ap₂ (λ (t : Tree) (r : Root). 2 * t.height + (r.height + 17)) tree same
