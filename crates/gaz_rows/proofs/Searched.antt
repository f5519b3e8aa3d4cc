-- The slots that pairs leave free, and a search for a code among pairs.
use Rattle.std.proofs.Common.{◌≡◌, ◌≢◌, ◌<◌, ◌≤◌, ◌+◌, ◌-◌, ◌^◌, min, Bool, true, false, ℕ, suc, List, [], ◌∷◌, length, refl, sym, ◌∙◌, ap, arith, subst, inl, inr, Some, None}
use Rattle.std.specs.Prelude.{Contains, ◌==◌, if◌then◌else◌}
use Rattle.std.proofs.lemmas.Bool.{eqb-true, cases_lt}
use Rattle.std.proofs.lemmas.Bool.Decides.{nat_tests}
use Rattle.gaz_heap.specs.Place.{record_at}
use Rattle.gaz_leaf.specs.Node.{Pair}
use Rattle.gaz_scan.specs.declared.scan.Scan.{Scan}
use Rattle.gaz_scan.specs.Scan.{Comes}
use Rattle.gaz_keys.proofs.Tags.{contained, contained_none}
use Rattle.gaz_rows.specs.Found.{HaveRecords, IsPassed, IsFreeIn, StandsInSlot, SlotsRise, coded_in, slot_in}
use Rattle.gaz_rows.proofs.Members.{head_is_in, tail_is_in}

-- the least slot that is free behind pairs whose slots rise, where all below this one are taken
pub free_from : ℕ → List Pair → ℕ
free_from free [] = free
free_from free (pair ∷ pairs) = free_from (if slot_in pair.key == free then suc free else free) pairs

-- So many pairs are given, without the code, and the others are still to come.
pub record ArePassed (turns free : ℕ) (code : List ℕ) (old new : ℕ → List ℕ) (scan : Scan) (left : List Pair) : Type 0 where
  pub rest : List Pair
  pub comes : Comes new scan rest
  pub have : HaveRecords new rest
  pub part : (pair : Pair) → Contains rest pair → Contains left pair
  pub same : coded_in code new rest ≡ coded_in code old left
  pub frees : free_from free rest ≡ free_from 0 left
  pub few : free ≤ turns
  pub count : length left ≡ turns + length rest

pub passed_on : (turns free slot now : ℕ) (code : List ℕ) (old mid new : ℕ → List ℕ) (scan scan_now : Scan) (left : List Pair) → length left < 2 ^ 32
    → (p : ArePassed turns free code old mid scan left) → IsPassed slot code mid new scan_now p.rest
    → now ≡ (if slot == free then min (free + 1) (2 ^ 32 - 1) else free) → ArePassed (turns + 1) now code old new scan_now left
unfolding free_from
passed_on turns free slot now code old mid new scan scan_now left small p q is =
    let before = p.count in
    let one = ap length q.first in
    let few = p.few in
    let next : now ≡ (if slot_in q.pair.key == free then suc free else free) =
    is ∙ ap (λ n. if slot == free then n else free) (omega (arith, before, one, few, small)) ∙ ap (λ s. if s == free then suc free else free) (sym q.at)
    in
    record {
      rest = q.rest;
      comes = q.comes;
      have = q.have;
      part = λ pair has. p.part pair (subst (λ pairs. Contains pairs pair) (sym q.first) (tail_is_in q.pair q.rest pair has));
      same = q.same ∙ p.same;
      frees = ap (λ n. free_from n q.rest) next ∙ ap (free_from free) (sym q.first) ∙ p.frees;
      few = subst (λ n. n ≤ turns + 1) (sym is) (at_most (slot == free));
      count = omega (arith, before, one);
    }
  where
    at_most : (b : Bool) → (if b then min (free + 1) (2 ^ 32 - 1) else free) ≤ turns + 1
    at_most true = let few = p.few in omega (arith, few)
    at_most false = let few = p.few in omega (arith, few)

-- ---- what is free

-- the first that is tried stays free where all slots are above it
stays : (free low : ℕ) (pairs : List Pair) → free < low → SlotsRise low pairs → free_from free pairs ≡ free
unfolding free_from
stays free low [] less rise = refl
stays free low (p ∷ ps) less rise = let start = rise.0 in by (slot_in p.key == free) refl (stays free (suc (slot_in p.key)) ps (omega (arith, less, start)) rise.1)
  where
    start : low ≤ slot_in p.key
    start = rise.0

    by : (b : Bool) → (slot_in p.key == free) ≡ b → free_from free ps ≡ free → free_from (if slot_in p.key == free then suc free else free) ps ≡ free
    by true is rest = absurd (let same = eqb-true (slot_in p.key) free is in omega (arith, less, start, same))
    by false is rest = rw is rest

-- it never falls
grows : (free : ℕ) (pairs : List Pair) → free ≤ free_from free pairs
unfolding free_from
grows free [] = omega arith
grows free (p ∷ ps) = by (slot_in p.key == free) (grows free ps) (grows (suc free) ps)
  where
    by : (b : Bool) → free ≤ free_from free ps → suc free ≤ free_from (suc free) ps → free ≤ free_from (if b then suc free else free) ps
    by true kept more = omega (arith, more)
    by false kept more = kept

-- each one below is taken
taken : (free : ℕ) (pairs : List Pair) (less : ℕ) → free ≤ less → less < free_from free pairs → (pair : Pair) × Contains pairs pair × (slot_in pair.key ≡ less)
unfolding free_from
taken free [] less from below = absurd (omega (arith, from, below))
taken free (p ∷ ps) less from below = by (slot_in p.key == free) refl below (λ n. taken n ps less)
  where
    by : (b : Bool) → (slot_in p.key == free) ≡ b → less < free_from (if b then suc free else free) ps → ((n : ℕ) → n ≤ less → less < free_from n ps → (pair : Pair) × Contains ps pair × (slot_in pair.key ≡ less))
        → (pair : Pair) × Contains (p ∷ ps) pair × (slot_in pair.key ≡ less)
    by false is under behind = let rest = behind free from under in (rest.0, tail_is_in p ps rest.0 rest.1, rest.2)
    by true is under behind = elim (cases_lt free less) [
      | inl more ↦ let rest = behind (suc free) more under in (rest.0, tail_is_in p ps rest.0 rest.1, rest.2)
      | inr same ↦ (p, head_is_in p ps, let one = eqb-true (slot_in p.key) free is in omega (arith, one, same, from))
    ]

-- what is left is free where the slots rise
left_free : (free low : ℕ) (pairs : List Pair) → free ≤ low → SlotsRise low pairs → (pair : Pair) → Contains pairs pair → slot_in pair.key ≢ free_from free pairs
unfolding free_from
left_free free low [] at rise pair has = absurd (contained_none pair has)
left_free free low (p ∷ ps) at rise pair has = by (slot_in p.key == free) refl (λ n above later. left_free n (suc (slot_in p.key)) ps above rise.1 pair later)
  where
    start : low ≤ slot_in p.key
    start = rise.0

    by : (b : Bool) → (slot_in p.key == free) ≡ b → ((n : ℕ) → n ≤ suc (slot_in p.key) → Contains ps pair → slot_in pair.key ≢ free_from n ps) → slot_in pair.key ≢ free_from (if b then suc free else free) ps
    by true is rest same = elim (contained p ps pair has) [
      | inl one ↦ let more = grows (suc free) ps in let own = eqb-true (slot_in p.key) free is in let this = ap (λ (q : Pair). slot_in q.key) one in absurd (omega (arith, more, own, this, same))
      | inr later ↦ rest (suc free) (omega (arith, at, start)) later same
    ]
    by false is rest same = elim (contained p ps pair has) [
      | inl one ↦
          let above : free < slot_in p.key = grind (arith, nat_tests, is, at, start) in
          let stay = stays free (suc (slot_in p.key)) ps (omega (arith, above)) rise.1 in
          let this = ap (λ (q : Pair). slot_in q.key) one in
          absurd (omega (arith, above, stay, this, same))
      | inr later ↦ rest free (omega (arith, at, start)) later same
    ]

-- None was left: no line has the code, and that slot is free.
pub all_passed : (turns free : ℕ) (code : List ℕ) (old new : ℕ → List ℕ) (scan : Scan) (left : List Pair) (p : ArePassed turns free code old new scan left) → p.rest ≡ [] → free < 2 ^ 32 → (coded_in code old left ≡ None) × IsFreeIn left free
unfolding free_from
all_passed turns free code old new scan left p none small = (
  sym p.same ∙ ap (coded_in code new) none,
  record {
    small = small;
    taken = λ less below. taken 0 left less (omega arith) (subst (λ n. less < n) is below);
    free = λ rise pair has. subst (λ n. slot_in pair.key ≢ n) (sym is) (left_free 0 0 left (omega arith) rise pair has);
  },
)
  where
    is : free ≡ free_from 0 left
    is = sym (ap (free_from free) none) ∙ p.frees

-- The line with the code came: it is one of all.
pub found_passed : (turns free : ℕ) (code : List ℕ) (old new : ℕ → List ℕ) (scan : Scan) (left : List Pair) (p : ArePassed turns free code old new scan left) (slot : ℕ) (line : List ℕ) → new ≡ old
    → (coded_in code new p.rest ≡ Some line) × StandsInSlot new p.rest slot line → (coded_in code old left ≡ Some line) × StandsInSlot old left slot line
found_passed turns free code old new scan left p slot line pages found = (
  sym p.same ∙ found.0,
  record {
    pair = found.1.pair;
    there = p.part found.1.pair found.1.there;
    at = found.1.at;
    stands = subst (λ at. record_at at found.1.pair.value ≡ Some line) pages found.1.stands;
  },
)
