-- The least row that passes a test is found among ids that rise.
use Rattle.std.proofs.Common.{◌≡◌, ℕ, suc, ◌<◌, ◌≤◌, ◌+◌, ◌*◌, Bool, true, List, [], ◌∷◌, map, filter, refl, ◌∙◌, arith, inl, inr}
use Rattle.std.specs.Prelude.{Contains, find, ◌==◌}
use Rattle.std.proofs.Math.Nat.{mul-le-mul_left}
use Rattle.std.proofs.lemmas.Bool.{cases_lt}
use Rattle.std.specs.List.{AllByRecursion}
use Rattle.gaz_num.specs.declared.words.Table.TheVariants.{Rows}
use Rattle.gaz_row.specs.Row.{id_of}
use Rattle.gaz_parent.specs.Parent.{least}
use Rattle.gaz_pick.proofs.OrderLemmas.{by_test}
use Rattle.gaz_plain.specs.Gazetteer.{IsTable, line_at}
use Rattle.gaz_plain.specs.Ordered.{passes_at, has_id, IdsRise}
use Rattle.gaz_plain.proofs.Sought.{AreSought, sought_on, sought_found, sought_none}
use Rattle.gaz_leaf.specs.Node.{Pair}
use Rattle.gaz_tree.specs.Pairs.{Within}
use Rattle.gaz_keys.proofs.Tags.{contained, contained_none}
use Rattle.gaz_rows.proofs.Members.{head_is_in, tail_is_in}
use Rattle.gaz_kin.specs.declared.ids.Part.{Part}
use Rattle.gaz_kin.specs.Ids.{id_in_key, ids_in}

-- ids as pairs whose first numbers don't matter
abbrev pub as_pairs : List ℕ → List (ℕ × ℕ)
as_pairs ids = map (λ id. (0, id)) ids

-- an id that is there
pub has_among : (ids : List ℕ) (id : ℕ) → Contains ids id → has_id (as_pairs ids) id ≡ true
has_among [] id has = absurd (contained_none id has)
has_among (n ∷ ids) id has = elim (contained n ids id has) [
  | inl same ↦ let test : (n == id) ≡ true = grind (arith, same) in rw test refl
  | inr later ↦ let rest = has_among ids id later in by_test (n == id) (λ is. rw is refl) (λ isnt. rw isnt rest)
]

-- tests that agree on all of a list find the same
pub find_agrees : (p q : ℕ → Bool) (ids : List ℕ) → ((id : ℕ) → Contains ids id → p id ≡ q id) → find p ids ≡ find q ids
find_agrees p q [] same = refl
find_agrees p q (n ∷ ids) same =
    let here = same n (head_is_in n ids) in
    let rest = find_agrees p q ids (λ id has. same id (tail_is_in n ids id has)) in
    by_test (q n) (λ is. let too = here ∙ is in rw (is, too) refl) (λ isnt. let nor = here ∙ isnt in rw (isnt, nor) rest)

module _ (may : List ℕ → Bool) (rows : List (List ℕ)) (table : IsTable Rows rows) where
  -- The first of the ids whose row passes is the least id of a row that does, where they rise and the rows that pass are among them.
  pub first_is_least : (ids : List ℕ) → AreSought may rows (as_pairs ids) → find (λ id. passes_at may (line_at Rows (id ∷ []) rows)) ids ≡ least (map id_of (filter may rows))
  first_is_least [] sought = sought_none may rows [] refl sought table
  first_is_least (n ∷ ids) sought =
      by_test (passes_at may (line_at Rows (n ∷ []) rows))
      (λ passes. rw passes (sought_found may rows (0, n) (as_pairs (n ∷ ids)) (as_pairs ids) refl passes sought table))
      (λ fails. rw fails (first_is_least ids (sought_on may rows (0, n) (as_pairs (n ∷ ids)) (as_pairs ids) refl fails sought)))

-- ---- ids in keys that rise

module _ (part : Part) (base step : ℕ) (steps : 1 ≤ step) where
  -- The key is this far from the base.
  abbrev pub IsFar : Pair → Type 0
  IsFar p = p.key ≡ base + id_in_key part p.key * step

  later_ids : (p : Pair) (low high : ℕ) (ps : List Pair) → p.key < low → Within low high ps → IsFar p → ((q : Pair) → Contains ps q → IsFar q) → AllByRecursion (λ later. id_in_key part p.key < later.1) (as_pairs (ids_in part ps))
  later_ids p low high [] below rises far each = tt
  later_ids p low high (q ∷ ps) below rises far each =
      let start = rises.0 in
      let own = each q (head_is_in q ps) in (
        less (id_in_key part p.key) (id_in_key part q.key) (omega (arith, start, below, far, own)),
        later_ids p (suc q.key) high ps (omega (arith, start, below)) rises.1 far (λ r has. each r (tail_is_in q ps r has)),
      )
    where
      less : (m n : ℕ) → m * step < n * step → m < n
      less m n more = elim (cases_lt m n) [
        | inl is ↦ is
        | inr most ↦ let le = mul-le-mul_left step most in absurd (omega (arith, more, le))
      ]

  pub ids_rise : (low high : ℕ) (ps : List Pair) → Within low high ps → ((p : Pair) → Contains ps p → IsFar p) → IdsRise (as_pairs (ids_in part ps))
  ids_rise low high [] rises each = tt
  ids_rise low high (p ∷ ps) rises each = (
    later_ids p (suc p.key) high ps (omega arith) rises.1 (each p (head_is_in p ps)) (λ q has. each q (tail_is_in p ps q has)),
    ids_rise (suc p.key) high ps rises.1 (λ q has. each q (tail_is_in p ps q has)),
  )
