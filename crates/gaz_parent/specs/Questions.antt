-- What the parent rule asks, for a count of what it reads.
use Rattle.std.specs.Prelude.{ℕ, ◌+◌, ◌≤◌, List, [], ◌∷◌, ◌++◌, map, All, sum_by}
use Rattle.gaz_row.specs.Row.{id_of}
use Rattle.gaz_tables.specs.declared.link.LinkClass.{LinkClass}
use Rattle.gaz_tables.specs.declared.link.LinkClass.TheVariants.{Adm, Plain}
use Rattle.gaz_parent.specs.Parent.{first_level, downwards}

-- a question, with what is asked about
pub data Question : Type 0 where
  -- to which place links of this class lead from this child
  by_link : ℕ → LinkClass → Question
  -- which division of this level stands above this row
  by_division : ℕ → List ℕ → Question
  -- which country stands above this row
  by_country : List ℕ → Question

-- which divisions stand above a row, from a level downwards to 1
abbrev pub divisions : ℕ → List ℕ → List Question
divisions level row = map (λ k. by_division k row) (downwards level)

-- all that is asked to find the parent of a row, each once
abbrev pub questions : List ℕ → List Question
questions row =
    by_link (id_of row) Adm ∷ divisions (first_level row) row ++ by_country row ∷ by_link (id_of row) Plain ∷ []

-- From one count to the next no more was read than these questions may, where each of them has a bound.
pub record ReadsNoMore (bounded : Question → ℕ → Type 0) (asked : List Question) (before now : ℕ) : Type 0 where
  pub most : (bound : Question → ℕ) → All (λ question. bounded question (bound question)) asked → now ≤ before + sum_by bound asked
