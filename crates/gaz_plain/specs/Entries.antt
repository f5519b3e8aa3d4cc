-- Entries of a list of lines: a key and the line that stands under it.
use Rattle.std.specs.Prelude.{ℕ, ◌≤◌, List, length, map, vec_items, Vec}
use Rattle.std.specs.List.{AllByRecursion}
use Rattle.std.specs.List.Sorted.{IsStrictlySortedBy}
use Rattle.std.specs.Map.{keys_of}
use Rattle.std.specs.declared.cmp.Ordering.{Ordering}
use Rattle.gaz_num.specs.declared.words.Table.{Table}
use Rattle.gaz_plain.specs.Gazetteer.{limit_of}
use Rattle.gaz_plain.specs.Places.{IsKeyOf}

-- the lines of entries
abbrev pub lines_of : {K Z : Type 0} → List (K × Vec ℕ Z) → List (List ℕ)
lines_of entries = map (λ entry. vec_items entry.1) entries

-- The keys rise, each is that of its line, and there are no more lines than the table may have.
pub record AreEntries {K Z : Type 0} (table : Table) (cmp : K → K → Ordering) (numbers : K → List ℕ) (entries : List (K × Vec ℕ Z)) : Type 0 where
  pub keyed : AllByRecursion (λ entry. IsKeyOf table (numbers entry.0) (vec_items entry.1)) entries
  pub rising : IsStrictlySortedBy cmp (keys_of entries)
  pub within : length entries ≤ limit_of table
