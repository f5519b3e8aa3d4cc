-- What a line of a kind speaks of.
use Rattle.std.specs.Prelude.{◌≡◌, ◌≢◌, ℕ, List, Option, None, Some, IsSome}
use Rattle.gaz_num.specs.declared.words.Kind.{Kind}
use Rattle.gaz_num.specs.declared.words.Table.TheVariants.{Codes}
use Rattle.gaz_num.specs.Check.{key_in}
use Rattle.gaz_plain.specs.Gazetteer.{table_of}
use Rattle.gaz_rows.specs.declared.target.Target.{Target}
use Rattle.gaz_rows.specs.declared.target.Target.TheVariants.{Key, Code}
use Rattle.gaz_rows.specs.Index.{Slots, line_key}

-- The line has a key in its table, and this key in the tree whatever slots codes have; or it is that of this admin code; or it has none.
abbrev pub IsTargetOf : Kind → List ℕ → Option Target → Type 0
IsTargetOf kind line None = key_in kind line ≡ None
IsTargetOf kind line (Some (Key key)) = IsSome (key_in kind line) × (table_of kind ≢ Codes) × ((slots : Slots) → line_key slots (table_of kind) line ≡ key)
IsTargetOf kind line (Some (Code code)) = (table_of kind ≡ Codes) × (key_in kind line ≡ Some code.now)
