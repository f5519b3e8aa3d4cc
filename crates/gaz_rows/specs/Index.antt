-- The index of a gazetteer: which keys its lines have, and what stands at them.
use Rattle.std.specs.Prelude.{◌≡◌, ◌<◌, ◌^◌, ℕ, List, ◌∷◌, Option, Some, IsSome, Contains, option_and_then}
use Rattle.gaz_num.specs.Pieces.{column}
use Rattle.gaz_plain.specs.Gazetteer.{Gazetteer}
use Rattle.gaz_num.specs.declared.words.Table.{Table}
use Rattle.gaz_plain.specs.Gazetteer.{lines_in}
use Rattle.gaz_name.specs.Name.{first_bytes}
use Rattle.gaz_keys.specs.Keys.{IsKey}
use Rattle.gaz_keys.specs.Lines.{key_at, more_keys}

-- which slot each admin code has
abbrev pub Slots : Type 0
Slots = List ℕ → ℕ

-- the key whose value is the place of the line
abbrev pub line_key : Slots → Table → List ℕ → List ℕ
line_key slots table line = key_at table (slots (column 1 line)) line

-- all keys of a line
abbrev pub line_keys : Slots → Table → List ℕ → List (List ℕ)
line_keys slots table line = line_key slots table line ∷ more_keys table line

-- Some line of the gazetteer has the key.
pub record IsKeyOf (slots : Slots) (gaz : Gazetteer) (key : List ℕ) : Type 0 where
  pub table : Table
  pub line : List ℕ
  pub there : Contains (lines_in gaz table) line
  pub among : Contains (line_keys slots table line) key

-- Codes with equal first bytes have different slots, each of four bytes.
pub record SlotsDiffer (slots : Slots) (gaz : Gazetteer) : Type 0 where
  pub fit : (line : List ℕ) → Contains gaz.codes line → slots (column 1 line) < 2 ^ 32
  pub differ : (a b : List ℕ) → Contains gaz.codes a → Contains gaz.codes b → first_bytes 23 (column 1 a) ≡ first_bytes 23 (column 1 b) → slots (column 1 a) ≡ slots (column 1 b) → a ≡ b

-- A map of keys to values, and one of places to bytes, hold the lines of a gazetteer.
pub record IsIndexed (slots : Slots) (gaz : Gazetteer) (value : List ℕ → Option ℕ) (bytes : ℕ → Option (List ℕ)) : Type 0 where
  -- The keys are exactly those of the lines.
  pub all : (key : List ℕ) → IsKeyOf slots gaz key → IsSome (value key)
  pub only : (key : List ℕ) → IsKey key → IsSome (value key) → IsKeyOf slots gaz key
  -- At the place of each line stands the line.
  pub lines : (table : Table) (line : List ℕ) → Contains (lines_in gaz table) line → option_and_then bytes (value (line_key slots table line)) ≡ Some line
  -- The other keys have the value 0.
  pub zeros : (table : Table) (line key : List ℕ) → Contains (lines_in gaz table) line → Contains (more_keys table line) key → value key ≡ Some 0
  -- No two lines stand at one place.
  pub apart : (table other : Table) (line another : List ℕ) → Contains (lines_in gaz table) line → Contains (lines_in gaz other) another → value (line_key slots table line) ≡ value (line_key slots other another) → (table ≡ other) × (line ≡ another)
  pub slots_differ : SlotsDiffer slots gaz
