-- The keys that a line has in the index.
use Rattle.std.specs.Prelude.{◌≡◌, ◌≤◌, length, IsAscii, ℕ, ◌*◌, ◌^◌, List, [], ◌∷◌, ◌++◌, pos, ◌+ℤ◌, nat_abs, Option, Some, None, IsSome, if◌then◌else◌, unwrap_or}
use Rattle.std.specs.List.{flat_map}
use Rattle.gaz_num.specs.Numbers.{id_in, degrees_in}
use Rattle.gaz_num.specs.Pieces.{column}
use Rattle.gaz_num.specs.Check.{class_in, reason_against, key_in}
use Rattle.gaz_num.specs.declared.words.Kind.{Kind}
use Rattle.gaz_num.specs.declared.words.Kind.TheVariants as kind
use Rattle.gaz_num.specs.declared.words.Table.{Table}
use Rattle.gaz_num.specs.declared.words.Table.TheVariants.{Rows, Alternates, Links, Countries, Codes}
use Rattle.gaz_name.specs.Name.{name_key_of, first_bytes}
use Rattle.gaz_box.specs.Edges as box
use Rattle.gaz_parent.specs.Parent.{is_country_row, level_of, path_columns}
use Rattle.gaz_keys.specs.Keys.{place_key, alternate_key, link_key, reverse_key, country_key, code_key, text_key, box_key, division_key, path_key}

-- the id in a column, and 0 where there is none
abbrev pub id_at : ℕ → List ℕ → ℕ
id_at n line = unwrap_or (id_in (column n line)) 0

-- the band of a row's latitude
abbrev pub band_at : List ℕ → ℕ
band_at line = box.band_of (unwrap_or (degrees_in 90 (column 5 line)) (pos 0))

-- a row's longitude plus 180 degrees, in units of 10^-12 degree
abbrev pub east_at : List ℕ → ℕ
east_at line = nat_abs (unwrap_or (degrees_in 180 (column 6 line)) (pos 0) +ℤ pos (180 * 10 ^ 12))

-- the path to a level: the country and the admin codes up to it, each with a zero behind it
abbrev pub path_to : ℕ → List ℕ → List ℕ
path_to level line = flat_map (λ n. column n line ++ 0 ∷ []) (path_columns level)

-- 0 for a country row, the level of a division, and none for other rows
abbrev pub division_level : List ℕ → Option ℕ
division_level line = if is_country_row line then Some 0 else level_of line

-- the key of a division or a country row
abbrev pub division_keys : List ℕ → Option ℕ → List (List ℕ)
division_keys line None = []
division_keys line (Some level) = division_key level (first_bytes 26 (path_to level line)) (id_at 1 line) ∷ []

-- the first 22 bytes of the name key of a column
abbrev pub name_at : ℕ → List ℕ → List ℕ
name_at n line = first_bytes 22 (name_key_of (column n line))

-- the key of a row by its name
abbrev pub named_key : List ℕ → List ℕ
named_key line = text_key (name_at 2 line) 0 (id_at 1 line) 0

-- the key of a row by its asciiname
abbrev pub ascii_key : List ℕ → List ℕ
ascii_key line = text_key (name_at 3 line) 1 (id_at 1 line) 0

-- the key of a row by where it lies
abbrev pub lying_key : List ℕ → List ℕ
lying_key line = box_key (band_at line) (east_at line) (id_at 1 line)

-- the key of a row by its divisions
abbrev pub divided_key : List ℕ → List ℕ
divided_key line = path_key (first_bytes 27 (path_to 4 line)) (id_at 1 line)

-- The key whose value is the place of the line. A code has one of the slots.
abbrev pub key_at : Table → ℕ → List ℕ → List ℕ
key_at Rows slot line = place_key (id_at 1 line)
key_at Alternates slot line = alternate_key (id_at 1 line)
key_at Links slot line = link_key (id_at 2 line) (class_in (column 3 line)) (id_at 1 line)
key_at Countries slot line = country_key (first_bytes 4 (column 1 line))
key_at Codes slot line = code_key (first_bytes 23 (column 1 line)) slot

-- the keys of a row by its names
abbrev pub name_keys : List ℕ → List (List ℕ)
name_keys line = named_key line ∷ ascii_key line ∷ []

-- the keys of a row by where it lies
abbrev pub row_keys : List ℕ → List (List ℕ)
row_keys line = lying_key line ∷ division_keys line (division_level line) ++ divided_key line ∷ []

-- the key of an alternate name by its text
abbrev pub alternate_text_key : List ℕ → List ℕ
alternate_text_key line = text_key (name_at 4 line) 2 (id_at 2 line) (id_at 1 line)

-- the other keys of a line, whose value is 0
abbrev pub more_keys : Table → List ℕ → List (List ℕ)
more_keys Rows line = name_keys line ++ row_keys line
more_keys Alternates line = alternate_text_key line ∷ []
more_keys Links line = reverse_key (id_at 1 line) (class_in (column 3 line)) (id_at 2 line) ∷ []
more_keys Countries line = []
more_keys Codes line = []

-- all keys of a line
abbrev pub keys_of : Table → ℕ → List ℕ → List (List ℕ)
keys_of table slot line = key_at table slot line ∷ more_keys table line

-- the kind of the lines that a table holds
abbrev pub kind_of : Table → Kind
kind_of Rows = kind.Row
kind_of Alternates = kind.Alt
kind_of Links = kind.Link
kind_of Countries = kind.Country
kind_of Codes = kind.Code

-- A line that its check accepts, and that isn't a comment: it has a key in its table.
pub record IsKeyed (table : Table) (line : List ℕ) : Type 0 where
  pub accepted : reason_against (kind_of table) line ≡ None
  pub keyed : IsSome (key_in (kind_of table) line)

-- A text of at most 64 bytes of ASCII.
pub record IsShort (text : List ℕ) : Type 0 where
  pub ascii : IsAscii text
  pub short : length text ≤ 64

-- The names of a line are short, if it has any.
abbrev pub HasShortNames : Table → List ℕ → Type 0
HasShortNames Rows line = IsShort (column 2 line) × IsShort (column 3 line)
HasShortNames Alternates line = IsShort (column 4 line)
HasShortNames table line = Unit
