-- The lines of files, one after another, up to the first refusal.
use Rattle.std.specs.Prelude.{ℕ, zero, suc, List, [], ◌∷◌, ◌++◌, Result, Ok, Err, if◌then◌else◌}
use Rattle.std.specs.List.{flat_map}
use Rattle.gaz_num.specs.declared.words.FileName.{FileName}
use Rattle.gaz_num.specs.Pieces.{lines_within, is_too_long}
use Rattle.gaz_num.specs.Refusal.{Refusal, too_long, malformed as refused_malformed, full as refused_full, ◌>>=◌}
use Rattle.gaz_num.specs.Words.{kind_of_file}
use Rattle.gaz_plain.specs.Gazetteer.{Gazetteer, LineFault, malformed, full, after_line}

-- A file is its name and its bytes.
pub record File : Type 0 where
  pub name : FileName
  pub bytes : List ℕ

-- what is met on the way through files
pub data Item : Type 0 where
  -- a line of a file, with its number
  line : FileName → ℕ → List ℕ → Item
  -- the end of the lines of a file that is too long
  overrun : FileName → Item

-- these lines of a file, of which the first has the number n
abbrev pub lines_from : FileName → ℕ → List (List ℕ) → List Item
lines_from name n [] = []
lines_from name n (bytes ∷ more) = line name n bytes ∷ lines_from name (suc n) more

-- a file's lines, numbered from 1, and behind them its end where it is too long
abbrev pub items_of : File → List Item
items_of file = lines_from file.name 1 (lines_within file.bytes) ++ (if is_too_long file.bytes then overrun file.name ∷ [] else [])

-- the items of all files, in order
abbrev pub items_in : List File → List Item
items_in files = flat_map items_of files

-- the refusal for a fault of line n of a file
abbrev pub refusal_at : FileName → ℕ → LineFault → Refusal
refusal_at name n (malformed reason) = refused_malformed name n reason
refusal_at name n (full table) = refused_full name n table

-- what a line gave, its fault with the file and the number of the line
abbrev pub in_place : FileName → ℕ → Result Gazetteer LineFault → Result Gazetteer Refusal
in_place name n (Ok gaz) = Ok gaz
in_place name n (Err fault) = Err (refusal_at name n fault)

-- the gazetteer after an item, or its refusal
abbrev pub after_item : Gazetteer → Item → Result Gazetteer Refusal
after_item gaz (line name n bytes) = in_place name n (after_line gaz (kind_of_file name) bytes)
after_item gaz (overrun name) = Err (too_long name)

-- the gazetteer after items, or the first refusal
abbrev pub after_items : Gazetteer → List Item → Result Gazetteer Refusal
after_items gaz [] = Ok gaz
after_items gaz (item ∷ items) = after_item gaz item >>= λ new. after_items new items

-- the gazetteer after all lines of files, or the first refusal
abbrev pub fold : Gazetteer → List File → Result Gazetteer Refusal
fold gaz files = after_items gaz (items_in files)

-- the items up to the n-th line, or all where there are fewer lines
abbrev pub up_to_line : ℕ → List Item → List Item
up_to_line zero items = []
up_to_line (suc n) [] = []
up_to_line (suc n) (line name number bytes ∷ items) = line name number bytes ∷ up_to_line n items
up_to_line (suc n) (overrun name ∷ items) = overrun name ∷ up_to_line (suc n) items

-- the fold of files, stopped after n lines or at the end of all files
abbrev pub part : Gazetteer → List File → ℕ → Result Gazetteer Refusal
part gaz files n = after_items gaz (up_to_line n (items_in files))
