-- What holds of every step, fold, load and day.
use Rattle.std.specs.Prelude.{◌≡◌, ℕ, ◌<◌, true, false, List, ◌++◌, length, map, reverse, sum_by, Option, Some, None, IsSome, Ok, Err, IfOk}
use Rattle.gaz_num.specs.declared.words.Kind.{Kind}
use Rattle.gaz_num.specs.declared.words.Table.{Table}
use Rattle.gaz_num.specs.Check.{key_in}
use Rattle.gaz_num.specs.Pieces.{lines_within}
use Rattle.gaz_num.specs.Refusal.{sequence, ◌>>=◌}
use Rattle.gaz_plain.specs.Gazetteer.{Gazetteer, IsGazetteer, table_of, is_delete, line_with, step}
use Rattle.gaz_pick.specs.Asked.{Asked}
use Rattle.gaz_pick.specs.Match.{pair_of}
use Rattle.gaz_row.specs.Row.{id_of}
use Rattle.gaz_plain.specs.Search.{answer_pairs, search_of}
use Rattle.gaz_plain.specs.Kin.{chain_of, hierarchy_of, children_pairs, children_of}
use Rattle.gaz_plain.specs.Fold.{File, fold, part}
use Rattle.gaz_plain.specs.Load.{Files, load, day}

-- A gazetteer with this date.
pub record IsGazetteerOf (date : Option ℕ) (gaz : Gazetteer) : Type 0 where
  pub is_gazetteer : IsGazetteer gaz
  pub has_date : gaz.date ≡ date

-- What a fold makes of a gazetteer with a date is a gazetteer with that date.
abbrev pub FoldKeeps : Type 0
FoldKeeps = (gaz : Gazetteer) (files : List File) → IsGazetteer gaz → IsSome gaz.date → IfOk (fold gaz files) (IsGazetteerOf gaz.date)

-- So it is where the fold was stopped after n lines.
abbrev pub PartKeeps : Type 0
PartKeeps = (gaz : Gazetteer) (files : List File) (n : ℕ) → IsGazetteer gaz → IsSome gaz.date → IfOk (part gaz files n) (IsGazetteerOf gaz.date)

-- What a load makes is a gazetteer with the date of the load.
abbrev pub LoadGives : Type 0
LoadGives = (shelf : Files) (date : ℕ) → IfOk (load shelf date) (IsGazetteerOf (Some date))

-- What a day makes of a gazetteer is a gazetteer with the date of the day.
abbrev pub DayGives : Type 0
DayGives = (gaz : Gazetteer) (shelf : Files) (date : ℕ) → IsGazetteer gaz → IfOk (day gaz shelf date) (IsGazetteerOf (Some date))

-- A day that was accepted is refused by its date when it comes again, whatever its files are then.
abbrev pub DayTwice : Type 0
DayTwice = (gaz new : Gazetteer) (shelf later : Files) (date : ℕ) → day gaz shelf date ≡ Ok new → day new later date ≡ Err (sequence date)

-- A step leaves the line of each table and key that aren't its own.
abbrev pub StepLeavesOthers : Type 0
StepLeavesOthers = (gaz : Gazetteer) (kind : Kind) (line : List ℕ) (table : Table) (key : List ℕ) →
    ¬ ((table ≡ table_of kind) × (key_in kind line ≡ Some key)) → line_with table key (step gaz kind line) ≡ line_with table key gaz

-- A step with a line that isn't a delete puts it at its key.
abbrev pub StepPuts : Type 0
StepPuts = (gaz : Gazetteer) (kind : Kind) (line key : List ℕ) →
    is_delete kind ≡ false → key_in kind line ≡ Some key → line_with (table_of kind) key (step gaz kind line) ≡ Some line

-- A step with a delete leaves no line at its key.
abbrev pub StepTakesOut : Type 0
StepTakesOut = (gaz : Gazetteer) (kind : Kind) (line key : List ℕ) →
    is_delete kind ≡ true → key_in kind line ≡ Some key → line_with (table_of kind) key (step gaz kind line) ≡ None

-- how many lines are read of all files
abbrev pub line_count : List File → ℕ
line_count files = sum_by (λ file. length (lines_within file.bytes)) files

-- The part of more lines than there are is the fold.
abbrev pub PartIsFold : Type 0
PartIsFold = (gaz : Gazetteer) (files : List File) (n : ℕ) → line_count files < n → part gaz files n ≡ fold gaz files

-- To fold files behind others is to fold those first and then these.
abbrev pub FoldsAppend : Type 0
FoldsAppend = (gaz : Gazetteer) (files more : List File) → fold gaz (files ++ more) ≡ (fold gaz files >>= λ new. fold new more)

-- The answer to a search has a row for each of its pairs, with that population and that id: none is lost between pairs and rows.
abbrev pub AnswersHaveRows : Type 0
AnswersHaveRows = (gaz : Gazetteer) (asked : Asked) → IsGazetteer gaz → map pair_of (search_of gaz asked) ≡ answer_pairs gaz asked

-- Each id of a chain has its row: the rows of a hierarchy have the ids of the chain, from the top down.
abbrev pub ChainsHaveRows : Type 0
ChainsHaveRows = (gaz : Gazetteer) (id : ℕ) → IsGazetteer gaz → map id_of (hierarchy_of gaz id) ≡ reverse (chain_of gaz id)

-- The children of a place have a row for each of their pairs: none is lost between pairs and rows.
abbrev pub ChildrenHaveRows : Type 0
ChildrenHaveRows = (gaz : Gazetteer) (id max : ℕ) → IsGazetteer gaz → map pair_of (children_of gaz id max) ≡ children_pairs gaz id max
