-- Worked lines, loads and days, each by computation.
use Rattle.std.proofs.Common.{◌≡◌, ℕ, ◌++◌, List, [], ◌∷◌, refl, Some, None}
use Rattle.std.specs.Prelude.{codes, if◌then◌else◌, Ok, Err}
use Rattle.std.specs.Str.{is_utf8, chars, bytes_eq}
use Rattle.std.specs.Fmt.{digits}
use lib.Utf8.{encode}
use Rattle.gaz_num.specs.Check.{reason_against}
use Rattle.gaz_num.specs.Refusal.{not_loaded, sequence, absent, malformed}
use Rattle.gaz_num.specs.declared.words.Kind.TheVariants.{Row, RowDelete, Alt, AltDelete}
use Rattle.gaz_num.specs.declared.words.Table.TheVariants as table
use Rattle.gaz_num.specs.declared.words.FileName.TheVariants as file
use Rattle.gaz_num.specs.declared.words.Reason.TheVariants as reason
use Rattle.gaz_plain.specs.Gazetteer.{Gazetteer, empty, dated, step, line_with, after_line}
use Rattle.gaz_plain.specs.Fold.{part}
use Rattle.gaz_plain.specs.Names.{names_of}
use Rattle.gaz_plain.specs.Load.{Files, load, day}

-- a row of an id, a name and a population
abbrev row : List ℕ → List ℕ → List ℕ → List ℕ
row id name population = id ++ codes "\t" ++ name ++ codes "\t\t\t0\t0\tP\tPPL\tAA\t\t\t\t\t\t" ++ population ++ codes "\t\t\t\t2024-02-01"

abbrev a1 : List ℕ
a1 = row (codes "1") (codes "A") (codes "1")

abbrev b2 : List ℕ
b2 = row (codes "2") (codes "B") (codes "2")

abbrev c3 : List ℕ
c3 = row (codes "3") (codes "C") (codes "3")

abbrev x2 : List ℕ
x2 = row (codes "2") (codes "X") (codes "9")

-- a gazetteer of rows
abbrev gazetteer : ℕ → List (List ℕ) → Gazetteer
gazetteer date rows = record empty { date = Some date; rows = rows }

-- one file
abbrev one : List ℕ → List ℕ → Files
one name bytes asked = if bytes_eq name asked then Some bytes else None

-- a file beside others
abbrev beside : List ℕ → List ℕ → Files → Files
beside name bytes files asked = if bytes_eq name asked then Some bytes else files asked

-- the files of a load, of which all but that of the rows are empty
abbrev loaded_from : List ℕ → Files
loaded_from rows =
    beside (codes "allCountries.txt") rows
    (beside (codes "alternateNamesV2.txt") []
    (beside (codes "hierarchy.txt") []
    (beside (codes "countryInfo.txt") []
    (beside (codes "admin1CodesASCII.txt") []
    (one (codes "admin2Codes.txt") [])))))

-- the files of a day, of which those of the alternate names are empty
abbrev changed_by : List ℕ → List ℕ → Files
changed_by rows deletes =
    beside (codes "modifications-0000-01-07.txt") rows
    (beside (codes "deletes-0000-01-07.txt") deletes
    (beside (codes "alternateNamesModifications-0000-01-07.txt") []
    (one (codes "alternateNamesDeletes-0000-01-07.txt") [])))

-- a row goes between those with lesser and greater ids
put_between : step (gazetteer 5 (a1 ∷ c3 ∷ [])) Row b2 ≡ gazetteer 5 (a1 ∷ b2 ∷ c3 ∷ [])
put_between = refl

-- a row takes the place of the one with its id
put_over : step (gazetteer 5 (a1 ∷ b2 ∷ c3 ∷ [])) Row x2 ≡ gazetteer 5 (a1 ∷ x2 ∷ c3 ∷ [])
put_over = refl

-- only the first column of a delete is read
taken_out : step (gazetteer 5 (a1 ∷ b2 ∷ c3 ∷ [])) RowDelete (codes "2\tanother name\tgone") ≡ gazetteer 5 (a1 ∷ c3 ∷ [])
taken_out = refl

-- a delete of an unknown id changes nothing
unknown_taken_out : step (gazetteer 5 (a1 ∷ c3 ∷ [])) RowDelete (codes "2") ≡ gazetteer 5 (a1 ∷ c3 ∷ [])
unknown_taken_out = refl

-- ids are compared as numbers, also where one has a zero in front
zero_in_front : step (gazetteer 5 (a1 ∷ b2 ∷ [])) RowDelete (codes "002") ≡ gazetteer 5 (a1 ∷ [])
zero_in_front = refl

found : line_with table.Rows (2 ∷ []) (gazetteer 5 (a1 ∷ x2 ∷ c3 ∷ [])) ≡ Some x2
found = refl

not_found : line_with table.Rows (4 ∷ []) (gazetteer 5 (a1 ∷ x2 ∷ c3 ∷ [])) ≡ None
not_found = refl

accepted : reason_against Row a1 ≡ None
unfolding reason_against is_utf8 chars encode
accepted = refl

-- out of order, and one twice: the later stands
loaded : load (loaded_from (c3 ++ codes "\n" ++ b2 ++ codes "\n" ++ a1 ++ codes "\n" ++ x2)) 5 ≡ Ok (gazetteer 5 (a1 ∷ x2 ∷ c3 ∷ []))
unfolding load after_line reason_against is_utf8 chars encode
loaded = refl

empty_load : load (loaded_from []) 5 ≡ Ok (dated empty 5)
unfolding load
empty_load = refl

absent_file : load (one (codes "all") a1) 5 ≡ Err (absent file.Rows)
unfolding load
absent_file = refl

-- an empty line has one column
bad_line : load (loaded_from (c3 ++ codes "\n\n" ++ a1)) 5 ≡ Err (malformed file.Rows 2 reason.Columns)
unfolding load after_line reason_against is_utf8 chars encode
bad_line = refl

-- stopped before the bad line
before_bad_line : part (dated empty 5) (record { name = file.Rows; bytes = c3 ++ codes "\n\n" ++ a1 } ∷ []) 1 ≡ Ok (gazetteer 5 (c3 ∷ []))
unfolding after_line reason_against is_utf8 chars encode
before_bad_line = refl

-- stopped before all
before_all : part (dated empty 5) (record { name = file.Rows; bytes = codes "\n" } ∷ []) 0 ≡ Ok (dated empty 5)
before_all = refl

-- the second line is that of the second file
over_two_files : part (gazetteer 5 (a1 ∷ b2 ∷ [])) (record { name = file.Modifications 5; bytes = c3 } ∷ record { name = file.Deletes 5; bytes = codes "1\n2\nx" } ∷ []) 2 ≡ Ok (gazetteer 5 (b2 ∷ c3 ∷ []))
unfolding after_line reason_against is_utf8 chars encode
over_two_files = refl

no_load : day empty (one [] []) 5 ≡ Err not_loaded
unfolding day
no_load = refl

-- not the day after, though no file is there either
wrong_date : day (dated empty 5) (one [] []) 5 ≡ Err (sequence 5)
unfolding day
wrong_date = refl

-- a day is left out
later_date : day (dated empty 5) (one [] []) 7 ≡ Err (sequence 5)
unfolding day
later_date = refl

absent_day : day (dated empty 5) (one [] []) 6 ≡ Err (absent (file.Modifications 6))
unfolding day digits
absent_day = refl

-- a changed row, a row taken out, and an unknown id
day_applied : day (gazetteer 5 (a1 ∷ x2 ∷ c3 ∷ [])) (changed_by (b2 ++ codes "\n") (codes "3\tC\tgone\n77")) 6 ≡ Ok (gazetteer 6 (a1 ∷ b2 ∷ []))
unfolding day after_line reason_against is_utf8 chars encode digits
day_applied = refl

-- a row that is changed and taken out on one day is gone
changed_and_deleted : day (gazetteer 5 (a1 ∷ b2 ∷ c3 ∷ [])) (changed_by x2 (codes "2\tX\tgone")) 6 ≡ Ok (gazetteer 6 (a1 ∷ c3 ∷ []))
unfolding day after_line reason_against is_utf8 chars encode digits
changed_and_deleted = refl

-- the line of a delete is counted in its own file
bad_delete : day (gazetteer 5 (a1 ∷ [])) (changed_by (b2 ++ codes "\n") (codes "1\nx")) 6 ≡ Err (malformed (file.Deletes 6) 2 reason.Id)
unfolding day after_line reason_against is_utf8 chars encode digits
bad_delete = refl

-- ---- alternate names

-- a German name of the place 1, and a link of it
abbrev german : List ℕ
german = codes "7\t1\tde\tAh"

abbrev link : List ℕ
link = codes "8\t1\tlink\thttps://a.example\t\t\t\t\t\t"

abbrev named : Gazetteer
named = record (gazetteer 5 (a1 ∷ b2 ∷ [])) { alternates = german ∷ link ∷ [] }

alternate_put : step (record (gazetteer 5 (a1 ∷ b2 ∷ [])) { alternates = link ∷ [] }) Alt german ≡ named
alternate_put = refl

-- a deleted place leaves its alternates
place_gone : step named RowDelete (codes "1") ≡ record (gazetteer 5 (b2 ∷ [])) { alternates = german ∷ link ∷ [] }
place_gone = refl

alternate_gone : step named AltDelete (codes "7\tAh") ≡ record (gazetteer 5 (a1 ∷ b2 ∷ [])) { alternates = link ∷ [] }
alternate_gone = refl

-- a link is no name
names_of_all : names_of named None a1 ≡ codes "A" ∷ [] ∷ codes "Ah" ∷ []
names_of_all = refl

-- but one of the language `link` where that is asked for
names_of_one : names_of named (Some (codes "link")) a1 ≡ codes "https://a.example" ∷ []
names_of_one = refl

names_of_another : names_of named None b2 ≡ codes "B" ∷ [] ∷ []
names_of_another = refl
