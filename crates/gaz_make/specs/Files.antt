-- The files and the requests of a trial.
use Rattle.std.specs.Prelude.{ℕ, ◌+◌, ◌*◌, ◌-◌, ◌/◌, List, [], ◌∷◌, ◌++◌, map, codes, decimal}
use Rattle.std.specs.List.{join_with_byte}
use Rattle.gaz_make.specs.Made.{row_line, drawn_for, place_name, up_to, lined, made_table}

-- row i as the day changes it
abbrev pub changed_line : ℕ → ℕ → List ℕ
changed_line start i = row_line i (drawn_for start i) 1000000 (codes "2000-01-02")

-- the day changes the rows 100, 200 and so on
abbrev pub changed_lines : ℕ → ℕ → List (List ℕ)
changed_lines start rows = map (λ k. changed_line start (100 * k)) (up_to (rows / 100))

-- the line that deletes the row with this id
abbrev pub delete_line : ℕ → List ℕ
delete_line id = join_with_byte 9 (decimal id ∷ place_name id ∷ codes "made" ∷ [])

-- the day deletes the rows 999, 1999 and so on
abbrev pub delete_lines : ℕ → List (List ℕ)
delete_lines rows = map (λ k. delete_line (1000 * k - 1)) (up_to ((rows + 1) / 1000))

-- the files of a load besides the table
abbrev pub other_files : List (List ℕ)
other_files =
    codes "alternateNamesV2.txt"
    ∷ codes "hierarchy.txt"
    ∷ codes "countryInfo.txt"
    ∷ codes "admin1CodesASCII.txt"
    ∷ codes "admin2Codes.txt"
    ∷ []

-- the files of the load: the table, and the others empty
abbrev pub load_files : List ℕ → List (List ℕ × List ℕ)
load_files table = (codes "allCountries.txt", table) ∷ map (λ name. (name, [])) other_files

-- the files of the day: no alternate name is changed
abbrev pub day_files : List ℕ → List ℕ → List (List ℕ × List ℕ)
day_files changed deleted =
    (codes "modifications-2000-01-02.txt", changed)
    ∷ (codes "deletes-2000-01-02.txt", deleted)
    ∷ (codes "alternateNamesModifications-2000-01-02.txt", [])
    ∷ (codes "alternateNamesDeletes-2000-01-02.txt", [])
    ∷ []

-- the files of a trial, by name
abbrev pub made_files : ℕ → ℕ → List (List ℕ × List ℕ)
made_files start rows = load_files (made_table start rows) ++ day_files (lined (changed_lines start rows)) (lined (delete_lines rows))

-- the requests of a trial
abbrev pub request_text : List ℕ
request_text = lined (codes "load 2000-01-01" ∷ codes "day 2000-01-02" ∷ codes "search maxRows=3" ∷ [])
