-- Files that are put one behind the other.
use Rattle.std.proofs.Common.{◌≡◌, ℕ, List, [], ◌∷◌, ◌++◌, ◌∙◌, ap, append_assoc}
use Rattle.std.specs.Prelude.{Result, Ok, Err, OnOk, codes}
use Rattle.gaz_make.specs.Files.{load_files, day_files}

-- a name and bytes
abbrev File : Type 0
File = List ℕ × List ℕ

-- one file more
file_more : (old mid new files : List File) (file : File) → mid ≡ old ++ files → new ≡ mid ++ file ∷ [] → new ≡ old ++ (files ++ file ∷ [])
file_more old mid new files file before put = put ∙ ap (λ (fs : List File). fs ++ file ∷ []) before ∙ append_assoc old files (file ∷ [])

-- one empty file more
empty_more : (old mid new files : List File) (name bytes : List ℕ) → bytes ≡ [] → mid ≡ old ++ files → new ≡ mid ++ (name, bytes) ∷ [] → new ≡ old ++ (files ++ (name, []) ∷ [])
empty_more old mid new files name bytes none before put =
    file_more old mid new files (name, []) before (put ∙ ap (λ (b : List ℕ). mid ++ (name, b) ∷ []) none)

-- and that is the last one, where there was memory
last_empty : {T E : Type 0} (result : Result T E) (old mid new files : List File) (name bytes : List ℕ) → bytes ≡ [] → mid ≡ old ++ files → OnOk result (new ≡ mid ++ (name, bytes) ∷ []) → OnOk result (new ≡ old ++ (files ++ (name, []) ∷ []))
last_empty (Ok x) old mid new files name bytes none before put = empty_more old mid new files name bytes none before put
last_empty (Err e) old mid new files name bytes none before put = tt

-- the files of a day
pub day_put : {T E : Type 0} (result : Result T E) (old l1 l2 l3 new : List File) (changed deleted b3 b4 : List ℕ)
    → b3 ≡ [] → b4 ≡ []
    → l1 ≡ old ++ (codes "modifications-2000-01-02.txt", changed) ∷ []
    → l2 ≡ l1 ++ (codes "deletes-2000-01-02.txt", deleted) ∷ []
    → l3 ≡ l2 ++ (codes "alternateNamesModifications-2000-01-02.txt", b3) ∷ []
    → OnOk result (new ≡ l3 ++ (codes "alternateNamesDeletes-2000-01-02.txt", b4) ∷ [])
    → OnOk result (new ≡ old ++ day_files changed deleted)
day_put result old l1 l2 l3 new changed deleted b3 b4 none3 none4 e1 e2 e3 e4 =
    let modifications : File = (codes "modifications-2000-01-02.txt", changed) in
    let deletes : File = (codes "deletes-2000-01-02.txt", deleted) in
    let two = file_more old l1 l2 (modifications ∷ []) deletes e1 e2 in
    let three = empty_more old l2 l3 (modifications ∷ deletes ∷ []) (codes "alternateNamesModifications-2000-01-02.txt") b3 none3 two e3 in
    last_empty result old l3 new (modifications ∷ deletes ∷ (codes "alternateNamesModifications-2000-01-02.txt", []) ∷ []) (codes "alternateNamesDeletes-2000-01-02.txt") b4 none4 three e4

-- the files of a load
pub load_put : {T E : Type 0} (result : Result T E) (old l1 l2 l3 l4 l5 new : List File) (table b2 b3 b4 b5 b6 : List ℕ)
    → b2 ≡ [] → b3 ≡ [] → b4 ≡ [] → b5 ≡ [] → b6 ≡ []
    → l1 ≡ old ++ (codes "allCountries.txt", table) ∷ []
    → l2 ≡ l1 ++ (codes "alternateNamesV2.txt", b2) ∷ []
    → l3 ≡ l2 ++ (codes "hierarchy.txt", b3) ∷ []
    → l4 ≡ l3 ++ (codes "countryInfo.txt", b4) ∷ []
    → l5 ≡ l4 ++ (codes "admin1CodesASCII.txt", b5) ∷ []
    → OnOk result (new ≡ l5 ++ (codes "admin2Codes.txt", b6) ∷ [])
    → OnOk result (new ≡ old ++ load_files table)
load_put result old l1 l2 l3 l4 l5 new table b2 b3 b4 b5 b6 none2 none3 none4 none5 none6 e1 e2 e3 e4 e5 e6 =
    let f1 : File = (codes "allCountries.txt", table) in
    let f2 : File = (codes "alternateNamesV2.txt", []) in
    let f3 : File = (codes "hierarchy.txt", []) in
    let f4 : File = (codes "countryInfo.txt", []) in
    let f5 : File = (codes "admin1CodesASCII.txt", []) in
    let two = empty_more old l1 l2 (f1 ∷ []) f2.0 b2 none2 e1 e2 in
    let three = empty_more old l2 l3 (f1 ∷ f2 ∷ []) f3.0 b3 none3 two e3 in
    let four = empty_more old l3 l4 (f1 ∷ f2 ∷ f3 ∷ []) f4.0 b4 none4 three e4 in
    let five = empty_more old l4 l5 (f1 ∷ f2 ∷ f3 ∷ f4 ∷ []) f5.0 b5 none5 four e5 in
    last_empty result old l5 new (f1 ∷ f2 ∷ f3 ∷ f4 ∷ f5 ∷ []) (codes "admin2Codes.txt") b6 none6 five e6
