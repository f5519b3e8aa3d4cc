-- A row's line is put together of nine parts.
use Rattle.std.proofs.Common.{◌≡◌, ℕ, ◌%◌, ◌+◌, List, [], ◌∷◌, ◌++◌, refl, sym, ◌∙◌, ap, append_assoc}
use Rattle.std.specs.Prelude.{codes, decimal}
use Rattle.std.specs.List.{join_with_byte}
use Rattle.gaz_make.specs.Made.{Drawn, coordinate, row_line, place_name, feature_class, feature_code, country_code, admin_code}
use Rattle.gaz_make.specs.Row.{names_part, codes_part}

regroup : (t a b c d e f g h i : List ℕ) → ((((((((t ++ a) ++ b) ++ c) ++ d) ++ e) ++ f) ++ g) ++ h) ++ i ≡ t ++ (a ++ (b ++ (c ++ (d ++ (e ++ (f ++ (g ++ (h ++ i))))))))
regroup t a b c d e f g h i = simp (append_assoc) refl

nine : (t a b c d e f g h i t1 t2 t3 t4 t5 t6 t7 t8 t9 : List ℕ) → t1 ≡ t ++ a → t2 ≡ t1 ++ b → t3 ≡ t2 ++ c → t4 ≡ t3 ++ d → t5 ≡ t4 ++ e → t6 ≡ t5 ++ f → t7 ≡ t6 ++ g → t8 ≡ t7 ++ h → t9 ≡ t8 ++ i → t9 ≡ t ++ (a ++ (b ++ (c ++ (d ++ (e ++ (f ++ (g ++ (h ++ i))))))))
nine t a b c d e f g h i t1 t2 t3 t4 t5 t6 t7 t8 t9 e1 e2 e3 e4 e5 e6 e7 e8 e9 =
    let s2 : t2 ≡ (t ++ a) ++ b = e2 ∙ ap (λ (x : List ℕ). x ++ b) e1 in
    let s3 : t3 ≡ ((t ++ a) ++ b) ++ c = e3 ∙ ap (λ (x : List ℕ). x ++ c) s2 in
    let s4 : t4 ≡ (((t ++ a) ++ b) ++ c) ++ d = e4 ∙ ap (λ (x : List ℕ). x ++ d) s3 in
    let s5 : t5 ≡ ((((t ++ a) ++ b) ++ c) ++ d) ++ e = e5 ∙ ap (λ (x : List ℕ). x ++ e) s4 in
    let s6 : t6 ≡ (((((t ++ a) ++ b) ++ c) ++ d) ++ e) ++ f = e6 ∙ ap (λ (x : List ℕ). x ++ f) s5 in
    let s7 : t7 ≡ ((((((t ++ a) ++ b) ++ c) ++ d) ++ e) ++ f) ++ g = e7 ∙ ap (λ (x : List ℕ). x ++ g) s6 in
    let s8 : t8 ≡ (((((((t ++ a) ++ b) ++ c) ++ d) ++ e) ++ f) ++ g) ++ h = e8 ∙ ap (λ (x : List ℕ). x ++ h) s7 in
    e9 ∙ ap (λ (x : List ℕ). x ++ i) s8 ∙ regroup t a b c d e f g h i

-- the columns of any such row, with an LF
columns : (id name lat lon class code country admin pop zone date : List ℕ)
    → join_with_byte 9 (id ∷ name ∷ name ∷ [] ∷ lat ∷ lon ∷ class ∷ code ∷ country ∷ [] ∷ admin ∷ [] ∷ [] ∷ [] ∷ pop ∷ [] ∷ [] ∷ zone ∷ date ∷ []) ++ 10 ∷ []
    ≡ (id ++ 9 ∷ (name ++ 9 ∷ (name ++ 9 ∷ 9 ∷ []))) ++ (lat ++ (9 ∷ [] ++ (lon ++ ((9 ∷ (class ++ 9 ∷ (code ++ 9 ∷ (country ++ 9 ∷ 9 ∷ (admin ++ 9 ∷ 9 ∷ 9 ∷ 9 ∷ [])))))
    ++ (pop ++ ((9 ∷ 9 ∷ 9 ∷ (zone ++ 9 ∷ [])) ++ (date ++ 10 ∷ [])))))))
columns id name lat lon class code country admin pop zone date = simp (append_assoc) refl

-- what is pushed for a row
pub row_put : (i : ℕ) (x : Drawn) (more : ℕ) (date t t1 t2 t3 t4 t5 t6 t7 t8 t9 : List ℕ)
    → t1 ≡ t ++ names_part i → t2 ≡ t1 ++ coordinate 90000 x.latitude → t3 ≡ t2 ++ 9 ∷ [] → t4 ≡ t3 ++ coordinate 180000 x.longitude → t5 ≡ t4 ++ codes_part i
    → t6 ≡ t5 ++ decimal (x.population % 1000000 + more) → t7 ≡ t6 ++ codes "\t\t\tEtc/UTC\t" → t8 ≡ t7 ++ date → t9 ≡ t8 ++ 10 ∷ []
    → t9 ≡ t ++ (row_line i x more date ++ 10 ∷ [])
row_put i x more date t t1 t2 t3 t4 t5 t6 t7 t8 t9 e1 e2 e3 e4 e5 e6 e7 e8 e9 =
    nine t (names_part i) (coordinate 90000 x.latitude) (9 ∷ []) (coordinate 180000 x.longitude) (codes_part i) (decimal (x.population % 1000000 + more)) (codes "\t\t\tEtc/UTC\t") date (10 ∷ []) t1 t2 t3 t4 t5 t6 t7 t8 t9 e1 e2 e3 e4 e5 e6 e7 e8 e9
    ∙ ap (λ (xs : List ℕ). t ++ xs)
    (sym (columns (decimal i) (place_name i) (coordinate 90000 x.latitude) (coordinate 180000 x.longitude) (feature_class i) (feature_code i) (country_code i) (admin_code i) (decimal (x.population % 1000000 + more)) (codes "Etc/UTC") date))
