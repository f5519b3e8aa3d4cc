-- A path with tabs tells its codes, since no column has a tab.
use Rattle.std.proofs.Common.{◌≡◌, ℕ, zero, suc, Bool, true, false, List, [], ◌∷◌, ◌++◌, flat_map, get_or, drop, refl, sym, ap, ap₂, ◌∙◌}
use Rattle.std.specs.Prelude.{◌&&◌, ◌||◌, not, ◌-◌, unwrap_or, slice_get, ◌==◌}
use Rattle.std.specs.List.{list_all, list_any, onto_first}
use Rattle.std.specs.Str.{bytes_eq}
use Rattle.std.proofs.lemmas.Bool.{eq-eqb}
use Rattle.std.proofs.lemmas.List.{append_assoc}
use Rattle.std.proofs.lemmas.List.Splits.{slice_split-cons_yes, slice_split-cons_no}
use Rattle.gaz_num.specs.Pieces.{is_tab, fields, column}
use Rattle.gaz_num.proofs.CalendarLemmas.{and_left, and_right}
use Rattle.gaz_pick.proofs.OrderLemmas.{by_test}
use Rattle.gaz_kin.specs.Kept.{path_with}

abbrev has_no_tab : List ℕ → Bool
has_no_tab text = not (list_any is_tab text)

-- ---- no column has a tab

onto : (b : ℕ) (parts : List (List ℕ)) → (b == 9) ≡ false → list_all has_no_tab parts ≡ true → list_all has_no_tab (onto_first b parts) ≡ true
onto b [] isnt all = rw isnt refl
onto b (part ∷ parts) isnt all = rw isnt all

each : (line : List ℕ) → list_all has_no_tab (fields line) ≡ true
each [] = refl
each (b ∷ line) =
    by_test (b == 9)
    (λ is. ap (list_all has_no_tab) (slice_split-cons_yes is_tab b line is) ∙ each line)
    (λ isnt. ap (list_all has_no_tab) (slice_split-cons_no is_tab b line isnt) ∙ onto b (fields line) isnt (each line))

one_of_them : (parts : List (List ℕ)) (k : ℕ) → list_all has_no_tab parts ≡ true → has_no_tab (unwrap_or (slice_get parts k) []) ≡ true
one_of_them [] k all = refl
one_of_them (part ∷ parts) zero all = and_left (has_no_tab part) _ all
one_of_them (part ∷ parts) (suc k) all = one_of_them parts k (and_right (has_no_tab part) _ all)

pub no_tab_in : (n : ℕ) (row : List ℕ) → has_no_tab (column n row) ≡ true
no_tab_in n row = one_of_them (fields row) (n - 1) (each row)

-- ---- so the first tab of a path ends its first code

false_true : false ≡ true → ⊥
false_true is = absurd (cc)

starts_so : (y : ℕ) (b : List ℕ) → 9 ≡ y → has_no_tab (y ∷ b) ≡ true → ⊥
starts_so y b is none = let test : (y == 9) ≡ true = eq-eqb y 9 (sym is) in false_true (rw test at none)

behind : (p q : Bool) → not (p || q) ≡ true → not q ≡ true
behind true q none = absurd (false_true none)
behind false q none = none

apart : (a b r s : List ℕ) → has_no_tab a ≡ true → has_no_tab b ≡ true → a ++ 9 ∷ r ≡ b ++ 9 ∷ s → (a ≡ b) × (r ≡ s)
apart [] [] r s one two same = (refl, ap (drop 1) same)
apart [] (y ∷ b) r s one two same = absurd (starts_so y b (ap (λ text. get_or text 0 0) same) two)
apart (x ∷ a) [] r s one two same = absurd (starts_so x a (sym (ap (λ text. get_or text 0 0) same)) one)
apart (x ∷ a) (y ∷ b) r s one two same =
    let more = apart a b r s (behind (x == 9) (list_any is_tab a) one) (behind (y == 9) (list_any is_tab b) two) (ap (drop 1) same) in
    (ap₂ ◌∷◌ (ap (λ text. get_or text 0 0) same) more.0, more.1)

-- the first code of a path, and the codes behind it
first_code : (n : ℕ) (row other r s : List ℕ) → (column n row ++ 9 ∷ []) ++ r ≡ (column n other ++ 9 ∷ []) ++ s → (column n row ≡ column n other) × (r ≡ s)
first_code n row other r s same =
    apart (column n row) (column n other) r s (no_tab_in n row) (no_tab_in n other)
    (sym (append_assoc (column n row) (9 ∷ []) r) ∙ same ∙ append_assoc (column n other) (9 ∷ []) s)

-- Rows with the same path have the same country.
pub same_country : (level : ℕ) (row other : List ℕ) → path_with 9 level row ≡ path_with 9 level other → column 9 row ≡ column 9 other
same_country level row other same = (first_code 9 row other _ _ same).0

-- They have the same codes, so whatever shares those of the one shares those of the other.
pub same_codes : (columns : List ℕ) (row other : List ℕ) → flat_map (λ n. column n row ++ 9 ∷ []) columns ≡ flat_map (λ n. column n other ++ 9 ∷ []) columns
    → (place : List ℕ) → list_all (λ n. bytes_eq (column n place) (column n row)) columns ≡ list_all (λ n. bytes_eq (column n place) (column n other)) columns
same_codes [] row other same place = refl
same_codes (n ∷ ns) row other same place =
    let both = first_code n row other (flat_map (λ n. column n row ++ 9 ∷ []) ns) (flat_map (λ n. column n other ++ 9 ∷ []) ns) same in
    ap₂ (λ code rest. bytes_eq (column n place) code && rest) both.0 (same_codes ns row other both.1 place)
