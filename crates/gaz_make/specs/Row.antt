-- The parts of a row's line, as they are put together.
use Rattle.std.specs.Prelude.{ℕ, List, [], ◌∷◌, ◌++◌, decimal}
use Rattle.gaz_make.specs.declared.rows.Row.{Row}
use Rattle.gaz_make.specs.Made.{Drawn, feature_class, feature_code, country_code, admin_code, place_name}

-- the numbers that were drawn for it
abbrev pub drawn_in : Row → Drawn
drawn_in row = record { latitude = row.latitude; longitude = row.longitude; population = row.population }

-- the columns up to the empty one of alternate names
abbrev pub names_part : ℕ → List ℕ
names_part i = decimal i ++ (9 ∷ [] ++ (place_name i ++ (9 ∷ [] ++ (place_name i ++ 9 ∷ 9 ∷ []))))

-- the columns from the class up to the ones that are empty before the population
abbrev pub codes_part : ℕ → List ℕ
codes_part i = 9 ∷ [] ++ (feature_class i ++ (9 ∷ [] ++ (feature_code i ++ (9 ∷ [] ++ (country_code i ++ (9 ∷ 9 ∷ [] ++ (admin_code i ++ 9 ∷ 9 ∷ 9 ∷ 9 ∷ [])))))))
