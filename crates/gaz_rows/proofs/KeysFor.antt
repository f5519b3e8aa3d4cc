-- Which key of the index the lines with a key of their table have.
use Rattle.std.proofs.Common.{◌≡◌, ◌<◌, ℕ, ◌^◌, List, [], ◌∷◌, refl, sym, ◌∙◌, ap, Option, Some, None}
use Rattle.std.specs.Prelude.{option_map, unwrap_or, if◌then◌else◌, IsSome}
use Rattle.gaz_num.specs.Numbers.{id_in}
use Rattle.gaz_num.specs.Pieces.{column}
use Rattle.gaz_num.specs.declared.words.Kind.TheVariants as kind
use Rattle.gaz_num.specs.declared.words.Table.TheVariants.{Rows, Alternates, Countries}
use Rattle.gaz_plain.specs.Gazetteer.{IsLine, key_of}
use Rattle.gaz_name.specs.Name.{first_bytes}
use Rattle.gaz_keys.specs.Keys.{place_key, alternate_key, country_key}
use Rattle.gaz_keys.specs.Lines.{id_at}
use Rattle.gaz_keys.proofs.Made.{places_differ, alternates_differ}
use Rattle.gaz_rows.specs.Index.{Slots}
use Rattle.gaz_keys.proofs.Fit.{id_small}
use Rattle.gaz_rows.proofs.Fit.{AreBytes, no_comment, place_key_fits, alternate_key_fits, country_key_fits}
use Rattle.gaz_rows.proofs.Got.{IsKeyFor, IsKeyAlone}

-- the id of a line that has it as its key
id_of_keyed : (id : ℕ) (found : Option ℕ) → unwrap_or (option_map (λ n. n ∷ []) found) [] ≡ id ∷ [] → unwrap_or found 0 ≡ id
id_of_keyed id None is = cc
id_of_keyed id (Some n) is = ap (λ key. unwrap_or (first key) 0) is
  where
    first : List ℕ → Option ℕ
    first [] = None
    first (n ∷ rest) = Some n

-- a line with an id has it as its key
keyed_by_id : (id : ℕ) (found : Option ℕ) → IsSome (option_map (λ n. n ∷ []) found) → unwrap_or found 0 ≡ id → unwrap_or (option_map (λ n. n ∷ []) found) [] ≡ id ∷ []
keyed_by_id id None some is = absurd (cc)
keyed_by_id id (Some n) some is = ap (λ m. m ∷ []) is

-- rows by their ids
pub row_key_for : (slots : Slots) (id : ℕ) → IsKeyFor slots Rows (id ∷ []) (place_key id)
unfolding place_key
row_key_for slots id = record {
  fits = place_key_fits id;
  tag = refl;
  tells = λ line is keyed. ap place_key (id_of_keyed id (id_in (column 1 line)) keyed);
}

pub row_key_alone : (slots : Slots) (id : ℕ) → id < 2 ^ 32 → IsKeyAlone slots Rows (id ∷ []) (place_key id)
row_key_alone slots id small line is same =
    keyed_by_id id (id_in (column 1 line)) is.keyed (places_differ (id_at 1 line) id (id_small 1 line) small same)

-- alternate names by theirs
pub alternate_key_for : (slots : Slots) (id : ℕ) → IsKeyFor slots Alternates (id ∷ []) (alternate_key id)
unfolding alternate_key
alternate_key_for slots id = record {
  fits = alternate_key_fits id;
  tag = refl;
  tells = λ line is keyed. ap alternate_key (id_of_keyed id (id_in (column 1 line)) keyed);
}

pub alternate_key_alone : (slots : Slots) (id : ℕ) → id < 2 ^ 32 → IsKeyAlone slots Alternates (id ∷ []) (alternate_key id)
alternate_key_alone slots id small line is same =
    keyed_by_id id (id_in (column 1 line)) is.keyed (alternates_differ (id_at 1 line) id (id_small 1 line) small same)

-- the key of the line of a country is its code
pub country_code : (line : List ℕ) → IsLine kind.Country line → key_of Countries line ≡ column 1 line
country_code line is = ap (λ b. unwrap_or (if b then None else Some (column 1 line)) []) (no_comment kind.Country line is.keyed)

-- countries by their codes
pub country_key_for : (slots : Slots) (code : List ℕ) → AreBytes code → IsKeyFor slots Countries code (country_key (first_bytes 4 code))
unfolding country_key
country_key_for slots code bytes = record {
  fits = country_key_fits code bytes;
  tag = refl;
  tells = λ line is keyed. ap (λ c. country_key (first_bytes 4 c)) (sym (country_code line is) ∙ keyed);
}
