-- All keys of a line have 32 bytes.
use Rattle.std.proofs.Common.{◌≡◌, ◌<◌, ℕ, suc, ◌-◌, Bool, true, false, List, [], ◌∷◌, ◌++◌, length, replicate, refl, ap, arith, Option, Some, None, length-append, flat_map}
use Rattle.std.proofs.lemmas.List.{length-replicate}
use Rattle.std.specs.Prelude.{Contains, if◌then◌else◌, bytes_eq, codes}
use Rattle.std.specs.Int.{w16, w64, to_be_bytes}
use Rattle.gaz_num.proofs.ColumnTextLemmas.{column_is_text}
use Rattle.gaz_num.specs.Pieces.{column}
use Rattle.gaz_num.specs.Check.{is_empty, class_in}
use Rattle.gaz_num.specs.declared.words.Table.{Table}
use Rattle.gaz_num.specs.declared.words.Table.TheVariants.{Rows, Alternates, Links, Countries, Codes}
use Rattle.gaz_name.specs.Name.{first_bytes, name_key_of}
use Rattle.gaz_parent.specs.Parent.{is_country_row, is_administrative, code_level, path_columns}
use Rattle.gaz_keys.specs.Keys.{IsKey, four, place_key, alternate_key, link_key, reverse_key, country_key, code_key, text_key, box_key, division_key, path_key}
use Rattle.gaz_keys.specs.Lines.{key_at, more_keys, id_at, name_at, band_at, east_at, path_to, division_keys, division_level, divided_key, IsKeyed}
use Rattle.gaz_keys.specs.Laws.{KeysFit}
use Rattle.gaz_keys.proofs.Fit.{AreBytes, none_fit, byte_fits, number_fits, append_fits, zeros_fit, first_fits, first_size, column_fits, line_fits, line_is_text}
use Rattle.gaz_keys.proofs.NameBytes.{name_fits}
use Rattle.gaz_keys.proofs.Tags.{in_more_keys, one_of, contained_none}

class_fits : (type : List ℕ) → class_in type < 256
class_fits type = by (bytes_eq type (codes "ADM")) (is_empty type)
  where
    by : (adm none : Bool) → (if adm then 0 else if none then 1 else 2) < 256
    by true none = omega arith
    by false true = omega arith
    by false false = omega arith

-- bytes behind a tag
tagged : (tag : ℕ) (rest : List ℕ) → tag < 256 → length rest ≡ 31 → AreBytes rest → IsKey (tag ∷ rest)
tagged tag rest small size fits = record { size = ap suc size; bytes = byte_fits tag rest small fits }

-- the keys with a place, by their parts
pub place_key_fits : (id : ℕ) → IsKey (place_key id)
unfolding place_key
place_key_fits id = tagged 1 (four id ++ replicate 27 0) (omega arith) refl (append_fits (four id) (replicate 27 0) (number_fits 4 id) (zeros_fit 27))

pub alternate_key_fits : (id : ℕ) → IsKey (alternate_key id)
unfolding alternate_key
alternate_key_fits id = tagged 2 (four id ++ replicate 27 0) (omega arith) refl (append_fits (four id) (replicate 27 0) (number_fits 4 id) (zeros_fit 27))

-- two ids with a class between them, and zeros
pair_fits : (first second : ℕ) (type : List ℕ) → AreBytes (four first ++ (class_in type ∷ four second ++ replicate 22 0))
pair_fits first second type =
    let class = class_in type in
    append_fits (four first) (class ∷ four second ++ replicate 22 0) (number_fits 4 first) (byte_fits class (four second ++ replicate 22 0) (class_fits type) (append_fits (four second) (replicate 22 0) (number_fits 4 second) (zeros_fit 22)))

pub link_key_fits : (child parent : ℕ) (type : List ℕ) → IsKey (link_key child (class_in type) parent)
unfolding link_key
link_key_fits child parent type = tagged 3 (four child ++ (class_in type ∷ four parent ++ replicate 22 0)) (omega arith) refl (pair_fits child parent type)

pub reverse_key_fits : (parent child : ℕ) (type : List ℕ) → IsKey (reverse_key parent (class_in type) child)
unfolding reverse_key
reverse_key_fits parent child type = tagged 4 (four parent ++ (class_in type ∷ four child ++ replicate 22 0)) (omega arith) refl (pair_fits parent child type)

pub country_key_fits : (code : List ℕ) → AreBytes code → IsKey (country_key (first_bytes 4 code))
unfolding country_key
country_key_fits code fits =
    let first = first_bytes 4 code in
    tagged 5 (first ++ replicate 27 0) (omega arith) (omega (arith, first_size 4 code, length-append first (replicate 27 0), length-replicate {A = ℕ} 27 0))
    (append_fits first (replicate 27 0) (first_fits 4 code fits) (zeros_fit 27))

pub code_key_fits : (code : List ℕ) (slot : ℕ) → AreBytes code → IsKey (code_key (first_bytes 23 code) slot)
unfolding code_key
code_key_fits code slot fits =
    let first = first_bytes 23 code in
    let padded = first ++ replicate 4 0 in
    tagged 6 (padded ++ four slot) (omega arith) (omega (arith, first_size 23 code, length-append padded (four slot), length-append first (replicate 4 0), length-replicate {A = ℕ} 4 0))
    (append_fits padded (four slot) (append_fits first (replicate 4 0) (first_fits 23 code fits) (zeros_fit 4)) (number_fits 4 slot))

-- the key by which a line stands at its place
pub key_fits : (table : Table) (slot : ℕ) (line : List ℕ) → IsKeyed table line → IsKey (key_at table slot line)
key_fits Rows slot line is = place_key_fits (id_at 1 line)
key_fits Alternates slot line is = alternate_key_fits (id_at 1 line)
key_fits Links slot line is = link_key_fits (id_at 2 line) (id_at 1 line) (column 3 line)
key_fits Countries slot line is = country_key_fits (column 1 line) (column_fits 1 line (line_fits Countries line is))
key_fits Codes slot line is = code_key_fits (column 1 line) slot (column_fits 1 line (line_fits Codes line is))

none_is_key : (key : List ℕ) → Contains [] key → IsKey key
none_is_key key has = absurd (contained_none key has)

-- a name key, by its text
text_key_fits : (text : List ℕ) (source place alternate : ℕ) → source < 256 → AreBytes text → IsKey (text_key (first_bytes 22 text) source place alternate)
unfolding text_key
text_key_fits text source place alternate small fits =
    let first = first_bytes 22 text in
    let rest = source ∷ four place ++ four alternate in
    tagged 7 (first ++ rest) (omega arith) (omega (arith, first_size 22 text, length-append first rest))
    (append_fits first rest (first_fits 22 text fits) (byte_fits source (four place ++ four alternate) small (append_fits (four place) (four alternate) (number_fits 4 place) (number_fits 4 alternate))))

name_key_fits : (table : Table) (n source place alternate : ℕ) (line : List ℕ) → IsKeyed table line → source < 256 → IsKey (text_key (name_at n line) source place alternate)
name_key_fits table n source place alternate line is small =
    text_key_fits (name_key_of (column n line)) source place alternate small (name_fits (column n line) (column_is_text (n - 1) line (line_is_text table line is)))

box_key_fits : (band east id : ℕ) → IsKey (box_key band east id)
unfolding box_key
box_key_fits band east id =
    let where_it_is = to_be_bytes w16 band ++ to_be_bytes w64 east in
    tagged 8 (where_it_is ++ four id ++ replicate 17 0) (omega arith) refl
    (append_fits (where_it_is ++ four id) (replicate 17 0) (append_fits where_it_is (four id) (append_fits (to_be_bytes w16 band) (to_be_bytes w64 east) (number_fits 2 band) (number_fits 8 east)) (number_fits 4 id)) (zeros_fit 17))

-- the texts of columns, each with a zero behind it
path_fits : (columns : List ℕ) (line : List ℕ) → AreBytes line → AreBytes (flat_map (λ n. column n line ++ 0 ∷ []) columns)
path_fits [] line fits = none_fit
path_fits (n ∷ columns) line fits =
    append_fits (column n line ++ 0 ∷ []) (flat_map (λ n. column n line ++ 0 ∷ []) columns) (append_fits (column n line) (0 ∷ []) (column_fits n line fits) (zeros_fit 1)) (path_fits columns line fits)

path_key_fits : (line : List ℕ) → AreBytes line → IsKey (divided_key line)
unfolding path_key
path_key_fits line fits =
    let first = first_bytes 27 (path_to 4 line) in
    let own = four (id_at 1 line) in
    tagged 10 (first ++ own) (omega arith) (omega (arith, first_size 27 (path_to 4 line), length-append first own))
    (append_fits first own (first_fits 27 (path_to 4 line) (path_fits (path_columns 4) line fits)) (number_fits 4 (id_at 1 line)))

division_key_fits : (level : ℕ) (line : List ℕ) → level < 256 → AreBytes line → IsKey (division_key level (first_bytes 26 (path_to level line)) (id_at 1 line))
unfolding division_key
division_key_fits level line small fits =
    let first = first_bytes 26 (path_to level line) in
    let own = four (id_at 1 line) in
    tagged 9 (level ∷ first ++ own) (omega arith) (omega (arith, first_size 26 (path_to level line), length-append first own))
    (byte_fits level (first ++ own) small (append_fits first own (first_fits 26 (path_to level line) (path_fits (path_columns level) line fits)) (number_fits 4 (id_at 1 line))))

-- a level, if there is one, is small
abbrev IsSmall : Option ℕ → Type 0
IsSmall None = Unit
IsSmall (Some level) = level < 256

level_small : (line : List ℕ) → IsSmall (division_level line)
level_small line = by (is_country_row line) (is_administrative line)
  where
    code : List ℕ
    code = column 8 line

    of_code : (a b c d : Bool) → IsSmall (if a then Some 1 else if b then Some 2 else if c then Some 3 else if d then Some 4 else None)
    of_code true b c d = omega arith
    of_code false true c d = omega arith
    of_code false false true d = omega arith
    of_code false false false true = omega arith
    of_code false false false false = tt

    by : (country administrative : Bool) → IsSmall (if country then Some 0 else if administrative then code_level code else None)
    by true administrative = omega arith
    by false false = tt
    by false true = of_code (bytes_eq code (codes "ADM1")) (bytes_eq code (codes "ADM2")) (bytes_eq code (codes "ADM3")) (bytes_eq code (codes "ADM4"))

divisions_fit : (line : List ℕ) (level : Option ℕ) (key : List ℕ) → AreBytes line → IsSmall level → Contains (division_keys line level) key → IsKey key
divisions_fit line None key fits small has = none_is_key key has
divisions_fit line (Some level) key fits small has = one_of IsKey _ [] key (division_key_fits level line small fits) none_is_key has

-- the other keys of a line
pub more_fit : (table : Table) (line key : List ℕ) → IsKeyed table line → Contains (more_keys table line) key → IsKey key
more_fit Rows line key is has =
    let fits = line_fits Rows line is in
    in_more_keys IsKey line key (name_key_fits Rows 2 0 (id_at 1 line) 0 line is (omega arith)) (name_key_fits Rows 3 1 (id_at 1 line) 0 line is (omega arith))
    (box_key_fits (band_at line) (east_at line) (id_at 1 line)) (path_key_fits line fits) (λ other. divisions_fit line (division_level line) other fits (level_small line)) has
more_fit Alternates line key is has = one_of IsKey _ [] key (name_key_fits Alternates 4 2 (id_at 2 line) (id_at 1 line) line is (omega arith)) none_is_key has
more_fit Links line key is has = one_of IsKey _ [] key (reverse_key_fits (id_at 1 line) (id_at 2 line) (column 3 line)) none_is_key has
more_fit Countries line key is has = none_is_key key has
more_fit Codes line key is has = none_is_key key has

pub keys_fit : KeysFit
keys_fit table slot line key is has = one_of IsKey (key_at table slot line) (more_keys table line) key (key_fits table slot line is) (λ other. more_fit table line other is) has
