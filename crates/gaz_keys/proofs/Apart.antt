-- Lines that share a key stand in one table and have one key there.
use Rattle.std.proofs.Common.{◌≡◌, ◌<◌, ◌≤◌, ℕ, zero, suc, ◌^◌, ◌+◌, ◌-◌, true, false, List, [], ◌∷◌, ◌++◌, length, take, drop, replicate, refl, subst, sym, ◌∙◌, ap, arith, Option, Some, None, length-append}
use Rattle.std.specs.Prelude.{Contains, IsSome, unwrap_or, option_map, slice_index, if◌then◌else◌, ◌==◌, ◌&&◌, nat_le}
use Rattle.std.specs.Int.{w32, to_be_bytes, from_be_bytes}
use Rattle.std.specs.List.{list_all}
use Rattle.std.proofs.lemmas.Bool.{leb-true}
use Rattle.std.proofs.lemmas.Nat.{from_be_bytes-to_be_bytes_4}
use Rattle.std.proofs.lemmas.List.{get_or-append-add, take-append-le, length-replicate}
use Rattle.std.proofs.Math.Seq.{drop-append-add}
use Rattle.gaz_num.proofs.CalendarLemmas.{and_left, and_right}
use Rattle.gaz_num.specs.Numbers.{id_in}
use Rattle.gaz_num.specs.Pieces.{column, fields}
use Rattle.gaz_num.specs.Check.{class_in, is_code_byte, has_between, line_limit, first_failing, tests, tests_of_text, reason_against, key_in, link_key as link_numbers}
use Rattle.std.specs.Str.{is_utf8}
use Rattle.gaz_num.specs.declared.words.Kind.TheVariants as kind
use Rattle.gaz_num.specs.declared.words.Reason.TheVariants as reason
use Rattle.gaz_num.specs.declared.words.Table.{Table}
use Rattle.gaz_num.specs.declared.words.Table.TheVariants.{Rows, Alternates, Links, Countries, Codes}
use Rattle.gaz_num.proofs.PassedLemmas.{passed}
use Rattle.gaz_name.specs.Name.{name_key_of, first_bytes}
use Rattle.gaz_keys.specs.Keys.{four, place_key, alternate_key, link_key, reverse_key, country_key, code_key, text_key, box_key, division_key, path_key}
use Rattle.gaz_keys.specs.Parts.{tag_of, four_at, id_of, alternate_of, first_of, slot_of, source_of}
use Rattle.gaz_keys.specs.Lines.{key_at, more_keys, keys_of, id_at, name_at, path_to, division_keys, division_level, lying_key, divided_key, IsKeyed}
use Rattle.gaz_keys.specs.Laws.{AreAlike, KeysTellTheirLine}
use Rattle.gaz_keys.proofs.Tags.{table_for, in_more_keys, contained_none, one_of}
use Rattle.gaz_keys.proofs.Made.{take_front}
use Rattle.gaz_keys.proofs.Fit.{first_size, id_small, no_comment}

-- what stands behind a text of so many bytes
drop_past : (size n : ℕ) (first rest : List ℕ) → length first ≡ size → drop (size + n) (first ++ rest) ≡ drop n rest
drop_past size n first rest is = ap (λ k. drop (k + n) (first ++ rest)) (sym is) ∙ drop-append-add first rest n

byte_past : (size n : ℕ) (first rest : List ℕ) → length first ≡ size → slice_index (first ++ rest) (size + n) ≡ slice_index rest n
byte_past size n first rest is = ap (λ k. slice_index (first ++ rest) (k + n)) (sym is) ∙ get_or-append-add first rest n 0

-- The table of a key, by its tag and, of a name, by whose name it is.
abbrev table_by : ℕ → ℕ → Table
table_by tag source = if tag == 7 && source == 2 then Alternates else table_for tag

abbrev table_in : List ℕ → Table
table_in key = table_by (tag_of key) (source_of key)

-- what a key of a table says of the line's key in it
abbrev numbers_in : Table → List ℕ → List ℕ
numbers_in Rows key = id_of key ∷ []
numbers_in Alternates key = alternate_of key ∷ []
numbers_in Links key =
    if tag_of key == 3
    then four_at 1 key ∷ slice_index key 5 ∷ four_at 6 key ∷ []
    else four_at 6 key ∷ slice_index key 5 ∷ four_at 1 key ∷ []
numbers_in Countries key = first_of key
numbers_in Codes key = slot_of key ∷ first_of key

-- and what the line says of it
abbrev numbers_of : Table → ℕ → List ℕ → List ℕ
numbers_of Rows slot line = id_at 1 line ∷ []
numbers_of Alternates slot line = id_at 1 line ∷ []
numbers_of Links slot line = id_at 2 line ∷ class_in (column 3 line) ∷ id_at 1 line ∷ []
numbers_of Countries slot line = first_bytes 4 (column 1 line)
numbers_of Codes slot line = slot ∷ first_bytes 23 (column 1 line)

-- The key tells table and numbers.
record Tells (table : Table) (slot : ℕ) (line key : List ℕ) : Type 0 where
  table_is : table_in key ≡ table
  numbers_are : numbers_in table key ≡ numbers_of table slot line

told : (n : ℕ) → n < 2 ^ 32 → from_be_bytes w32 (to_be_bytes w32 n) ≡ n
told = from_be_bytes-to_be_bytes_4

-- the number in the four bytes behind a text of so many
four_past : (size n : ℕ) (first rest : List ℕ) → length first ≡ size → from_be_bytes w32 (take 4 (drop (size + n) (first ++ rest))) ≡ from_be_bytes w32 (take 4 (drop n rest))
four_past size n first rest is = ap (λ bytes. from_be_bytes w32 (take 4 bytes)) (drop_past size n first rest is)

-- a text key, whose text has its size
text_source : (first : List ℕ) (source place alternate : ℕ) → length first ≡ 22 → source_of (text_key first source place alternate) ≡ source
unfolding text_key
text_source first source place alternate is = byte_past 22 0 first (source ∷ four place ++ four alternate) is

text_place : (first : List ℕ) (source place alternate : ℕ) → length first ≡ 22 → place < 2 ^ 32 → id_of (text_key first source place alternate) ≡ place
unfolding text_key
text_place first source place alternate is below = four_past 22 1 first (source ∷ four place ++ four alternate) is ∙ told place below

text_alternate : (first : List ℕ) (source place alternate : ℕ) → length first ≡ 22 → alternate < 2 ^ 32 → alternate_of (text_key first source place alternate) ≡ alternate
unfolding text_key
text_alternate first source place alternate is below = four_past 22 5 first (source ∷ four place ++ four alternate) is ∙ told alternate below

text_tag : (first : List ℕ) (source place alternate : ℕ) → tag_of (text_key first source place alternate) ≡ 7
unfolding text_key
text_tag first source place alternate = refl

name_size : (n : ℕ) (line : List ℕ) → length (name_at n line) ≡ 22
name_size n line = first_size 22 (name_key_of (column n line))

row_text : (n source slot : ℕ) (line : List ℕ) → table_by 7 source ≡ Rows → Tells Rows slot line (text_key (name_at n line) source (id_at 1 line) 0)
row_text n source slot line is = record {
  table_is = ap (λ tag. table_by tag (source_of key)) (text_tag first source id 0) ∙ ap (table_by 7) (text_source first source id 0 (name_size n line)) ∙ is;
  numbers_are = ap (λ m. m ∷ []) (text_place first source id 0 (name_size n line) (id_small 1 line));
}
  where
    first : List ℕ
    first = name_at n line

    id : ℕ
    id = id_at 1 line

    key : List ℕ
    key = text_key first source id 0

alternate_text : (slot : ℕ) (line : List ℕ) → Tells Alternates slot line (text_key (name_at 4 line) 2 (id_at 2 line) (id_at 1 line))
alternate_text slot line = record {
  table_is = ap (λ tag. table_by tag (source_of key)) (text_tag first 2 place id) ∙ ap (table_by 7) (text_source first 2 place id (name_size 4 line));
  numbers_are = ap (λ m. m ∷ []) (text_alternate first 2 place id (name_size 4 line) (id_small 1 line));
}
  where
    first : List ℕ
    first = name_at 4 line

    place : ℕ
    place = id_at 2 line

    id : ℕ
    id = id_at 1 line

    key : List ℕ
    key = text_key first 2 place id

lying_tells : (slot : ℕ) (line : List ℕ) → Tells Rows slot line (lying_key line)
unfolding box_key
lying_tells slot line = record { table_is = refl; numbers_are = ap (λ m. m ∷ []) (told (id_at 1 line) (id_small 1 line)) }

divided_tells : (slot : ℕ) (line : List ℕ) → Tells Rows slot line (divided_key line)
unfolding path_key
divided_tells slot line = record {
  table_is = refl;
  numbers_are = ap (λ m. m ∷ []) (four_past 27 0 first (four (id_at 1 line)) (first_size 27 (path_to 4 line)) ∙ told (id_at 1 line) (id_small 1 line));
}
  where
    first : List ℕ
    first = first_bytes 27 (path_to 4 line)

division_tells : (slot level : ℕ) (line : List ℕ) → Tells Rows slot line (division_key level (first_bytes 26 (path_to level line)) (id_at 1 line))
unfolding division_key
division_tells slot level line = record {
  table_is = refl;
  numbers_are = ap (λ m. m ∷ []) (four_past 26 0 first (four (id_at 1 line)) (first_size 26 (path_to level line)) ∙ told (id_at 1 line) (id_small 1 line));
}
  where
    first : List ℕ
    first = first_bytes 26 (path_to level line)

three_told : (a b c d e f : ℕ) → a ≡ d → b ≡ e → c ≡ f → (a ∷ b ∷ c ∷ []) ≡ (d ∷ e ∷ f ∷ [])
three_told a b c d e f x y z = ap (λ m. m ∷ b ∷ c ∷ []) x ∙ ap (λ m. d ∷ m ∷ c ∷ []) y ∙ ap (λ m. d ∷ e ∷ m ∷ []) z

link_tells : (slot : ℕ) (line : List ℕ) → Tells Links slot line (key_at Links slot line)
unfolding link_key
link_tells slot line = record {
  table_is = refl;
  numbers_are = three_told _ _ _ _ _ _ (told (id_at 2 line) (id_small 2 line)) refl (told (id_at 1 line) (id_small 1 line));
}

reverse_tells : (slot : ℕ) (line : List ℕ) → Tells Links slot line (reverse_key (id_at 1 line) (class_in (column 3 line)) (id_at 2 line))
unfolding reverse_key
reverse_tells slot line = record {
  table_is = refl;
  numbers_are = three_told _ _ _ _ _ _ (told (id_at 2 line) (id_small 2 line)) refl (told (id_at 1 line) (id_small 1 line));
}

-- the key with a place of a line tells its table and numbers
at_tells : (table : Table) (slot : ℕ) (line : List ℕ) → slot < 2 ^ 32 → Tells table slot line (key_at table slot line)
unfolding place_key alternate_key country_key code_key
at_tells Rows slot line small = record { table_is = refl; numbers_are = ap (λ m. m ∷ []) (told (id_at 1 line) (id_small 1 line)) }
at_tells Alternates slot line small = record { table_is = refl; numbers_are = ap (λ m. m ∷ []) (told (id_at 1 line) (id_small 1 line)) }
at_tells Links slot line small = link_tells slot line
at_tells Countries slot line small = record { table_is = refl; numbers_are = take_front (first_bytes 4 (column 1 line)) (replicate 27 0) 4 (sym (first_size 4 (column 1 line))) }
at_tells Codes slot line small = record {
  table_is = refl;
  numbers_are = ap (λ m. m ∷ first_of (key_at Codes slot line)) slot_is ∙ ap (λ text. slot ∷ text) text_is;
}
  where
    first : List ℕ
    first = first_bytes 23 (column 1 line)

    size : length first ≡ 23
    size = first_size 23 (column 1 line)

    padded : length (first ++ replicate 4 0) ≡ 27
    padded = omega (arith, size, length-append first (replicate 4 0), length-replicate {A = ℕ} 4 0)

    slot_is : from_be_bytes w32 (take 4 (drop 27 ((first ++ replicate 4 0) ++ four slot))) ≡ slot
    slot_is = four_past 27 0 (first ++ replicate 4 0) (four slot) padded ∙ told slot small

    text_is : take 23 ((first ++ replicate 4 0) ++ four slot) ≡ first
    text_is = take-append-le 23 (first ++ replicate 4 0) (four slot) (omega (arith, padded)) ∙ take_front first (replicate 4 0) 23 (sym size)

none_tells : (table : Table) (slot : ℕ) (line key : List ℕ) → Contains [] key → Tells table slot line key
none_tells table slot line key has = absurd (contained_none key has)

divisions_tell : (slot : ℕ) (line : List ℕ) (level : Option ℕ) (key : List ℕ) → Contains (division_keys line level) key → Tells Rows slot line key
divisions_tell slot line None key has = none_tells Rows slot line key has
divisions_tell slot line (Some level) key has = one_of (Tells Rows slot line) _ [] key (division_tells slot level line) (none_tells Rows slot line) has

-- So do its other keys.
more_tell : (table : Table) (slot : ℕ) (line key : List ℕ) → Contains (more_keys table line) key → Tells table slot line key
more_tell Rows slot line key has =
    in_more_keys (Tells Rows slot line) line key (row_text 2 0 slot line refl) (row_text 3 1 slot line refl) (lying_tells slot line) (divided_tells slot line)
    (λ other. divisions_tell slot line (division_level line) other) has
more_tell Alternates slot line key has = one_of (Tells Alternates slot line) _ [] key (alternate_text slot line) (none_tells Alternates slot line) has
more_tell Links slot line key has = one_of (Tells Links slot line) _ [] key (reverse_tells slot line) (none_tells Links slot line) has
more_tell Countries slot line key has = none_tells Countries slot line key has
more_tell Codes slot line key has = none_tells Codes slot line key has

key_tells : (table : Table) (slot : ℕ) (line key : List ℕ) → slot < 2 ^ 32 → Contains (keys_of table slot line) key → Tells table slot line key
key_tells table slot line key small has = one_of (Tells table slot line) (key_at table slot line) (more_keys table line) key (at_tells table slot line small) (more_tell table slot line) has

-- Equal numbers are equal keys in the table.
same_id : (one other : Option ℕ) → IsSome (option_map (λ id. id ∷ []) one) → IsSome (option_map (λ id. id ∷ []) other) → unwrap_or one 0 ≡ unwrap_or other 0 → one ≡ other
same_id None other keyed also is = absurd (cc)
same_id (Some m) None keyed also is = absurd (cc)
same_id (Some m) (Some n) keyed also is = ap Some is

same_ids : (one other : Option ℕ) → IsSome (option_map (λ id. id ∷ []) one) → IsSome (option_map (λ id. id ∷ []) other) → unwrap_or one 0 ∷ [] ≡ unwrap_or other 0 ∷ [] → option_map (λ id. id ∷ []) one ≡ option_map (λ id. id ∷ []) other
same_ids one other keyed also is = ap (option_map (λ id. id ∷ [])) (same_id one other keyed also (ap (λ key. slice_index key 0) is))

same_links : (child parent child2 parent2 : Option ℕ) (class class2 : ℕ) → IsSome (link_numbers child class parent) → IsSome (link_numbers child2 class2 parent2) →
    unwrap_or child 0 ∷ class ∷ unwrap_or parent 0 ∷ [] ≡ unwrap_or child2 0 ∷ class2 ∷ unwrap_or parent2 0 ∷ [] → link_numbers child class parent ≡ link_numbers child2 class2 parent2
same_links None parent child2 parent2 class class2 keyed also is = absurd (cc)
same_links (Some c) None child2 parent2 class class2 keyed also is = absurd (cc)
same_links (Some c) (Some p) None parent2 class class2 keyed also is = absurd (cc)
same_links (Some c) (Some p) (Some d) None class class2 keyed also is = absurd (cc)
same_links (Some c) (Some p) (Some d) (Some q) class class2 keyed also is = ap Some is

-- the first bytes of a text, one by one
first_then : (size x : ℕ) (xs : List ℕ) → first_bytes (suc size) (x ∷ xs) ≡ x ∷ first_bytes size xs
first_then size x xs = ap (λ n. x ∷ take size xs ++ replicate n 0) (omega arith)

-- of an empty text it is zero, and so no byte of a code
first_of_none : (size y : ℕ) (ys : List ℕ) → is_code_byte y ≡ true → first_bytes (suc size) [] ≡ first_bytes (suc size) (y ∷ ys) → ⊥
first_of_none size y ys code is = false_true (ap is_code_byte (sym (zero_at (suc size - 0)) ∙ ap (λ text. slice_index text 0) is) ∙ code)
  where
    zero_at : (n : ℕ) → slice_index (replicate n 0) 0 ≡ 0
    zero_at zero = refl
    zero_at (suc n) = refl

    false_true : false ≡ true → ⊥
    false_true is = cc

-- Codes of at most so many bytes are told by these bytes with zeros behind them.
told_text : (size : ℕ) (one other : List ℕ) → length one ≤ size → length other ≤ size → list_all is_code_byte one ≡ true → list_all is_code_byte other ≡ true → first_bytes size one ≡ first_bytes size other → one ≡ other
told_text size [] [] short also codes_in codes_too is = refl
told_text zero [] (y ∷ ys) short also codes_in codes_too is = absurd (omega (arith, also))
told_text zero (x ∷ xs) other short also codes_in codes_too is = absurd (omega (arith, short))
told_text (suc size) [] (y ∷ ys) short also codes_in codes_too is = absurd (first_of_none size y ys (and_left (is_code_byte y) (list_all is_code_byte ys) codes_too) is)
told_text (suc size) (x ∷ xs) [] short also codes_in codes_too is = absurd (first_of_none size x xs (and_left (is_code_byte x) (list_all is_code_byte xs) codes_in) (sym is))
told_text (suc size) (x ∷ xs) (y ∷ ys) short also codes_in codes_too is =
    let both : x ∷ first_bytes size xs ≡ y ∷ first_bytes size ys = sym (first_then size x xs) ∙ is ∙ first_then size y ys in
    let rest = told_text size xs ys (omega (arith, short)) (omega (arith, also)) (and_right (is_code_byte x) (list_all is_code_byte xs) codes_in) (and_right (is_code_byte y) (list_all is_code_byte ys) codes_too) (ap (drop 1) both) in
    ap (λ m. m ∷ xs) (ap (λ text. slice_index text 0) both) ∙ ap (λ text. y ∷ text) rest

-- the code of a country, of its line
record HasCode (line : List ℕ) : Type 0 where
  key_is : key_in kind.Country line ≡ Some (column 1 line)
  short : length (column 1 line) ≤ 4
  are_codes : list_all is_code_byte (column 1 line) ≡ true

has_code : (line : List ℕ) → IsKeyed Countries line → HasCode line
unfolding reason_against
has_code line is =
    let text = column 1 line in
    let behind = passed reason.Length (nat_le (length line) line_limit) (tests_of_text kind.Country line) is.accepted in
    let plain = no_comment kind.Country line is.keyed in
    let all : first_failing ((reason.Utf8, is_utf8 line) ∷ tests kind.Country line) ≡ None = rw plain at behind.1 in
    let utf8 = passed reason.Utf8 (is_utf8 line) (tests kind.Country line) all in
    let columns = passed reason.Columns (nat_le 17 (length (fields line))) ((reason.Code, has_between 2 4 text && list_all is_code_byte text) ∷ []) utf8.1 in
    let code = (passed reason.Code (has_between 2 4 text && list_all is_code_byte text) [] columns.1).0 in
    let within = and_left (has_between 2 4 text) (list_all is_code_byte text) code in
    record {
      key_is = rw plain refl;
      short = leb-true (length text) 4 (and_right (nat_le 2 (length text)) (nat_le (length text) 4) within);
      are_codes = and_right (has_between 2 4 text) (list_all is_code_byte text) code;
    }

same_numbers : (table : Table) (slot slot2 : ℕ) (line line2 : List ℕ) → IsKeyed table line → IsKeyed table line2 → numbers_of table slot line ≡ numbers_of table slot2 line2 → AreAlike table slot line slot2 line2
same_numbers Rows slot slot2 line line2 is also same = same_ids (id_in (column 1 line)) (id_in (column 1 line2)) is.keyed also.keyed same
same_numbers Alternates slot slot2 line line2 is also same = same_ids (id_in (column 1 line)) (id_in (column 1 line2)) is.keyed also.keyed same
same_numbers Links slot slot2 line line2 is also same =
    same_links (id_in (column 2 line)) (id_in (column 1 line)) (id_in (column 2 line2)) (id_in (column 1 line2)) (class_in (column 3 line)) (class_in (column 3 line2)) is.keyed also.keyed same
same_numbers Countries slot slot2 line line2 is also same =
    let one = has_code line is in
    let other = has_code line2 also in
    one.key_is ∙ ap Some (told_text 4 (column 1 line) (column 1 line2) one.short other.short one.are_codes other.are_codes same) ∙ sym other.key_is
same_numbers Codes slot slot2 line line2 is also same = (ap (λ key. slice_index key 0) same, ap (drop 1) same)

pub keys_tell_their_line : KeysTellTheirLine
keys_tell_their_line table table2 slot slot2 line line2 key small small2 is also has has2 =
    let one = key_tells table slot line key small has in
    let other = key_tells table2 slot2 line2 key small2 has2 in
    let same : table ≡ table2 = sym one.table_is ∙ other.table_is in
    (same, by table2 same also other.numbers_are one.numbers_are)
  where
    by : (t : Table) → table ≡ t → IsKeyed t line2 → numbers_in t key ≡ numbers_of t slot2 line2 → numbers_in table key ≡ numbers_of table slot line → AreAlike table slot line slot2 line2
    by t same keyed there here =
        let numbers : numbers_in table key ≡ numbers_of table slot2 line2 = subst (λ u. numbers_in u key ≡ numbers_of u slot2 line2) (sym same) there in
        same_numbers table slot slot2 line line2 is (subst (λ u. IsKeyed u line2) (sym same) keyed) (sym here ∙ numbers)
