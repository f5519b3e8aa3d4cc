-- The parts that stand in a key.
use Rattle.std.specs.Prelude.{ℕ, Bool, ◌==◌, ◌||◌, nat_le, List, take, drop, slice_index, Option, if◌then◌else◌}
use Rattle.std.specs.Int.{w16, w32, w64, from_be_bytes}
use Rattle.gaz_num.specs.Numbers.{some_if}
use Rattle.gaz_tables.specs.declared.link.LinkClass.{LinkClass}
use Rattle.gaz_tables.specs.declared.link.LinkClass.TheVariants.{Adm, Plain, Other}
use Rattle.gaz_tables.specs.declared.link.LinkKey.{LinkKey}

-- the tag
abbrev pub tag_of : List ℕ → ℕ
tag_of key = slice_index key 0

-- the number in the four bytes from a place on, the highest byte first
abbrev pub four_at : ℕ → List ℕ → ℕ
four_at at key = from_be_bytes w32 (take 4 (drop at key))

-- where the id stands, by the tag
abbrev pub id_place : ℕ → ℕ
id_place tag = if tag == 1 then 1 else if tag == 7 then 24 else if tag == 8 then 11 else 28

-- whether a key with this tag has an id
abbrev pub has_id : ℕ → Bool
has_id tag = tag == 1 || tag == 7 || tag == 8 || tag == 9 || tag == 10

-- the id of a place
abbrev pub id_of : List ℕ → ℕ
id_of key = four_at (id_place (tag_of key)) key

-- the id of an alternate name, 0 where a name key has none
abbrev pub alternate_of : List ℕ → ℕ
alternate_of key = four_at (if tag_of key == 2 then 1 else 28) key

-- the class that a byte of at most 2 names
abbrev pub class_by : ℕ → LinkClass
class_by code = if code == 0 then Adm else if code == 1 then Plain else Other

-- child and parent, whichever comes first
abbrev pub link_parts : List ℕ → LinkKey
link_parts key =
    if tag_of key == 3
    then record { child = four_at 1 key; class = class_by (slice_index key 5); parent = four_at 6 key }
    else record { child = four_at 6 key; class = class_by (slice_index key 5); parent = four_at 1 key }

-- the link, none where the byte of its class is above 2
abbrev pub link_of : List ℕ → Option LinkKey
link_of key = some_if (nat_le (slice_index key 5) 2) (link_parts key)

-- how many bytes of text a key has, by the tag, and where they begin
abbrev pub first_size : ℕ → ℕ
first_size tag = if tag == 5 then 4 else if tag == 6 then 23 else if tag == 7 then 22 else if tag == 9 then 26 else 27

abbrev pub first_place : ℕ → ℕ
first_place tag = if tag == 9 then 2 else 1

-- whether a key with this tag has a text
abbrev pub has_first : ℕ → Bool
has_first tag = tag == 5 || tag == 6 || tag == 7 || tag == 9 || tag == 10

-- the padded text
abbrev pub first_of : List ℕ → List ℕ
first_of key = take (first_size (tag_of key)) (drop (first_place (tag_of key)) key)

-- the slot of a code
abbrev pub slot_of : List ℕ → ℕ
slot_of key = four_at 28 key

-- whose text it is
abbrev pub source_of : List ℕ → ℕ
source_of key = slice_index key 23

-- the band of a latitude
abbrev pub band_of : List ℕ → ℕ
band_of key = from_be_bytes w16 (take 2 (drop 1 key))

-- the longitude from -180 degrees on
abbrev pub east_of : List ℕ → ℕ
east_of key = from_be_bytes w64 (take 8 (drop 3 key))

-- the level of a division
abbrev pub level_of : List ℕ → ℕ
level_of key = slice_index key 1

-- whether the value of a key with this tag is the place of a line
abbrev pub has_place : ℕ → Bool
has_place tag = tag == 1 || tag == 2 || tag == 3 || tag == 5 || tag == 6
