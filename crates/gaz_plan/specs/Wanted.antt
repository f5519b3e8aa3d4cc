-- What is asked of names, with the key of the value.
use Rattle.std.specs.Prelude.{ℕ, ◌-◌, min, Bool, true, false, ◌&&◌, List, ◌++◌, length, take, replicate, Option, nat_eq}
use Rattle.std.specs.Str.{bytes_eq}
use Rattle.std.specs.List.{list_any, starts_with}
use Rattle.gaz_num.specs.Pieces.{column}
use Rattle.gaz_name.specs.Name.{name_key_of, first_bytes}
use Rattle.gaz_pick.specs.Asked.{NameAsked, absent, equals, starts}
use Rattle.gaz_plain.specs.Names.{own_names, is_of, counts_in}
use Rattle.gaz_plan.specs.declared.wanted.Test.{Test}
use Rattle.gaz_plan.specs.declared.wanted.Test.TheVariants.{Nothing, Equals, Starts}

abbrev pub wanted_of : NameAsked → Test
wanted_of absent = Nothing
wanted_of (equals value) = Equals (name_key_of value)
wanted_of (starts value) = Starts (name_key_of value)

-- whether nothing is wanted of names
abbrev pub is_nothing : Test → Bool
is_nothing Nothing = true
is_nothing (Equals key) = false
is_nothing (Starts key) = false

-- whether a text has the key that is wanted, or begins with it
abbrev pub fits : Test → List ℕ → Bool
fits Nothing text = true
fits (Equals key) text = bytes_eq (name_key_of text) key
fits (Starts key) text = starts_with nat_eq (name_key_of text) key

-- whether one of a row's own names does
abbrev pub fits_own : Test → Option (List ℕ) → List ℕ → Bool
fits_own test lang line = list_any (fits test) (own_names lang line)

-- whether an alternate name counts and has a text that does
abbrev pub fits_other : Test → Option (List ℕ) → List ℕ → Bool
fits_other test lang alternate = counts_in lang alternate && fits test (column 4 alternate)

-- whether an alternate name is one of the place with this id, counts, and has a text that does
abbrev pub fits_as : Test → Option (List ℕ) → ℕ → List ℕ → Bool
fits_as test lang id alternate = is_of id alternate && fits_other test lang alternate

-- whether one of these alternate names does
abbrev pub fits_any : Test → Option (List ℕ) → ℕ → List (List ℕ) → Bool
fits_any test lang id alternates = list_any (fits_as test lang id) alternates

-- the first 22 bytes of the least key that fits, and of the greatest
abbrev pub least_front : Test → List ℕ
least_front Nothing = replicate 22 0
least_front (Equals key) = first_bytes 22 key
least_front (Starts key) = first_bytes 22 key

abbrev pub greatest_front : Test → List ℕ
greatest_front Nothing = replicate 22 255
greatest_front (Equals key) = first_bytes 22 key
greatest_front (Starts key) = take (min (length key) 22) (first_bytes 22 key) ++ replicate (22 - min (length key) 22) 255
