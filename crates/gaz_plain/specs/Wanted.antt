-- What is asked of names, with the key of the value.
use Rattle.std.specs.Prelude.{ℕ, Bool, true, false, ◌&&◌, List, Option, Some, None, nat_eq}
use Rattle.std.specs.Str.{bytes_eq}
use Rattle.std.specs.List.{list_any, starts_with}
use Rattle.gaz_num.specs.Pieces.{column}
use Rattle.gaz_name.specs.Name.{name_key_of}
use Rattle.gaz_pick.specs.Asked.{NameAsked, absent, equals, starts}
use Rattle.gaz_plain.specs.Names.{own_names, is_of, counts_in}
use Rattle.gaz_plain.specs.declared.wanted.Wanted.{Wanted}
use Rattle.gaz_plain.specs.declared.wanted.Wanted.TheVariants.{Nothing, Equals, Starts}

abbrev pub wanted_of : NameAsked → Wanted
wanted_of absent = Nothing
wanted_of (equals value) = Equals (name_key_of value)
wanted_of (starts value) = Starts (name_key_of value)

-- whether a text has the key that is wanted, or begins with it
abbrev pub fits : Wanted → List ℕ → Bool
fits Nothing text = true
fits (Equals key) text = bytes_eq (name_key_of text) key
fits (Starts key) text = starts_with nat_eq (name_key_of text) key

-- whether one of a row's own names does
abbrev pub fits_own : Wanted → Option (List ℕ) → List ℕ → Bool
fits_own wanted lang line = list_any (fits wanted) (own_names lang line)

-- whether an alternate is one of the place with this id, counts, and has a text that does
abbrev pub fits_as : Wanted → Option (List ℕ) → ℕ → List ℕ → Bool
fits_as wanted lang id alternate = (is_of id alternate && counts_in lang alternate) && fits wanted (column 4 alternate)

-- whether there is an alternate and it fits
abbrev pub fits_line : Wanted → Option (List ℕ) → ℕ → Option (List ℕ) → Bool
fits_line wanted lang id None = false
fits_line wanted lang id (Some alternate) = fits_as wanted lang id alternate

-- whether the text of one of these alternates does that counts as a name of the place with this id
abbrev pub fits_any : Wanted → Option (List ℕ) → ℕ → List (List ℕ) → Bool
fits_any wanted lang id alternates = list_any (fits_as wanted lang id) alternates

-- whether nothing is wanted of names
abbrev pub is_nothing : Wanted → Bool
is_nothing Nothing = true
is_nothing (Equals key) = false
is_nothing (Starts key) = false
