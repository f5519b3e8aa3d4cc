-- The names of a row, and what is asked of them.
use Rattle.std.specs.Prelude.{ℕ, Bool, true, ◌&&◌, ◌||◌, not, List, [], ◌∷◌, ◌++◌, map, filter, codes, Option, Some, None, nat_eq, unwrap_or, ◌==◌}
use Rattle.std.specs.Str.{bytes_eq}
use Rattle.std.specs.List.{list_any, starts_with}
use Rattle.gaz_num.specs.Numbers.{id_in}
use Rattle.gaz_num.specs.Pieces.{column}
use Rattle.gaz_name.specs.Name.{name_key_of}
use Rattle.gaz_pick.specs.Asked.{NameAsked, absent, equals, starts}
use Rattle.gaz_pick.specs.Match.{id_of}
use Rattle.gaz_plain.specs.Gazetteer.{Gazetteer}

-- the languages whose texts are no names: links, Wikidata ids and postal codes
abbrev pub is_no_language : List ℕ → Bool
is_no_language lang = bytes_eq lang (codes "link") || bytes_eq lang (codes "wkdt") || bytes_eq lang (codes "post")

-- whether an alternate is one of the place with this id
abbrev pub is_of : ℕ → List ℕ → Bool
is_of id alternate = unwrap_or (id_in (column 2 alternate)) 0 == id

-- whether its text counts as a name, where a language is asked for or none
abbrev pub counts_in : Option (List ℕ) → List ℕ → Bool
counts_in None alternate = not (is_no_language (column 3 alternate))
counts_in (Some lang) alternate = bytes_eq (column 3 alternate) lang

-- the texts of the alternates of a row that count
abbrev pub alternate_names : Gazetteer → Option (List ℕ) → List ℕ → List (List ℕ)
alternate_names gaz lang line = map (λ alternate. column 4 alternate) (filter (λ alternate. is_of (id_of line) alternate && counts_in lang alternate) gaz.alternates)

-- the name and the asciiname of a row, where no language is asked for
abbrev pub own_names : Option (List ℕ) → List ℕ → List (List ℕ)
own_names None line = column 2 line ∷ column 3 line ∷ []
own_names (Some lang) line = []

-- the names of a row: its own and those of its alternates, and of a language those alone that its alternates have of it
abbrev pub names_of : Gazetteer → Option (List ℕ) → List ℕ → List (List ℕ)
names_of gaz lang line = own_names lang line ++ alternate_names gaz lang line

-- whether some name has the key of the value that is asked for, or begins with it
abbrev pub has_name : NameAsked → List (List ℕ) → Bool
has_name absent names = true
has_name (equals value) names = list_any (λ name. bytes_eq (name_key_of name) (name_key_of value)) names
has_name (starts value) names = list_any (λ name. starts_with nat_eq (name_key_of name) (name_key_of value)) names
