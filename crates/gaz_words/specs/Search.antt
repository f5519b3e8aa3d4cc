-- What the parameters of a search ask, or the first bad word of them.
use Rattle.std.specs.Prelude.{ℕ, Bool, true, ◌||◌, not, List, [], ◌∷◌, codes, replicate, slice_get, slice_set, ℤ, int_le, Option, Some, None, Result, Ok, Err, is_some, unwrap_or, ok_or, option_and_then, if◌then◌else◌, ◌==◌}
use Rattle.std.specs.Str.{bytes_eq}
use Rattle.std.specs.List.{find, list_any, before_first, after_first}
use Rattle.gaz_num.specs.Numbers.{count_in, degrees_in}
use Rattle.gaz_num.specs.Pieces.{fields}
use Rattle.gaz_num.specs.Check.{is_empty}
use Rattle.gaz_num.specs.Refusal.{◌>>=◌}
use Rattle.gaz_box.specs.Edges.{Edges}
use Rattle.gaz_pick.specs.Asked.{NameAsked, absent, equals, starts, Asked}
use Rattle.gaz_words.specs.declared.parameter.Parameter.{Parameter}
use Rattle.gaz_words.specs.declared.parameter.Parameter.TheVariants.{NameEquals, NameStarts, Country, FeatureClass, FeatureCode, AdminCode1, AdminCode2, AdminCode3, SearchLang, North, South, East, West, OrderBy, MaxRows, StartRow}
use Rattle.gaz_words.specs.declared.request.BadRequest.{BadRequest}
use Rattle.gaz_words.specs.declared.request.BadRequest.TheVariants as bad

-- the name of a parameter
abbrev pub parameter_name : Parameter → List ℕ
parameter_name NameEquals = codes "name_equals"
parameter_name NameStarts = codes "name_startsWith"
parameter_name Country = codes "country"
parameter_name FeatureClass = codes "featureClass"
parameter_name FeatureCode = codes "featureCode"
parameter_name AdminCode1 = codes "adminCode1"
parameter_name AdminCode2 = codes "adminCode2"
parameter_name AdminCode3 = codes "adminCode3"
parameter_name SearchLang = codes "searchlang"
parameter_name North = codes "north"
parameter_name South = codes "south"
parameter_name East = codes "east"
parameter_name West = codes "west"
parameter_name OrderBy = codes "orderby"
parameter_name MaxRows = codes "maxRows"
parameter_name StartRow = codes "startRow"

-- all parameters
abbrev pub all_parameters : List Parameter
all_parameters =
    NameEquals ∷ NameStarts ∷ Country ∷ FeatureClass ∷ FeatureCode ∷ AdminCode1 ∷ AdminCode2 ∷ AdminCode3
    ∷ SearchLang ∷ North ∷ South ∷ East ∷ West ∷ OrderBy ∷ MaxRows ∷ StartRow ∷ []

-- the place of a parameter among them
abbrev pub place_of : Parameter → ℕ
place_of NameEquals = 0
place_of NameStarts = 1
place_of Country = 2
place_of FeatureClass = 3
place_of FeatureCode = 4
place_of AdminCode1 = 5
place_of AdminCode2 = 6
place_of AdminCode3 = 7
place_of SearchLang = 8
place_of North = 9
place_of South = 10
place_of East = 11
place_of West = 12
place_of OrderBy = 13
place_of MaxRows = 14
place_of StartRow = 15

-- the parameter with this name, if there is one
abbrev pub parameter_named : List ℕ → Option Parameter
parameter_named name = find (λ parameter. bytes_eq (parameter_name parameter) name) all_parameters

-- whether a value is good: a name has a byte, an edge is a coordinate, the order is that by population, a count is within its
-- limit, and any text is good for the others
abbrev pub is_good : Parameter → List ℕ → Bool
is_good NameEquals value = not (is_empty value)
is_good NameStarts value = not (is_empty value)
is_good Country value = true
is_good FeatureClass value = true
is_good FeatureCode value = true
is_good AdminCode1 value = true
is_good AdminCode2 value = true
is_good AdminCode3 value = true
is_good SearchLang value = true
is_good North value = is_some (degrees_in 90 value)
is_good South value = is_some (degrees_in 90 value)
is_good East value = is_some (degrees_in 180 value)
is_good West value = is_some (degrees_in 180 value)
is_good OrderBy value = bytes_eq value (codes "population")
is_good MaxRows value = is_some (count_in 1000 value)
is_good StartRow value = is_some (count_in 5000 value)

-- at the place of each parameter its value, or none where it wasn't given
abbrev pub Values : Type 0
Values = List (Option (List ℕ))

abbrev pub no_values : Values
no_values = replicate 16 None

-- the value of a parameter, if it was given
abbrev pub value_of : Parameter → Values → Option (List ℕ)
value_of parameter values = unwrap_or (slice_get values (place_of parameter)) None

-- the values with one more, or its parameter's name: it was given before, or the value is bad
abbrev pub with_value : Values → List ℕ → Parameter → Result Values BadRequest
with_value values value parameter =
    if is_some (value_of parameter values) || not (is_good parameter value) then Err (bad.Value parameter)
    else Ok (slice_set values (place_of parameter) (Some value))

-- the byte is an equals sign
abbrev pub is_equals : ℕ → Bool
is_equals byte = byte == 61

-- the values with that of one more text, which has a known name before its first `=` and a good value behind it
abbrev pub with_parameter : Values → List ℕ → Result Values BadRequest
with_parameter values text =
    if list_any is_equals text
    then ok_or (parameter_named (before_first is_equals text)) bad.Parameter >>= with_value values (after_first is_equals text)
    else Err bad.Parameter

-- the values with those of more texts, from left to right, or the first bad word
abbrev pub with_parameters : Values → List (List ℕ) → Result Values BadRequest
with_parameters values [] = Ok values
with_parameters values (text ∷ texts) = with_parameter values text >>= λ more. with_parameters more texts

-- what is asked of names: at most one of the two tests
abbrev pub name_by : Option (List ℕ) → Option (List ℕ) → Result NameAsked BadRequest
name_by None None = Ok absent
name_by (Some value) None = Ok (equals value)
name_by None (Some value) = Ok (starts value)
name_by (Some value) (Some front) = Err (bad.Value NameStarts)

-- a box of these edges, whose south doesn't lie north of its north
abbrev pub box_with : ℤ → ℤ → ℤ → ℤ → Result (Option Edges) BadRequest
box_with north south east west =
    if int_le south north then Ok (Some (record { north = north; south = south; east = east; west = west })) else Err bad.Box

-- a box where all four edges are given, and none where none is
abbrev pub edges_by : Option ℤ → Option ℤ → Option ℤ → Option ℤ → Result (Option Edges) BadRequest
edges_by None None None None = Ok None
edges_by (Some north) (Some south) (Some east) (Some west) = box_with north south east west
edges_by north south east west = Err bad.Box

-- an edge that was given
abbrev pub edge_of : ℕ → Parameter → Values → Option ℤ
edge_of greatest parameter values = option_and_then (degrees_in greatest) (value_of parameter values)

-- a count that was given, or what stands in its place
abbrev pub count_of : ℕ → ℕ → Parameter → Values → ℕ
count_of greatest default parameter values = unwrap_or (option_and_then (count_in greatest) (value_of parameter values)) default

-- what these values ask with a name test and a box: all rows from the first on where no start is given, and 100 where no number is
abbrev pub asked_with : Values → NameAsked → Option Edges → Asked
asked_with values name edges = record {
  name = name;
  lang = value_of SearchLang values;
  country = value_of Country values;
  class = value_of FeatureClass values;
  code = value_of FeatureCode values;
  admin = value_of AdminCode1 values ∷ value_of AdminCode2 values ∷ value_of AdminCode3 values ∷ [];
  edges = edges;
  start = count_of 5000 0 StartRow values;
  max = count_of 1000 100 MaxRows values;
}

-- what values ask, or the bad word of those that don't go together
abbrev pub asked_by : Values → Result Asked BadRequest
asked_by values =
    name_by (value_of NameEquals values) (value_of NameStarts values)
    >>= λ name. edges_by (edge_of 90 North values) (edge_of 90 South values) (edge_of 180 East values) (edge_of 180 West values)
    >>= λ edges. Ok (asked_with values name edges)

-- the values of a search: those of the parameters between tabs, and none where nothing stands behind the verb
abbrev pub values_in : Option (List ℕ) → Result Values BadRequest
values_in None = Ok no_values
values_in (Some text) = with_parameters no_values (fields text)

-- what a search asks, or its first bad word
abbrev pub search_in : Option (List ℕ) → Result Asked BadRequest
search_in rest = values_in rest >>= asked_by
