-- What a request line asks, or its first bad word.
use Rattle.std.specs.Prelude.{ℕ, ◌≤◌, ⊤, not, List, length, codes, Option, Some, None, Result, Ok, Err, ok_or, option_map, option_and_then, if◌then◌else◌, nat_lt}
use Rattle.std.specs.Str.{is_utf8, bytes_eq}
use Rattle.gaz_num.specs.Numbers.{id_in, some_if}
use Rattle.gaz_num.specs.Check.{has_between}
use Rattle.gaz_num.specs.Dates.{day_in}
use Rattle.gaz_num.specs.Refusal.{◌>>=◌}
use Rattle.gaz_pick.specs.Asked.{Asked, asked}
use Rattle.gaz_words.specs.declared.request.Request.{Request}
use Rattle.gaz_words.specs.declared.request.Request.TheVariants.{Load, Day, Get, Search, Children, Hierarchy, Admin}
use Rattle.gaz_words.specs.declared.request.BadRequest.{BadRequest}
use Rattle.gaz_words.specs.declared.request.BadRequest.TheVariants.{Length, Utf8, Date, Id, Code}
use Rattle.gaz_words.specs.declared.request.BadRequest.TheVariants as bad
use Rattle.gaz_words.specs.declared.request.Verb.{Verb}
use Rattle.gaz_words.specs.declared.request.Verb.TheVariants as verb
use Rattle.gaz_words.specs.Spaces.{before_space, behind_space}
use Rattle.gaz_words.specs.Search.{parameter_name, search_in}
use Rattle.gaz_words.specs.Children.{children_in}

-- what a request line asks
pub data RequestAsked : Type 0 where
  -- to load the dump, which is of this date
  asks_load : ℕ → RequestAsked
  -- to apply the daily files of this date
  asks_day : ℕ → RequestAsked
  -- to tell the place with this id
  asks_get : ℕ → RequestAsked
  -- to tell the first places of those that pass some tests
  asks_search : Asked → RequestAsked
  -- to tell the first children of the place with this id, so many at most
  asks_children : ℕ → ℕ → RequestAsked
  -- to tell the chain of the place with this id
  asks_chain : ℕ → RequestAsked
  -- to tell the line of this admin code
  asks_admin : List ℕ → RequestAsked

-- what a request asks
abbrev pub asked_of : Request → RequestAsked
asked_of (Load date) = asks_load date
asked_of (Day date) = asks_day date
asked_of (Get id) = asks_get id
asked_of (Search query) = asks_search (asked query)
asked_of (Children id max) = asks_children id max
asked_of (Hierarchy id) = asks_chain id
asked_of (Admin code) = asks_admin code.now

-- A search asks for the rows from the 5,000th on at most, and for 1,000 of them at most.
pub record IsLimited (asked : Asked) : Type 0 where
  pub start : asked.start ≤ 5000
  pub max : asked.max ≤ 1000

-- What is asked lies within the limits of a search, and no more than 1,000 children are asked for.
abbrev pub IsWithinLimits : RequestAsked → Type 0
IsWithinLimits (asks_load date) = ⊤
IsWithinLimits (asks_day date) = ⊤
IsWithinLimits (asks_get id) = ⊤
IsWithinLimits (asks_search asked) = IsLimited asked
IsWithinLimits (asks_children id max) = max ≤ 1000
IsWithinLimits (asks_chain id) = ⊤
IsWithinLimits (asks_admin code) = ⊤

-- a bad word as it is printed
abbrev pub bad_word : BadRequest → List ℕ
bad_word Length = codes "length"
bad_word Utf8 = codes "utf8"
bad_word bad.Verb = codes "verb"
bad_word Date = codes "date"
bad_word Id = codes "id"
bad_word Code = codes "code"
bad_word bad.Parameter = codes "parameter"
bad_word (bad.Value parameter) = parameter_name parameter
bad_word bad.Box = codes "box"

-- the text before the first space, or the whole line
abbrev pub verb_of : List ℕ → List ℕ
verb_of line = before_space line

-- the text behind the first space, if there is one
abbrev pub rest_of : List ℕ → Option (List ℕ)
rest_of line = behind_space line

-- the verb that a text is, if it is one that is built
abbrev pub verb_in : List ℕ → Option Verb
verb_in text =
    if bytes_eq text (codes "load") then Some verb.Load
    else if bytes_eq text (codes "day") then Some verb.Day
    else if bytes_eq text (codes "get") then Some verb.Get
    else if bytes_eq text (codes "search") then Some verb.Search
    else if bytes_eq text (codes "children") then Some verb.Children
    else if bytes_eq text (codes "hierarchy") then Some verb.Hierarchy
    else if bytes_eq text (codes "admin") then Some verb.Admin
    else None

-- a code of 1 to 128 bytes
abbrev pub code_in : List ℕ → Option (List ℕ)
code_in text = some_if (has_between 1 128 text) text

-- what the rest of the line gives, or the bad word of a rest that isn't there or isn't read
abbrev pub with_rest : {X : Type 0} → (List ℕ → Option X) → (X → RequestAsked) → BadRequest → Option (List ℕ) → Result RequestAsked BadRequest
with_rest read make bad rest = ok_or (option_map make (option_and_then read rest)) bad

-- what a verb asks with the rest of the line
abbrev pub request_by : Option Verb → Option (List ℕ) → Result RequestAsked BadRequest
request_by (Some verb.Load) rest = with_rest day_in asks_load Date rest
request_by (Some verb.Day) rest = with_rest day_in asks_day Date rest
request_by (Some verb.Get) rest = with_rest id_in asks_get Id rest
request_by (Some verb.Search) rest = search_in rest >>= λ asked. Ok (asks_search asked)
request_by (Some verb.Children) rest = children_in rest >>= λ asked. Ok (asks_children asked.0 asked.1)
request_by (Some verb.Hierarchy) rest = with_rest id_in asks_chain Id rest
request_by (Some verb.Admin) rest = with_rest code_in asks_admin Code rest
request_by None rest = Err bad.Verb

-- the bytes in the longest request line
abbrev pub request_limit : ℕ
request_limit = 4096

-- what a line asks, or its first bad word
unfoldable pub request_in : List ℕ → Result RequestAsked BadRequest
request_in line =
    if nat_lt request_limit (length line) then Err Length
    else if not (is_utf8 line) then Err Utf8
    else request_by (verb_in (verb_of line)) (rest_of line)
