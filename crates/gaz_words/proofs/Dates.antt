-- The date of a request was read of its line.
use Rattle.std.proofs.Common.{◌≡◌, ℕ, Bool, true, false, true≢false, List, length, refl, sym, ◌∙◌, ap, Option, Some, None}
use Rattle.std.specs.Prelude.{not, is_some, Result, Ok, Err, ok_or, option_map, option_and_then, if◌then◌else◌, nat_lt}
use Rattle.std.specs.Str.{is_utf8}
use Rattle.gaz_num.specs.Numbers.{id_in}
use Rattle.gaz_num.specs.Dates.{day_in}
use Rattle.gaz_num.specs.Refusal.{◌>>=◌}
use Rattle.gaz_pick.specs.Asked.{Asked}
use Rattle.gaz_words.specs.declared.request.BadRequest.{BadRequest}
use Rattle.gaz_words.specs.declared.request.BadRequest.TheVariants as bad_of
use Rattle.gaz_words.specs.declared.request.Verb.{Verb}
use Rattle.gaz_words.specs.declared.request.Verb.TheVariants as verb
use Rattle.gaz_words.specs.Search.{search_in}
use Rattle.gaz_words.specs.Children.{children_in}
use Rattle.gaz_words.specs.Grammar.{RequestAsked, asks_load, asks_day, asks_get, asks_search, asks_children, asks_chain, asks_admin, code_in, request_in, request_by, with_rest, rest_of, verb_of, verb_in, request_limit}

-- the date of a change that is asked for
abbrev pub date_in : Result RequestAsked BadRequest → Option ℕ
date_in (Ok (asks_load date)) = Some date
date_in (Ok (asks_day date)) = Some date
date_in (Ok (asks_get id)) = None
date_in (Ok (asks_search asked)) = None
date_in (Ok (asks_children id max)) = None
date_in (Ok (asks_chain id)) = None
date_in (Ok (asks_admin code)) = None
date_in (Err bad) = None

none_some : {X : Type 0} (x : X) → None ≡ Some x → ⊥
none_some x h = true≢false (sym (ap is_some h))

-- The date was read of a text.
abbrev pub WasRead : ℕ → Type 0
WasRead date = (text : List ℕ) × (day_in text ≡ Some date)

load_date : (o : Option ℕ) → date_in (ok_or (option_map asks_load o) bad_of.Date) ≡ o
load_date None = refl
load_date (Some date) = refl

day_date : (o : Option ℕ) → date_in (ok_or (option_map asks_day o) bad_of.Date) ≡ o
day_date None = refl
day_date (Some date) = refl

get_date : (o : Option ℕ) → date_in (ok_or (option_map asks_get o) bad_of.Id) ≡ None
get_date None = refl
get_date (Some id) = refl

search_date : (read : Result Asked BadRequest) → date_in (read >>= λ asked. Ok (asks_search asked)) ≡ None
search_date (Ok asked) = refl
search_date (Err bad) = refl

children_date : (read : Result (ℕ × ℕ) BadRequest) → date_in (read >>= λ asked. Ok (asks_children asked.0 asked.1)) ≡ None
children_date (Ok asked) = refl
children_date (Err bad) = refl

chain_date : (o : Option ℕ) → date_in (ok_or (option_map asks_chain o) bad_of.Id) ≡ None
chain_date None = refl
chain_date (Some id) = refl

admin_date : (o : Option (List ℕ)) → date_in (ok_or (option_map asks_admin o) bad_of.Code) ≡ None
admin_date None = refl
admin_date (Some code) = refl

load_rest : (rest : Option (List ℕ)) (date : ℕ) → date_in (with_rest day_in asks_load bad_of.Date rest) ≡ Some date → WasRead date
load_rest None date h = absurd (none_some date h)
load_rest (Some text) date h = (text, sym (load_date (day_in text)) ∙ h)

day_rest : (rest : Option (List ℕ)) (date : ℕ) → date_in (with_rest day_in asks_day bad_of.Date rest) ≡ Some date → WasRead date
day_rest None date h = absurd (none_some date h)
day_rest (Some text) date h = (text, sym (day_date (day_in text)) ∙ h)

by_verb : (read : Option Verb) (rest : Option (List ℕ)) (date : ℕ) → date_in (request_by read rest) ≡ Some date → WasRead date
by_verb (Some verb.Load) rest date h = load_rest rest date h
by_verb (Some verb.Day) rest date h = day_rest rest date h
by_verb (Some verb.Get) rest date h = absurd (none_some date (sym (get_date (option_and_then id_in rest)) ∙ h))
by_verb (Some verb.Search) rest date h = absurd (none_some date (sym (search_date (search_in rest)) ∙ h))
by_verb (Some verb.Children) rest date h = absurd (none_some date (sym (children_date (children_in rest)) ∙ h))
by_verb (Some verb.Hierarchy) rest date h = absurd (none_some date (sym (chain_date (option_and_then id_in rest)) ∙ h))
by_verb (Some verb.Admin) rest date h = absurd (none_some date (sym (admin_date (option_and_then code_in rest)) ∙ h))
by_verb None rest date h = absurd (none_some date h)

by_tests : (long bad : Bool) (read : Option Verb) (rest : Option (List ℕ)) (date : ℕ)
    → date_in (if long then Err bad_of.Length else if bad then Err bad_of.Utf8 else request_by read rest) ≡ Some date → WasRead date
by_tests true bad read rest date h = absurd (none_some date h)
by_tests false true read rest date h = absurd (none_some date h)
by_tests false false read rest date h = by_verb read rest date h

pub was_read : (line : List ℕ) (date : ℕ) → date_in (request_in line) ≡ Some date → WasRead date
unfolding request_in
was_read line date h = by_tests (nat_lt request_limit (length line)) (not (is_utf8 line)) (verb_in (verb_of line)) (rest_of line) date h
