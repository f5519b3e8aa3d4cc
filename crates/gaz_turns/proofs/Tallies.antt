-- A list of turns that goes on by one: its replies, its gazetteers, and the count of acknowledgements.
use Rattle.std.proofs.Common.{◌≡◌, ℕ, zero, suc, ◌+◌, ◌≤◌, Bool, true, false, ◌||◌, cond, true≢false, List, [], ◌∷◌, ◌++◌, take, length, refl, sym, ◌∙◌, ap, arith, append_assoc, append-nil, Option, Some, length-append}
use Rattle.std.specs.Prelude.{map, if◌then◌else◌, slice_get, is_some, Result, Ok, Err}
use Rattle.gaz_num.specs.Refusal.{Refusal}
use Rattle.gaz_plain.specs.Gazetteer.{Gazetteer}
use Rattle.gaz_plain.specs.Load.{Files, load, day}
use Rattle.gaz_words.specs.Grammar.{RequestAsked, asks_load, asks_day, asks_get, asks_search, asks_children, asks_chain, asks_admin}
use Rattle.gaz_words.specs.declared.request.BadRequest.{BadRequest}
use Rattle.gaz_words.specs.Grammar.{request_in}
use Rattle.gaz_reply.specs.declared.reply.Done.{Done}
use Rattle.gaz_reply.specs.declared.reply.Done.TheVariants as done_of
use Rattle.gaz_reply.specs.Reply.{reply_text, reply_lines, is_change, is_ack, acks}
use Rattle.gaz_turns.specs.Turns.{State, Answer, Turn, Verdict, plain, memory, shelf, answer_at, answer_by, answer_to_read, changed, MayBe, IsLegal, replies, gazetteers, state_after, has_change, blamed_by, blamed_last}
use Rattle.gaz_turns.proofs.Counted.{counted, counted_front}
use Rattle.gaz_turns.proofs.Replied.{IsMarked}

pub legal_more : (state : State) (turns : List Turn) (turn : Turn) → IsLegal state turns → MayBe turn.verdict (state_after state turns) turn.files turn.line → IsLegal state (turns ++ turn ∷ [])
legal_more state [] turn legal may = (may, tt)
legal_more state (t ∷ turns) turn legal may = (legal.0, legal_more (answer_at state t).state turns turn legal.1 may)

pub replies_more : (state : State) (turns : List Turn) (turn : Turn) → replies state (turns ++ turn ∷ []) ≡ replies state turns ++ reply_text (answer_at (state_after state turns) turn).reply
replies_more state [] turn = append-nil (reply_text (answer_at state turn).reply)
replies_more state (t ∷ turns) turn =
    let first = reply_text (answer_at state t).reply in
    ap (λ xs. first ++ xs) (replies_more (answer_at state t).state turns turn)
    ∙ sym (append_assoc first (replies (answer_at state t).state turns) (reply_text (answer_at (state_after (answer_at state t).state turns) turn).reply))

pub state_more : (state : State) (turns : List Turn) (turn : Turn) → state_after state (turns ++ turn ∷ []) ≡ (answer_at (state_after state turns) turn).state
state_more state [] turn = refl
state_more state (t ∷ turns) turn = state_more (answer_at state t).state turns turn

pub asked_more : (turns : List Turn) (turn : Turn) → map (λ t. t.line) (turns ++ turn ∷ []) ≡ map (λ t. t.line) turns ++ turn.line ∷ []
asked_more [] turn = refl
asked_more (t ∷ turns) turn = ap (λ ls. t.line ∷ ls) (asked_more turns turn)

-- the last blame, with one turn more
pub blamed_more : (before : Option (List ℕ)) (turns : List Turn) (turn : Turn) → blamed_last before (turns ++ turn ∷ []) ≡ blamed_by turn.verdict (blamed_last before turns)
blamed_more before [] turn = refl
blamed_more before (t ∷ turns) turn = blamed_more (blamed_by t.verdict before) turns turn

-- A reply that tells no change leaves the state.
changed_same : (state : State) (change : Done) (r : Result Gazetteer Refusal) → is_change (changed state change r).reply ≡ false → (changed state change r).state ≡ state
changed_same state change (Ok gaz) h = absurd (true≢false h)
changed_same state change (Err why) h = refl

read_same : (state : State) (files : Files) (r : Result RequestAsked BadRequest) → is_change (answer_to_read state files r).reply ≡ false → (answer_to_read state files r).state ≡ state
read_same state files (Ok (asks_load date)) h = changed_same state (done_of.Load date) (load files date) h
read_same state files (Ok (asks_day date)) h = changed_same state (done_of.Day date) (day state.gaz files date) h
read_same state files (Ok (asks_get id)) h = refl
read_same state files (Ok (asks_search asked)) h = refl
read_same state files (Ok (asks_children id max)) h = refl
read_same state files (Ok (asks_chain id)) h = refl
read_same state files (Ok (asks_admin code)) h = refl
read_same state files (Err bad) h = refl

pub same_by : (verdict : Verdict) (state : State) (files : Files) (line : List ℕ) → is_change (answer_by verdict state files line).reply ≡ false → (answer_by verdict state files line).state ≡ state
same_by plain state files line h = read_same state files (request_in line) h
same_by memory state files line h = refl
same_by (shelf file) state files line h = refl

pub same_gaz : (state : State) (turn : Turn) → is_change (answer_at state turn).reply ≡ false → (answer_at state turn).state.gaz ≡ state.gaz
same_gaz state turn h = ap (λ (s : State). s.gaz) (same_by turn.verdict state turn.files turn.line h)

or_none : (b : Bool) → (b || false) ≡ b
or_none true = refl
or_none false = refl

or_three : (a b c : Bool) → (a || (b || c)) ≡ ((a || b) || c)
or_three true b c = refl
or_three false b c = refl

-- whether a change is made, with one turn more
pub change_more : (state : State) (turns : List Turn) (turn : Turn) → has_change state (turns ++ turn ∷ []) ≡ (has_change state turns || is_change (answer_at (state_after state turns) turn).reply)
change_more state [] turn = or_none (is_change (answer_at state turn).reply)
change_more state (t ∷ turns) turn =
    let next = (answer_at state t).state in
    ap (λ (b : Bool). is_change (answer_at state t).reply || b) (change_more next turns turn)
    ∙ or_three (is_change (answer_at state t).reply) (has_change next turns) (is_change (answer_at (state_after next turns) turn).reply)

-- the gazetteer, where the answer tells a change
abbrev pub if_change : Answer → List Gazetteer
if_change a = if is_change a.reply then a.state.gaz ∷ [] else []

one_more : (b : Bool) (g h : Gazetteer) → (b ≡ false → h ≡ g) → (if b then g ∷ h ∷ [] else h ∷ []) ≡ (g ∷ []) ++ (if b then h ∷ [] else [])
one_more true g h same = refl
one_more false g h same = ap (λ (x : Gazetteer). x ∷ []) (same refl)

if_more : (b : Bool) (g : Gazetteer) (later longer extra : List Gazetteer) → longer ≡ later ++ extra → (if b then g ∷ longer else longer) ≡ (if b then g ∷ later else later) ++ extra
if_more true g later longer extra is = ap (λ (l : List Gazetteer). g ∷ l) is
if_more false g later longer extra is = is

pub gazetteers_more : (state : State) (turns : List Turn) (turn : Turn) → gazetteers state (turns ++ turn ∷ []) ≡ gazetteers state turns ++ if_change (answer_at (state_after state turns) turn)
gazetteers_more state [] turn =
    one_more (is_change (answer_at state turn).reply) state.gaz (answer_at state turn).state.gaz (same_gaz state turn)
gazetteers_more state (t ∷ turns) turn =
    let next = (answer_at state t).state in
    if_more (is_change (answer_at state t).reply) state.gaz (gazetteers next turns) (gazetteers next (turns ++ turn ∷ [])) (if_change (answer_at (state_after next turns) turn))
    (gazetteers_more next turns turn)

pub get_at : (xs : List Gazetteer) (x : Gazetteer) (ys : List Gazetteer) → slice_get (xs ++ x ∷ ys) (length xs) ≡ Some x
get_at [] x ys = refl
get_at (y ∷ xs) x ys = get_at xs x ys

pub get_more : (xs ys : List Gazetteer) (k : ℕ) (x : Gazetteer) → slice_get xs k ≡ Some x → slice_get (xs ++ ys) k ≡ Some x
get_more [] ys k x is = absurd (true≢false (sym (ap is_some is)))
get_more (y ∷ xs) ys zero x is = is
get_more (y ∷ xs) ys (suc k) x is = get_more xs ys k x is

-- How many changes were made, and how many are acknowledged: as many.
pub record Tally (first : State) (turns : List Turn) (state : State) : Type 0 where
  pub earlier : List Gazetteer
  pub all : gazetteers first turns ≡ earlier ++ state.gaz ∷ []
  pub acked : (text : List ℕ) → acks (replies first turns ++ text) ≡ length earlier + acks text

pub no_turn : (first : State) → Tally first [] first
no_turn first = record { earlier = []; all = refl; acked = λ text. omega arith }

sum_assoc : (a b c : ℕ) → a + b + c ≡ a + (b + c)
sum_assoc a b c = omega arith

if_one : (b : Bool) (g : Gazetteer) → List Gazetteer
if_one b g = if b then g ∷ [] else []

arrange : (b : Bool) (xs : List Gazetteer) (g h : Gazetteer) → (b ≡ false → h ≡ g) → (xs ++ g ∷ []) ++ (if b then h ∷ [] else []) ≡ (xs ++ if_one b g) ++ h ∷ []
unfolding if_one
arrange true xs g h same = refl
arrange false xs g h same = append-nil (xs ++ g ∷ []) ∙ ap (λ (x : Gazetteer). xs ++ x ∷ []) (sym (same refl)) ∙ ap (λ (l : List Gazetteer). l ++ h ∷ []) (sym (append-nil xs))

longer : (b : Bool) (xs : List Gazetteer) (g : Gazetteer) → length (xs ++ if_one b g) ≡ length xs + cond b 1 0
unfolding if_one
longer true xs g = length-append xs (g ∷ [])
longer false xs g = length-append xs []

module _ (first : State) (turns : List Turn) (turn : Turn) (state : State) (ends : state_after first turns ≡ state) (marked : IsMarked (answer_at state turn).reply) where
  pub replies_on : replies first (turns ++ turn ∷ []) ≡ replies first turns ++ reply_text (answer_at state turn).reply
  replies_on = replies_more first turns turn ∙ ap (λ (s : State). replies first turns ++ reply_text (answer_at s turn).reply) ends

  pub gazetteers_on : gazetteers first (turns ++ turn ∷ []) ≡ gazetteers first turns ++ if_change (answer_at state turn)
  gazetteers_on = gazetteers_more first turns turn ∙ ap (λ (s : State). gazetteers first turns ++ if_change (answer_at s turn)) ends

  pub reply_acks : (text : List ℕ) → acks (reply_text (answer_at state turn).reply ++ text) ≡ cond (is_change (answer_at state turn).reply) 1 0 + acks text
  reply_acks text =
      let all = counted is_ack (reply_lines (answer_at state turn).reply) text marked.lines in
      let marks = marked.marks in
      omega (arith, all, marks)

  pub front_acks : (n : ℕ) → acks (take n (reply_text (answer_at state turn).reply)) ≤ cond (is_change (answer_at state turn).reply) 1 0
  front_acks n =
      let all = counted_front is_ack (reply_lines (answer_at state turn).reply) n marked.lines in
      let marks = marked.marks in
      omega (arith, all, marks)

  pub one_turn : Tally first turns state → Tally first (turns ++ turn ∷ []) (answer_at state turn).state
  one_turn tally =
      let a = answer_at state turn in
      let b = is_change a.reply in
      record {
        earlier = tally.earlier ++ if_one b state.gaz;
        all = gazetteers_on ∙ ap (λ (l : List Gazetteer). l ++ if_change a) tally.all ∙ arrange b tally.earlier state.gaz a.state.gaz (same_gaz state turn);
        acked = λ text.
            let split : acks (replies first (turns ++ turn ∷ []) ++ text) ≡ acks (replies first turns ++ (reply_text a.reply ++ text)) =
            ap (λ (l : List ℕ). acks (l ++ text)) replies_on ∙ ap acks (append_assoc (replies first turns) (reply_text a.reply) text) in
            let before = tally.acked (reply_text a.reply ++ text) in
            let here = reply_acks text in
            let count = longer b tally.earlier state.gaz in
            split ∙ before ∙ ap (λ (n : ℕ). length tally.earlier + n) here ∙ sym (sum_assoc (length tally.earlier) (cond b 1 0) (acks text)) ∙ ap (λ (n : ℕ). n + acks text) (sym count);
      }
