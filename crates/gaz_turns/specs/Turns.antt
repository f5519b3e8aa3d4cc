-- The replies to request lines, one after another, and the gazetteers between them.
use Rattle.std.specs.Prelude.{◌≡◌, ℕ, ◌⊎◌, ⊤, ◌++◌, List, [], ◌∷◌, count_by, Bool, true, false, Option, Some, option_to_list, is_none, ◌||◌, IsSome, Result, Ok, Err, if◌then◌else◌, slice_get}
use Rattle.std.specs.List.{AllByRecursion}
use Rattle.gaz_outside.specs.Outside.{ShelfView}
use Rattle.gaz_num.specs.declared.words.FileName.{FileName}
use Rattle.gaz_num.specs.declared.words.Table.TheVariants.{Rows, Codes}
use Rattle.gaz_num.specs.Words.{file_text}
use Rattle.gaz_num.specs.Refusal as refusal
use Rattle.gaz_num.specs.Refusal.{Refusal}
use Rattle.gaz_plain.specs.Gazetteer.{Gazetteer, empty, line_with}
use Rattle.gaz_pick.specs.Asked.{NameAsked, absent, equals, starts}
use Rattle.gaz_plain.specs.Search.{search_of}
use Rattle.gaz_plain.specs.Kin.{children_of, hierarchy_of}
use Rattle.gaz_plain.specs.Load.{Files, load, day, load_files, day_files, in_sequence}
pub use Rattle.gaz_change.specs.Change.{IsReached}
use Rattle.gaz_words.specs.declared.request.BadRequest.{BadRequest}
use Rattle.gaz_words.specs.Grammar.{RequestAsked, asks_load, asks_day, asks_get, asks_search, asks_children, asks_chain, asks_admin, request_in, bad_word}
use Rattle.gaz_reply.specs.declared.reply.Done.{Done}
use Rattle.gaz_reply.specs.declared.reply.Done.TheVariants as done_of
use Rattle.gaz_reply.specs.Reply.{Reply, done, rows, refused, reply_text, is_change}

-- what a session stands for between two requests
pub record State : Type 0 where
  pub gaz : Gazetteer

-- the state at first
abbrev pub at_first : State
at_first = record { gaz = empty }

-- a reply and the state after it
pub record Answer : Type 0 where
  pub reply : Reply
  pub state : State

-- a reply that leaves the state
abbrev pub same_state : State → Reply → Answer
same_state state reply = record { reply = reply; state = state }

-- a change that is made
abbrev pub made : Done → Gazetteer → Answer
made change gaz = record { reply = done change; state = record { gaz = gaz } }

-- a change that is made, or refused
abbrev pub changed : State → Done → Result Gazetteer Refusal → Answer
changed state change (Ok gaz) = made change gaz
changed state change (Err why) = same_state state (refused why)

-- the reply, where something was loaded
abbrev pub if_loaded : State → Reply → Reply
if_loaded state reply = if is_none state.gaz.date then refused refusal.not_loaded else reply

-- the answer to a request
abbrev pub answer_to : State → Files → RequestAsked → Answer
answer_to state files (asks_load date) = changed state (done_of.Load date) (load files date)
answer_to state files (asks_day date) = changed state (done_of.Day date) (day state.gaz files date)
answer_to state files (asks_get id) =
    same_state state (if_loaded state (rows (option_to_list (line_with Rows (id ∷ []) state.gaz))))
answer_to state files (asks_search asked) = same_state state (if_loaded state (rows (search_of state.gaz asked)))
answer_to state files (asks_children id max) = same_state state (if_loaded state (rows (children_of state.gaz id max)))
answer_to state files (asks_chain id) = same_state state (if_loaded state (rows (hierarchy_of state.gaz id)))
answer_to state files (asks_admin code) = same_state state (if_loaded state (rows (option_to_list (line_with Codes code state.gaz))))

-- the answer to a line that was read, or refused by the grammar
abbrev pub answer_to_read : State → Files → Result RequestAsked BadRequest → Answer
answer_to_read state files (Ok request) = answer_to state files request
answer_to_read state files (Err bad) = same_state state (refused (refusal.request (bad_word bad)))

-- the answer to a request line
abbrev pub plain_answer : State → Files → List ℕ → Answer
plain_answer state files line = answer_to_read state files (request_in line)

-- how a request is met: as defined, or refused for want of memory or by the shelf
pub data Verdict : Type 0 where
  plain : Verdict
  memory : Verdict
  shelf : FileName → Verdict

-- the answer by a verdict
abbrev pub answer_by : Verdict → State → Files → List ℕ → Answer
answer_by plain state files line = plain_answer state files line
answer_by memory state files line = same_state state (refused refusal.memory)
answer_by (shelf file) state files line = same_state state (refused (refusal.shelf file))

-- the files that a day opens, none where its date is refused
abbrev pub day_opens : Result ℕ Refusal → List FileName
day_opens (Ok next) = day_files next
day_opens (Err why) = []

-- the files that a request opens, none where it is refused before that
abbrev pub opens : State → Result RequestAsked BadRequest → List FileName
opens state (Ok (asks_load date)) = load_files
opens state (Ok (asks_day date)) = day_opens (in_sequence state.gaz.date date)
opens state (Ok (asks_get id)) = []
opens state (Ok (asks_search asked)) = []
opens state (Ok (asks_children id max)) = []
opens state (Ok (asks_chain id)) = []
opens state (Ok (asks_admin code)) = []
opens state (Err bad) = []

-- a request that reads files
abbrev pub ReadsFiles : Result RequestAsked BadRequest → Type 0
ReadsFiles (Ok (asks_load date)) = ⊤
ReadsFiles (Ok (asks_day date)) = ⊤
ReadsFiles (Ok (asks_get id)) = ⊥
ReadsFiles (Ok (asks_search asked)) = ⊥
ReadsFiles (Ok (asks_children id max)) = ⊥
ReadsFiles (Ok (asks_chain id)) = ⊥
ReadsFiles (Ok (asks_admin code)) = ⊥
ReadsFiles (Err bad) = ⊥

-- a name is asked for
abbrev pub AsksName : NameAsked → Type 0
AsksName absent = ⊥
AsksName (equals value) = ⊤
AsksName (starts value) = ⊤

-- a request that may be refused for want of memory: one that reads files, or that asks for a name
abbrev pub MayStarve : Result RequestAsked BadRequest → Type 0
MayStarve (Ok (asks_load date)) = ⊤
MayStarve (Ok (asks_day date)) = ⊤
MayStarve (Ok (asks_get id)) = ⊥
MayStarve (Ok (asks_search asked)) = AsksName asked.name
MayStarve (Ok (asks_children id max)) = ⊥
MayStarve (Ok (asks_chain id)) = ⊥
MayStarve (Ok (asks_admin code)) = ⊥
MayStarve (Err bad) = ⊥

-- a request may be met by the verdict
abbrev pub MayBe : Verdict → State → Files → List ℕ → Type 0
MayBe plain state files line = ⊤
MayBe memory state files line = MayStarve (request_in line)
MayBe (shelf file) state files line = IsReached files file (opens state (request_in line))

-- a request line, how it is met, and the files as they were during it
pub record Turn : Type 0 where
  pub line : List ℕ
  pub verdict : Verdict
  pub files : Files

-- the answer at a turn
abbrev pub answer_at : State → Turn → Answer
answer_at state turn = answer_by turn.verdict state turn.files turn.line

-- each turn may be met so
abbrev pub IsLegal : State → List Turn → Type 0
IsLegal state [] = ⊤
IsLegal state (turn ∷ turns) = MayBe turn.verdict state turn.files turn.line × IsLegal (answer_at state turn).state turns

-- the state after all turns
abbrev pub state_after : State → List Turn → State
state_after state [] = state
state_after state (turn ∷ turns) = state_after (answer_at state turn).state turns

-- the text of all replies in order
abbrev pub replies : State → List Turn → List ℕ
replies state [] = []
replies state (turn ∷ turns) =
    let answered = answer_at state turn in
    reply_text answered.reply ++ replies answered.state turns

-- the gazetteer at first, and after each change that is made
abbrev pub gazetteers : State → List Turn → List Gazetteer
gazetteers state [] = state.gaz ∷ []
gazetteers state (turn ∷ turns) =
    let answered = answer_at state turn in
    let later = gazetteers answered.state turns in
    if is_change answered.reply then state.gaz ∷ later else later

-- the gazetteer after the first k changes
abbrev pub after : ℕ → State → List Turn → Option Gazetteer
after k state turns = slice_get (gazetteers state turns) k

-- the shelf refused the request
abbrev pub is_shelf : Verdict → Bool
is_shelf plain = false
is_shelf memory = false
is_shelf (shelf file) = true

-- the name of the file at which the shelf failed by this verdict, and else the one before
abbrev pub blamed_by : Verdict → Option (List ℕ) → Option (List ℕ)
blamed_by plain before = before
blamed_by memory before = before
blamed_by (shelf file) before = Some (file_text file)

-- how many requests the shelf refused
abbrev pub shelf_refusals : List Turn → ℕ
shelf_refusals turns = count_by (λ turn. is_shelf turn.verdict) turns

-- the name of the file at which the shelf failed last, where this was the last one before
abbrev pub blamed_last : Option (List ℕ) → List Turn → Option (List ℕ)
blamed_last before [] = before
blamed_last before (turn ∷ turns) = blamed_last (blamed_by turn.verdict before) turns

-- whether a change is made in one of the turns
abbrev pub has_change : State → List Turn → Bool
has_change state [] = false
has_change state (turn ∷ turns) =
    let answered = answer_at state turn in
    is_change answered.reply || has_change answered.state turns

-- Each turn has the files of the turn before, or, where its request reads files, others, before which those stood; at first these
-- files, with the earlier ones, and at the end those of now. Lists of earlier files have the last ones first.
abbrev pub FilesFollow : Files → List Files → List Turn → Files → List Files → Type 0
FilesFollow files earlier [] now earlier_now = (now ≡ files) × (earlier_now ≡ earlier)
FilesFollow files earlier (turn ∷ turns) now earlier_now =
    ((turn.files ≡ files) × FilesFollow files earlier turns now earlier_now)
    ⊎ (ReadsFiles (request_in turn.line) × FilesFollow turn.files (files ∷ earlier) turns now earlier_now)

-- Each turn has the files that the shelf had then.
abbrev pub HaveFiles : ShelfView → List Turn → ShelfView → Type 0
HaveFiles old turns new = FilesFollow old.files old.earlier turns new.files new.earlier

-- The shelf has these files, and never had others.
abbrev pub HasOnly : Files → ShelfView → Type 0
HasOnly files view = (view.files ≡ files) × AllByRecursion (λ other. other ≡ files) view.earlier
