-- A request line as one step.
use Rattle.std.proofs.Common.{◌≡◌, ℕ, List, refl, ap, sym, subst}
use Rattle.std.specs.Prelude.{Result, Ok, Err}
use Rattle.gaz_outside.specs.Outside.{ShelfView, StationView}
use Rattle.gaz_num.specs.Refusal.{request}
use Rattle.gaz_plain.specs.Load.{Files, in_sequence}
use Rattle.gaz_words.specs.declared.request.BadRequest.{BadRequest}
use Rattle.gaz_words.specs.Grammar.{RequestAsked, asks_load, asks_day, asks_get, asks_search, asks_children, asks_chain, asks_admin, request_in, bad_word}
use Rattle.gaz_reply.specs.Reply.{refused}
use Rattle.gaz_turns.specs.Turns.{State, Verdict, plain, memory, shelf, same_state, answer_to_read, answer_by, opens, day_opens, IsReached, MayBe, MayStarve}
use Rattle.gaz_turns.specs.Steps.{IsGiven}
use Rattle.gaz_serve.specs.Change.{Closes}
use Rattle.gaz_serve.specs.Step.{Meets, MayMeet, OneStep, answer_of}

-- a line that was read as the request
module _ (state : State) (line : List ℕ) (asked : RequestAsked) (read : request_in line ≡ Ok asked) where
  may_be : (files : Files) (verdict : Verdict) → MayMeet verdict state files asked → MayBe verdict state files line
  may_be files plain may = tt
  may_be files memory may = subst MayStarve (sym read) may
  may_be files (shelf file) may = subst (λ r. IsReached files file (opens state r)) (sym read) may

  same_answer : (files : Files) (verdict : Verdict) → answer_of verdict state files asked ≡ answer_by verdict state files line
  same_answer files plain = ap (answer_to_read state files) (sym read)
  same_answer files memory = refl
  same_answer files (shelf file) = refl

  -- A request that was met is one step.
  pub read_step : {E : Type 0} (before now : ShelfView) (station station_now : StationView) (result : Result (Unit {0}) E) → Closes (opens state (Ok asked)) before now → Meets now.files asked state before now station station_now result → OneStep line state before now station station_now result
  read_step before now station station_now result closes step = record {
    verdict = step.verdict;
    may = may_be now.files step.verdict step.may;
    blamed = step.blamed;
    closes = subst (λ r. Closes (opens state r) before now) (sym read) closes;
    given = subst (λ a. IsGiven a state station station_now result) (same_answer now.files step.verdict) step.given;
  }

-- A line that the grammar refuses is one step.
pub unread_step : {E : Type 0} (state : State) (line word : List ℕ) (bad : BadRequest) (view : ShelfView) (station station_now : StationView) → request_in line ≡ Err bad → word ≡ bad_word bad → (result : Result (Unit {0}) E) → IsGiven (same_state state (refused (request word))) state station station_now result → OneStep line state view view station station_now result
unread_step state line word bad view station station_now read is result given = record {
  verdict = plain;
  may = tt;
  blamed = record { faults = refl; last = refl };
  closes = subst (λ r. Closes (opens state r) view view) (sym read) (λ n. refl, record { told = refl; files = refl; earlier = refl });
  given = subst (λ r. IsGiven (answer_to_read state view.files r) state station station_now result) (sym read)
      (subst (λ w. IsGiven (same_state state (refused (request w))) state station station_now result) is given);
}

-- by the date alone a request opens files or doesn't
pub opens_by_date : (one other : State) → one.gaz.date ≡ other.gaz.date → (asked : RequestAsked) → opens one (Ok asked) ≡ opens other (Ok asked)
opens_by_date one other same (asks_load date) = refl
opens_by_date one other same (asks_day date) = ap (λ have. day_opens (in_sequence have date)) same
opens_by_date one other same (asks_get id) = refl
opens_by_date one other same (asks_search asked) = refl
opens_by_date one other same (asks_children id max) = refl
opens_by_date one other same (asks_chain id) = refl
opens_by_date one other same (asks_admin code) = refl
