-- A run of the program keeps what it finds.
use Rattle.std.proofs.Common.{◌≡◌, ◌≢◌, ◌⊎◌, ℕ, IsTrue, List, [], ◌∷◌, ◌++◌, take, length, length-append, sym, ap, arith, subst, ◌∙◌, Option, Some, inl, inr}
use Rattle.std.proofs.Transfers.{drop-appended}
use Rattle.std.proofs.Math.Seq.{take-append_seam}
use Rattle.std.proofs.lemmas.Bool.{cases_eq}
use Rattle.std.specs.Prelude.{IfSome}
use Rattle.gaz_outside.specs.Outside.{ShelfView, StationView, IsPrefix}
use Rattle.gaz_num.specs.Pieces.{lines_within, is_too_long}
use Rattle.gaz_rows.specs.Holds.{AllHold}
use Rattle.gaz_reply.specs.Reply.{reply_text}
use Rattle.gaz_reply.proofs.Cuts.{printed_whole}
use Rattle.gaz_turns.specs.Turns.{State, Turn, replies, answer_at, state_after}
use Rattle.gaz_turns.specs.Head.{IsFront}
use Rattle.gaz_turns.specs.Steps.{RunKeeps}
use Rattle.gaz_turns.proofs.Tallies.{replies_more}
use Rattle.gaz_serve.specs.Ran.{RunAnswers}

front_of : (front text : List ℕ) → IsPrefix front text → IsFront front text
front_of front text prefix =
    let sum = ap length prefix.1 ∙ length-append front prefix.0 in
    (length front, omega (arith, sum), sym (take-append_seam front prefix.0) ∙ ap (take (length front)) (sym prefix.1))

-- with any status, the text has all replies but the last
module _ (first : State) (bytes bytes_now : Option (List ℕ)) (shelf shelf_now : ShelfView) (station station_now : StationView) (status : ℕ) (run : RunAnswers first bytes bytes_now shelf shelf_now station station_now status) where
  all_but_last : (earlier : List Turn) (last : Turn) → run.turns ≡ earlier ++ last ∷ [] → (status ≡ 3) ⊎ (status ≢ 3) → IsPrefix (replies first earlier) run.text
  all_but_last earlier last is (inl three) = (run.cut three).begun earlier last is
  all_but_last earlier last is (inr well) =
      (reply_text (answer_at (state_after first earlier) last).reply, run.whole well ∙ ap (replies first) is ∙ replies_more first earlier last)

  pub run_keeps : (text : List ℕ) → bytes ≡ Some text → IsTrue station.is_told → station_now.is_told ≡ station.is_told → AllHold station first.gaz → RunKeeps shelf shelf_now (lines_within text) first station station_now status
  run_keeps text told_bytes told same holds =
      let keeps = run.keeps told holds in
      let whole = printed_whole run.text station station_now told same run.text_is in
      let texts : run.text ≡ keeps.text = sym (drop-appended station.printed station_now.printed run.text whole) ∙ drop-appended station.printed station_now.printed keeps.text keeps.printed in
      let lines = subst (λ (known : Option (List ℕ)). IfSome known (λ bytes. (run.given.lines ≡ lines_within bytes) × (run.given.is_past ≡ is_too_long bytes))) told_bytes run.given.are_told in
      record {
        turns = run.turns;
        unanswered = run.unanswered;
        asked = sym lines.0 ∙ run.lines_are;
        files = run.files;
        legal = run.legal;
        all = λ is. (run.ended is).0;
        keeps = keeps;
        cut_last = λ earlier last is. subst (λ (text : List ℕ). IsFront (replies first earlier) text) texts (front_of _ _ (all_but_last earlier last is (cases_eq status 3)));
      }
