-- Worked runs, what their text acknowledges, and a stop inside a commit.
use Rattle.std.proofs.Common.{◌≡◌, ℕ, List, [], ◌∷◌, ◌++◌, length, inr, refl, sym, ap, arith, Some, None, take}
use Rattle.std.specs.Prelude.{codes}
use Rattle.std.specs.Str.{is_utf8, chars}
use Rattle.std.specs.Fmt.{digits}
use lib.Utf8.{encode}
use Rattle.jiff_core.specs.Calendar.{days_from_civil, days_of_years, days_of_months, day_count}
use Rattle.gaz_num.specs.Check.{reason_against}
use Rattle.gaz_outside.specs.declared.station.Area.{Area}
use Rattle.gaz_outside.specs.Station.{StationView}
use Rattle.gaz_plain.specs.Gazetteer.{Gazetteer, empty, after_line}
use Rattle.gaz_plain.specs.Load.{Files, load, day}
use Rattle.gaz_rows.specs.Content.{Mirrors}
use Rattle.gaz_words.specs.Grammar.{request_in}
use Rattle.gaz_reply.specs.Reply.{acks}
use Rattle.gaz_turns.specs.Turns.{Turn, Verdict, plain, memory}
use Rattle.gaz_turns.specs.Head.{Course, IsStop, after_changes, replies_of}

-- each file is there and empty
abbrev no_lines : Files
no_lines name = Some []

abbrev turn : Files → Verdict → List ℕ → Turn
turn files verdict line = record { line = line; verdict = verdict; files = files }

-- a load for which memory is wanting, a load, a get
abbrev course : Course
course = record { first = record { gaz = empty }; turns = turn no_lines memory (codes "load 0000-01-06") ∷ turn no_lines plain (codes "load 0000-01-06") ∷ turn no_lines plain (codes "get 1") ∷ [] }

abbrev text : List ℕ
text = codes "refused memory\nok load 0000-01-06\nok 0\n"

abbrev loaded : Gazetteer
loaded = record empty { date = Some 5 }

whole : replies_of course ≡ text
unfolding request_in load after_line reason_against is_utf8 chars encode digits days_from_civil day_count days_of_years days_of_months
whole = refl

first_change : after_changes 1 course ≡ Some loaded
unfolding request_in load after_line reason_against is_utf8 chars encode digits days_from_civil day_count days_of_years days_of_months
first_change = refl

no_second_change : after_changes 2 course ≡ None
unfolding request_in load after_line reason_against is_utf8 chars encode digits days_from_civil day_count days_of_years days_of_months
no_second_change = refl

-- a line acknowledges with its LF
cut : acks (take 33 text) ≡ 0
unfolding days_from_civil day_count days_of_years days_of_months
cut = refl

acknowledged : acks (take 34 text) ≡ 1
unfolding days_from_civil day_count days_of_years days_of_months
acknowledged = refl

-- a stored line that begins like one is none
echoed : acks (codes "ok load 0000-01-06\tA\n") ≡ 0
unfolding days_from_civil day_count days_of_years days_of_months
echoed = refl

no_date : acks (codes "ok load 0000-02-30\nok day 1\nok 1\n ok load 0000-01-06\n") ≡ 0
unfolding days_from_civil day_count days_of_years days_of_months
no_date = refl

-- a load, a day that comes too early, and two days
abbrev empty_files : Files
empty_files name = Some []

abbrev two_days : Course
two_days = record { first = record { gaz = empty }; turns = turn empty_files plain (codes "load 0000-01-06") ∷ turn empty_files plain (codes "day 0000-01-08") ∷ turn empty_files plain (codes "day 0000-01-07") ∷ turn empty_files plain (codes "day 0000-01-08") ∷ [] }

abbrev text_of_days : List ℕ
text_of_days = codes "ok load 0000-01-06\nrefused sequence 0000-01-06\nok day 0000-01-07\nok day 0000-01-08\n"

days_whole : replies_of two_days ≡ text_of_days
unfolding request_in load day after_line reason_against is_utf8 chars encode digits days_from_civil day_count days_of_years days_of_months
days_whole = refl

days_after : after_changes 3 two_days ≡ Some (record empty { date = Some 7 })
unfolding request_in load day after_line reason_against is_utf8 chars encode digits days_from_civil day_count days_of_years days_of_months
days_after = refl

days_acknowledged : acks text_of_days ≡ 3
unfolding days_from_civil day_count days_of_years days_of_months
days_acknowledged = refl

-- A stop inside the load's commit, behind any text at entry: the refusal is printed, the acknowledgement isn't, and the areas have the load.
inside_commit : (v : StationView) (areas : Area → List ℕ) → Mirrors areas loaded → IsStop course v (record { areas = areas; text = v.printed ++ codes "refused memory\n" })
unfolding request_in load after_line reason_against is_utf8 chars encode digits days_from_civil day_count days_of_years days_of_months
inside_commit v areas mirrors = record {
  text = codes "refused memory\n";
  printed = refl;
  front = (15, omega (arith, ap length whole), ap (λ (t : List ℕ). take 15 t) (sym whole));
  holds = record { gaz = loaded; content = mirrors; one_of = inr first_change };
}
