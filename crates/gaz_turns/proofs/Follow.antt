-- What a run leaves is what the next one begins with.
use Rattle.std.proofs.Common.{◌≡◌, ⊎_elim, ℕ, ◌≤◌, List, ◌++◌, IsTrue, refl, sym, ◌∙◌, subst}
use Rattle.std.proofs.Transfers.{drop-appended}
use Rattle.gaz_outside.specs.declared.station.Area.{Area}
use Rattle.gaz_outside.specs.Station.{StationView, Outcome, Leaves}
use Rattle.gaz_plain.specs.Gazetteer.{Gazetteer, empty}
use Rattle.gaz_rows.specs.Holds.{SameMirror}
use Rattle.gaz_rows.specs.Content.{Mirrors}
use Rattle.gaz_rows.specs.Holds.{AllHold}
use Rattle.gaz_turns.specs.Head.{Course, Keeps, IsStop, last_of}
use Rattle.gaz_open.proofs.Mirrored.{one_mirror, same_areas, empty_mirror}
use Rattle.gaz_turns.specs.Life.{Run, Life, last_run, more_runs, first_run, printed_since, FollowOn, Follows, BeginsEmpty, AllKeep, IsAcked, GoesOn, course_of}

-- so areas that mirror one gazetteer mirror the same
same_by_one : (a b : Area → List ℕ) (gaz : Gazetteer) → Mirrors a gaz → Mirrors b gaz → SameMirror a b
same_by_one a b gaz m n other =
    (λ k. subst (Mirrors b) (one_mirror a gaz other m k) n, λ k. subst (Mirrors a) (one_mirror b gaz other n k) m)

-- what the next run finds
record Found (course : Course) (text : List ℕ) (entry : StationView) : Type 0 where
  next : Gazetteer
  acked : IsAcked course text next
  holds : AllHold entry next

since : (entry : StationView) (whole text : List ℕ) → whole ≡ entry.printed ++ text → printed_since entry whole ≡ text
since entry whole text is = drop-appended entry.printed whole text is

-- at a stop
found_at : (course : Course) (run_entry entry : StationView) (c : Outcome) (text : List ℕ) → IsStop course run_entry c → text ≡ printed_since run_entry c.text
    → ((d : Outcome) → Leaves entry d → SameMirror d.areas c.areas) → Found course text entry
found_at course run_entry entry c text stop printed same = record {
  next = stop.holds.gaz;
  acked = subst (λ (t : List ℕ). IsAcked course t stop.holds.gaz) (sym (printed ∙ since run_entry c.text stop.text stop.printed)) stop.holds.one_of;
  holds = λ d leaves. (same d leaves stop.holds.gaz).1 stop.holds.content;
}

module _ {S : Type 0} (view : S → StationView)
    (counts : (s : S) (t : ℕ) (c : Outcome) → IsTrue (view s).is_told → t ≤ (view s).moment → Leaves (view s) c → (view s).left_since t c)
    (stay : (s : S) (a : Area) → IsTrue (view s).is_told → (view s).may_leave a ((view s).bytes a))
  where
    found : (run : Run S) (next : S) (follow : FollowOn view run next) (course : Course) → IsTrue (view run.exit).is_told → Keeps course (view run.entry) (view run.exit) run.status → Found course follow.text (view next)
    found run next follow course told keeps =
        ⊎_elim
        (λ a. found_at course (view run.entry) (view next) a.outcome follow.text (keeps.stops.each a.outcome a.left) a.printed
        (λ d leaves. same_areas d.areas a.outcome.areas (λ area. a.areas area (d.areas area) (leaves.areas area))))
        (λ e. let o : Outcome = record { areas = (view run.exit).bytes; text = (view run.exit).printed } in
        let now : Leaves (view run.exit) o = record { areas = λ a. stay run.exit a told; text = refl } in
        found_at course (view run.entry) (view next) o follow.text (keeps.stops.each o (counts run.exit (view run.entry).moment o told keeps.stops.later now)) e.printed
        (λ d leaves.
        let then_exit : Outcome = record { areas = d.areas; text = (view run.exit).printed } in
        let leaves_exit : Leaves (view run.exit) then_exit = record { areas = λ a. e.areas a (d.areas a) (leaves.areas a); text = refl } in
        same_by_one d.areas (view run.exit).bytes (last_of course) (keeps.ended e.well then_exit leaves_exit) (keeps.ended e.well o now)))
        follow.how

    goes : (life : Life S) (follows : Follows view life) (gaz : Gazetteer) → AllHold (view (first_run life).entry) gaz → AllKeep view life → GoesOn view gaz life follows
    goes (last_run run) follows gaz holds keep = (holds, keep.1 gaz holds)
    goes (more_runs run life) follows gaz holds keep =
        let kept = keep.0.1 gaz holds in
        let f = found run (first_run life).entry follows.0 (course_of gaz kept.turns) keep.0.0 kept.keeps in
        (holds, kept, f.next, f.acked, goes life follows.1 f.next f.holds keep.1)

    pub live : (life : Life S) (follows : Follows view life) → BeginsEmpty view life → AllKeep view life → GoesOn view empty life follows
    live life follows begins keep = goes life follows empty
        (λ c leaves. empty_mirror c.areas (λ area. begins area (c.areas area) (leaves.areas area))) keep
