-- A run that is under way, and one request more.
use Rattle.std.proofs.Common.{◌≡◌, ◌≢◌, ◌⊎◌, inl, inr, ⊎_elim, ℕ, zero, suc, ◌+◌, ◌≤◌, Bool, true, false, cond, List, [], ◌∷◌, ◌++◌, take, drop, length, refl, sym, ◌∙◌, ap, arith, subst, append_assoc, append-nil, Some, length-append}
use Rattle.std.proofs.lemmas.List.{take-append-le, take_all}
use Rattle.std.proofs.Math.Seq.{take-append-add}
use Rattle.std.proofs.Transfers.{drop-appended}
use Rattle.std.specs.Prelude.{slice_get}
use Rattle.std.specs.List.{AllByRecursion}
use Rattle.gaz_outside.specs.declared.station.Area.{Area}
use Rattle.gaz_outside.specs.Station.{StationView, Outcome, Leaves, LeavesOnly}
use Rattle.gaz_outside.proofs.Runs.{begins, goes_far, leaves_weaker}
use Rattle.gaz_plain.specs.Gazetteer.{Gazetteer}
use Rattle.gaz_reply.specs.Reply.{acks, reply_text, is_change}
use Rattle.gaz_rows.specs.Content.{Mirrors}
use Rattle.gaz_rows.specs.Holds.{AllHold, IsStill}
use Rattle.gaz_open.proofs.Mirrored.{mirrored_is}
use Rattle.gaz_turns.specs.Head.{Course, IsFront, HoldsAcked, IsStop, IsStored, Keeps}
use Rattle.gaz_turns.specs.Turns.{State, Turn, answer_at, replies, gazetteers, state_after, after}
use Rattle.gaz_turns.specs.Steps.{IsBeforeOrAfter}
use Rattle.gaz_turns.proofs.Stored.{AreStored, read_stored}
use Rattle.gaz_turns.proofs.Replied.{IsMarked, answer_marked}
use Rattle.gaz_turns.proofs.Tallies.{Tally, no_turn, one_turn, replies_on, gazetteers_on, front_acks, state_more, same_gaz, if_change, get_at, get_more}

abbrev course_of : State → List Turn → Course
course_of first turns = record { first = first; turns = turns }

-- These turns were answered, and this is the state now.
pub record IsUnderWay (first : State) (entry now : StationView) (state : State) (turns : List Turn) : Type 0 where
  pub ends : state_after first turns ≡ state
  pub printed : now.printed ≡ entry.printed ++ replies first turns
  pub stops : LeavesOnly entry now (IsStop (record { first = first; turns = turns }) entry)
  pub holds : AllHold now state.gaz
  pub tally : Tally first turns state

-- an outcome of now
abbrev as_it_is : StationView → Outcome
as_it_is v = record { areas = v.bytes; text = v.printed }

pub stored_now : (v : StationView) (gaz : Gazetteer) → ((a : Area) → v.may_leave a (v.bytes a)) → AllHold v gaz → AreStored gaz
stored_now v gaz stay holds =
    let now : Leaves v (as_it_is v) = record { areas = stay; text = refl } in
    read_stored gaz (mirrored_is v.bytes gaz (holds (as_it_is v) now))

acks_of : (first : State) (turns : List Turn) (state : State) (tally : Tally first turns state) → acks (replies first turns) ≡ length tally.earlier
acks_of first turns state tally =
    let all = tally.acked [] in
    let none : acks [] ≡ 0 = refl in
    ap acks (sym (append-nil (replies first turns))) ∙ all ∙ sum_none (length tally.earlier) (acks []) none
  where
    sum_none : (a b : ℕ) → b ≡ 0 → a + b ≡ a
    sum_none a b is = omega (arith, is)

-- a front of a front, with more behind
front_more : (text xs ys : List ℕ) → IsFront text xs → IsFront text (xs ++ ys)
front_more text xs ys front =
    let sum = length-append xs ys in
    (front.0, omega (arith, front.1, sum), front.2 ∙ sym (take-append-le front.0 xs ys front.1))

front_into : (xs ys : List ℕ) (n : ℕ) → n ≤ length ys → IsFront (xs ++ take n ys) (xs ++ ys)
front_into xs ys n le =
    let sum = length-append xs ys in
    (length xs + n, omega (arith, le, sum), sym (take-append-add xs ys n))

pub front_whole : (xs : List ℕ) → IsFront xs xs
front_whole xs = (length xs, omega arith, sym (take_all (length xs) xs (omega arith)))

-- before the first request
pub starts : (first : State) (v : StationView) → ((c : Outcome) → v.left_since v.moment c → Leaves v c) → AllHold v first.gaz → IsUnderWay first v v first []
starts first v only holds = record {
  ends = refl;
  printed = sym (append-nil v.printed);
  stops = begins v (IsStop (record { first = first; turns = [] }) v) (λ c left.
      let leaves = only c left in
      record {
        text = [];
        printed = leaves.text ∙ sym (append-nil v.printed);
        front = (0, omega arith, refl);
        holds = record { gaz = first.gaz; content = holds c leaves; one_of = inl refl };
      });
  holds = holds;
  tally = no_turn first;
}

module _ (first : State) (turns : List Turn) (turn : Turn) (state : State)
    (ends : state_after first turns ≡ state) (marked : IsMarked (answer_at state turn).reply) (tally : Tally first turns state) where
  -- a stop stays one
  stop_more : (entry : StationView) (c : Outcome) → IsStop (course_of first turns) entry c → IsStop (course_of first (turns ++ turn ∷ [])) entry c
  stop_more entry c stop =
      let on = gazetteers_on first turns turn state ends marked in
      let more : (k : ℕ) → after k first turns ≡ Some stop.holds.gaz → after k first (turns ++ turn ∷ []) ≡ Some stop.holds.gaz =
      λ k is. ap (λ (l : List Gazetteer). slice_get l k) on ∙ get_more (gazetteers first turns) (if_change (answer_at state turn)) k stop.holds.gaz is in
      record {
        text = stop.text;
        printed = stop.printed;
        front = subst (λ (l : List ℕ). IsFront stop.text l) (sym (replies_on first turns turn state ends marked))
            (front_more stop.text (replies first turns) (reply_text (answer_at state turn).reply) stop.front);
        holds = record {
          gaz = stop.holds.gaz;
          content = stop.holds.content;
          one_of = ⊎_elim (λ is. inl (more (acks stop.text) is)) (λ is. inr (more (suc (acks stop.text)) is)) stop.holds.one_of;
        };
      }

  -- the gazetteer before the request, in the longer run
  old_at : after (length tally.earlier) first (turns ++ turn ∷ []) ≡ Some state.gaz
  old_at =
      ap (λ (l : List Gazetteer). slice_get l (length tally.earlier)) (gazetteers_on first turns turn state ends marked)
      ∙ get_more (gazetteers first turns) (if_change (answer_at state turn)) (length tally.earlier) state.gaz
      (ap (λ (l : List Gazetteer). slice_get l (length tally.earlier)) tally.all ∙ get_at tally.earlier state.gaz [])

  -- the one after a change
  new_at : is_change (answer_at state turn).reply ≡ true → after (suc (length tally.earlier)) first (turns ++ turn ∷ []) ≡ Some (answer_at state turn).state.gaz
  new_at change =
      let a = answer_at state turn in
      let xs = tally.earlier ++ state.gaz ∷ [] in
      let count : length xs ≡ suc (length tally.earlier) = length_one tally.earlier state.gaz in
      let is : if_change a ≡ a.state.gaz ∷ [] = ap (λ (b : Bool). cond b (a.state.gaz ∷ []) []) change in
      ap (λ (l : List Gazetteer). slice_get l (suc (length tally.earlier))) (gazetteers_on first turns turn state ends marked ∙ ap (λ (l : List Gazetteer). l ++ if_change a) tally.all ∙ ap (λ (l : List Gazetteer). xs ++ l) is)
      ∙ ap (λ (k : ℕ). slice_get (xs ++ a.state.gaz ∷ []) k) (sym count) ∙ get_at xs a.state.gaz []
    where
      length_one : (xs : List Gazetteer) (x : Gazetteer) → length (xs ++ x ∷ []) ≡ suc (length xs)
      length_one [] x = refl
      length_one (y ∷ xs) x = ap suc (length_one xs x)

  -- with a front of the reply printed, the new gazetteer is that after what is acknowledged, or after one more
  new_one_of : (n : ℕ) (b : Bool) → is_change (answer_at state turn).reply ≡ b
      → (after (acks (replies first turns ++ take n (reply_text (answer_at state turn).reply))) first (turns ++ turn ∷ []) ≡ Some (answer_at state turn).state.gaz)
      ⊎ (after (suc (acks (replies first turns ++ take n (reply_text (answer_at state turn).reply)))) first (turns ++ turn ∷ []) ≡ Some (answer_at state turn).state.gaz)
  new_one_of n false is =
      let a = answer_at state turn in
      let t = take n (reply_text a.reply) in
      let all = tally.acked t in
      let few : acks t ≤ 0 = subst (λ (b : Bool). acks t ≤ cond b 1 0) is (front_acks first turns turn state ends marked n) in
      let count : acks (replies first turns ++ t) ≡ length tally.earlier = omega (arith, all, few) in
      inl (ap (λ (k : ℕ). after k first (turns ++ turn ∷ [])) count ∙ old_at ∙ ap Some (sym (same_gaz state turn is)))
  new_one_of n true is =
      let a = answer_at state turn in
      let t = take n (reply_text a.reply) in
      let all = tally.acked t in
      let few : acks t ≤ 1 = subst (λ (b : Bool). acks t ≤ cond b 1 0) is (front_acks first turns turn state ends marked n) in
      ⊎_elim
      (λ none. let count : suc (acks (replies first turns ++ t)) ≡ suc (length tally.earlier) = omega (arith, all, none) in
      inr (ap (λ (k : ℕ). after k first (turns ++ turn ∷ [])) count ∙ new_at is))
      (λ one. let count : acks (replies first turns ++ t) ≡ suc (length tally.earlier) = omega (arith, all, one) in
      inl (ap (λ (k : ℕ). after k first (turns ++ turn ∷ [])) count ∙ new_at is))
      (none_or_one (acks t) few)
    where
      none_or_one : (k : ℕ) → k ≤ 1 → (k ≡ 0) ⊎ (k ≡ 1)
      none_or_one zero le = inl refl
      none_or_one (suc zero) le = inr refl
      none_or_one (suc (suc k)) le = absurd (omega (arith, le))

  -- a stop in the request is a stop of the longer run
  pub stop_in : (entry mid : StationView) (c : Outcome) → mid.printed ≡ entry.printed ++ replies first turns → IsBeforeOrAfter state (answer_at state turn) mid c → IsStop (course_of first (turns ++ turn ∷ [])) entry c
  stop_in entry mid c printed either =
      let a = answer_at state turn in
      let done = replies first turns in
      let reply = reply_text a.reply in
      let whole = replies_on first turns turn state ends marked in
      ⊎_elim
      (λ old. record {
        text = done;
        printed = old.1 ∙ printed;
        front = subst (λ (l : List ℕ). IsFront done l) (sym whole) (front_more done done reply (front_whole done));
        holds = record {
          gaz = state.gaz;
          content = old.0;
          one_of = inl (ap (λ (k : ℕ). after k first (turns ++ turn ∷ [])) (acks_of first turns state tally) ∙ old_at);
        };
      })
      (λ new. let n = new.1.0 in record {
        text = done ++ take n reply;
        printed = new.1.2 ∙ ap (λ (l : List ℕ). l ++ take n reply) printed ∙ append_assoc entry.printed done (take n reply);
        front = subst (λ (l : List ℕ). IsFront (done ++ take n reply) l) (sym whole) (front_into done reply n new.1.1);
        holds = record { gaz = a.state.gaz; content = new.0; one_of = new_one_of n (is_change a.reply) refl };
      })
      either

module _ (first : State) (entry mid new : StationView) (state : State) (turns : List Turn) (turn : Turn) (run : IsUnderWay first entry mid state turns)
    (stay : (a : Area) → mid.may_leave a (mid.bytes a)) (moments : LeavesOnly mid new (IsBeforeOrAfter state (answer_at state turn) mid))
  where
    marked : IsMarked (answer_at state turn).reply
    marked = answer_marked turn.verdict state turn.files turn.line (stored_now mid state.gaz stay run.holds)

    -- the stops after one request more
    stops_on : LeavesOnly entry new (IsStop (course_of first (turns ++ turn ∷ [])) entry)
    stops_on =
        goes_far entry mid new (IsStop (course_of first (turns ++ turn ∷ [])) entry) (IsBeforeOrAfter state (answer_at state turn) mid)
        (leaves_weaker entry mid (IsStop (course_of first turns) entry) (IsStop (course_of first (turns ++ turn ∷ [])) entry)
        (λ c stop. stop_more first turns turn state run.ends marked run.tally entry c stop) run.stops)
        moments
        (λ c either. stop_in first turns turn state run.ends marked run.tally entry mid c run.printed either)

    -- one request more was answered
    pub goes_on : (now : State) → new.printed ≡ mid.printed ++ reply_text (answer_at state turn).reply → AllHold new (answer_at state turn).state.gaz → now ≡ (answer_at state turn).state
        → IsUnderWay first entry new now (turns ++ turn ∷ [])
    goes_on now printed holds is =
        let a = answer_at state turn in
        record {
          ends = state_more first turns turn ∙ ap (λ (s : State). (answer_at s turn).state) run.ends ∙ sym is;
          printed = printed ∙ ap (λ (l : List ℕ). l ++ reply_text a.reply) run.printed ∙ append_assoc entry.printed (replies first turns) (reply_text a.reply)
              ∙ ap (λ (l : List ℕ). entry.printed ++ l) (sym (replies_on first turns turn state run.ends marked));
          stops = stops_on;
          holds = subst (λ (s : State). AllHold new s.gaz) (sym is) holds;
          tally = subst (λ (s : State). Tally first (turns ++ turn ∷ []) s) (sym is) (one_turn first turns turn state run.ends marked run.tally);
        }

    -- the station failed in this request
    pub ends_cut : ((a : Area) → new.may_leave a (new.bytes a)) → ((t : ℕ) (c : Outcome) → t ≤ new.moment → Leaves new c → new.left_since t c)
        → Keeps (course_of first (turns ++ turn ∷ [])) entry new 3
    ends_cut stay_new counts =
        let here : Leaves new (as_it_is new) = record { areas = stay_new; text = refl } in
        let stop = stops_on.each (as_it_is new) (counts entry.moment (as_it_is new) stops_on.later here) in
        record {
          stops = stops_on;
          text = stop.text;
          printed = stop.printed;
          front = stop.front;
          whole = λ other. absurd (other refl);
          ended = λ other. absurd (other refl);
          cut = λ is c leaves.
              let s = stops_on.each c (counts entry.moment c stops_on.later leaves) in
              let same : s.text ≡ stop.text = sym (drop-appended entry.printed c.text s.text s.printed) ∙ ap (drop (length entry.printed)) leaves.text ∙ drop-appended entry.printed new.printed stop.text stop.printed in
              subst (λ (t : List ℕ). HoldsAcked (course_of first (turns ++ turn ∷ [])) t c.areas) same s.holds;
        }

-- The run ends between two requests, with any status that doesn't say that the station failed.
pub ends_well : (first : State) (entry now : StationView) (state : State) (turns : List Turn) (status : ℕ) → status ≢ 3 → IsUnderWay first entry now state turns → Keeps (course_of first turns) entry now status
ends_well first entry now state turns status well run = record {
  stops = run.stops;
  text = replies first turns;
  printed = run.printed;
  front = front_whole (replies first turns);
  whole = λ other. refl;
  ended = λ other c leaves. subst (λ (s : State). Mirrors c.areas s.gaz) (sym run.ends) (run.holds c leaves);
  cut = λ is. absurd (well is);
}

-- the first gazetteer of a run
first_at : (first : State) (turns : List Turn) → after 0 first turns ≡ Some first.gaz
first_at first [] = refl
first_at first (turn ∷ turns) = either (is_change (answer_at first turn).reply) refl (first_at (answer_at first turn).state turns)
  where
    either : (b : Bool) → is_change (answer_at first turn).reply ≡ b → after 0 (answer_at first turn).state turns ≡ Some (answer_at first turn).state.gaz
        → slice_get (cond b (first.gaz ∷ gazetteers (answer_at first turn).state turns) (gazetteers (answer_at first turn).state turns)) 0 ≡ Some first.gaz
    either true is later = refl
    either false is later = later ∙ ap Some (same_gaz first turn is)

module _ (gaz : Gazetteer) (entry : StationView) where
  -- before any request, each outcome is a stop of any run
  still_stop : (turns : List Turn) (c : Outcome) → IsStill gaz entry c → IsStop (course_of (record { gaz = gaz }) turns) entry c
  still_stop turns c is = record {
    text = [];
    printed = is.1 ∙ sym (append-nil entry.printed);
    front = (0, omega arith, refl);
    holds = record { gaz = gaz; content = is.0; one_of = inl (first_at (record { gaz = gaz }) turns) };
  }

  -- a run that ends before its first request
  pub ends_early : (exit : StationView) (status : ℕ) → LeavesOnly entry exit (IsStill gaz entry) → exit.printed ≡ entry.printed
      → ((t : ℕ) (c : Outcome) → t ≤ exit.moment → Leaves exit c → exit.left_since t c)
      → Keeps (course_of (record { gaz = gaz }) []) entry exit status
  ends_early exit status still printed counts = record {
    stops = leaves_weaker entry exit (IsStill gaz entry) (IsStop (course_of (record { gaz = gaz }) []) entry) (λ c is. still_stop [] c is) still;
    text = [];
    printed = printed ∙ sym (append-nil entry.printed);
    front = (0, omega arith, refl);
    whole = λ well. refl;
    ended = λ well c leaves. (still.each c (counts entry.moment c still.later leaves)).0;
    cut = λ is c leaves. (record { gaz = gaz; content = (still.each c (counts entry.moment c still.later leaves)).0; one_of = inl refl });
  }

  -- a run that begins a little later
  pub from_open : (mid exit : StationView) (turns : List Turn) (status : ℕ) → LeavesOnly entry mid (IsStill gaz entry) → mid.printed ≡ entry.printed
      → Keeps (course_of (record { gaz = gaz }) turns) mid exit status → Keeps (course_of (record { gaz = gaz }) turns) entry exit status
  from_open mid exit turns status still printed keeps =
      let course = course_of (record { gaz = gaz }) turns in
      record {
        stops = goes_far entry mid exit (IsStop course entry) (IsStop course mid)
            (leaves_weaker entry mid (IsStill gaz entry) (IsStop course entry) (λ c is. still_stop turns c is) still)
            keeps.stops
            (λ c stop. record { text = stop.text; printed = stop.printed ∙ ap (λ (l : List ℕ). l ++ stop.text) printed; front = stop.front; holds = stop.holds });
        text = keeps.text;
        printed = keeps.printed ∙ ap (λ (l : List ℕ). l ++ keeps.text) printed;
        front = keeps.front;
        whole = keeps.whole;
        ended = keeps.ended;
        cut = keeps.cut;
      }
