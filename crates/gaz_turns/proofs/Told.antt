-- One request: what its stops leave, from what storing and telling leave.
use Rattle.std.proofs.Common.{◌≡◌, inl, inr, ⊎_elim, ℕ, Bool, true, false, true≢false, IsTrue, List, [], append-nil, arith, refl, sym, ◌∙◌, ap, subst, Some, None}
use Rattle.std.specs.Prelude.{if◌then◌else◌, Result, Ok, Err, OnOk}
use Rattle.std.specs.Io.KnownBytes.{append_known}
use Rattle.gaz_outside.specs.Outside.{Prints, printed_of}
use Rattle.gaz_outside.specs.declared.station.Area.{Area}
use Rattle.gaz_outside.specs.Station.{StationView, Outcome, Leaves, LeavesOnly, LeavesFront, HasFrontOf}
use Rattle.gaz_outside.proofs.Runs.{begins, leaves_weaker}
use Rattle.gaz_plain.specs.Gazetteer.{Gazetteer}
use Rattle.gaz_reply.specs.declared.reply.Done.{Done}
use Rattle.gaz_reply.specs.Reply.{Reply, reply_text, done}
use Rattle.gaz_reply.proofs.Pieces.{append_none}
use Rattle.gaz_rows.specs.Content.{Mirrors}
use Rattle.gaz_rows.specs.Holds.{AllHold, IsOldOrNext}
use Rattle.gaz_open.proofs.Mirrored.{same_areas}
use Rattle.gaz_turns.specs.Turns.{State, Answer, made, same_state}
use Rattle.gaz_turns.specs.Steps.{AreasKept, IsCutIn, IsBeforeOrAfter, IsGiven}
use Rattle.gaz_turns.proofs.Kept.{goes_by}

-- Inside the telling, the areas have the gazetteer that all outcomes had when it began, and a front of the reply is printed.
told_front : (gaz : Gazetteer) (piece : List ℕ) (v : StationView) (c : Outcome) → AllHold v gaz → LeavesFront piece v v c → Mirrors c.areas gaz × HasFrontOf piece v.printed c.text
told_front gaz piece v c holds front = (holds (record { areas = c.areas; text = v.printed }) (record { areas = front.areas; text = refl }), front.text)

-- where the areas stay, all outcomes have the gazetteer that they had
pub still_holds : (gaz : Gazetteer) (old new : StationView) → IsTrue old.is_told → AreasKept old new → AllHold old gaz → AllHold new gaz
still_holds gaz old new told stay holds c leaves =
    holds (record { areas = c.areas; text = old.printed }) (record { areas = λ a. (stay.each told a).outcomes (c.areas a) (leaves.areas a); text = refl })

-- and they mirror as they read what they mirrored
pub still_mirrors : (gaz : Gazetteer) (old new : StationView) → IsTrue old.is_told → AreasKept old new → Mirrors old.bytes gaz → Mirrors new.bytes gaz
still_mirrors gaz old new told stay here = (same_areas old.bytes new.bytes (λ a. sym (stay.each told a).bytes) gaz).0 here

-- where all outcomes have the gazetteer, the areas as they read mirror it
pub mirrors_now : (v : StationView) (gaz : Gazetteer) → ((a : Area) → v.may_leave a (v.bytes a)) → AllHold v gaz → Mirrors v.bytes gaz
mirrors_now v gaz stay holds = holds (record { areas = v.bytes; text = v.printed }) (record { areas = stay; text = refl })

-- a reply to a request that changes nothing
pub told_stops : (state : State) (answer : Answer) (old new : StationView) → ((c : Outcome) → old.left_since old.moment c → Leaves old c) → IsTrue old.is_told
    → answer.state.gaz ≡ state.gaz → AllHold old state.gaz → IsCutIn (reply_text answer.reply) old new → LeavesOnly old new (IsBeforeOrAfter state answer old)
told_stops state answer old new only told same holds cut =
    goes_by old old new (IsBeforeOrAfter state answer old) (LeavesFront (reply_text answer.reply) old old)
    (begins old (IsBeforeOrAfter state answer old) (λ c left. let now = only c left in inl (holds c now, now.text)))
    (cut told)
    (λ c front. inr (told_front answer.state.gaz (reply_text answer.reply) old c (subst (λ (gaz : Gazetteer). AllHold old gaz) (sym same) holds) front))

-- a change that is stored, or whose storing failed, with nothing told yet
pub untold_stops : (state : State) (answer : Answer) (old mid : StationView) → LeavesOnly old mid (IsOldOrNext state.gaz answer.state.gaz old) → LeavesOnly old mid (IsBeforeOrAfter state answer old)
untold_stops state answer old mid stores = leaves_weaker old mid (IsOldOrNext state.gaz answer.state.gaz old) (IsBeforeOrAfter state answer old) was_or_is stores
  where
    untold : (c : Outcome) → c.text ≡ old.printed → HasFrontOf (reply_text answer.reply) old.printed c.text
    untold c e = (0, omega arith, e ∙ sym (append-nil old.printed))

    was_or_is : (c : Outcome) → IsOldOrNext state.gaz answer.state.gaz old c → IsBeforeOrAfter state answer old c
    was_or_is c p = ⊎_elim (λ was. inl (was, p.1)) (λ now. inr (now, untold c p.1)) p.0

-- a change that is stored first, and then told
pub stored_stops : (state : State) (answer : Answer) (old mid new : StationView) → IsTrue mid.is_told → mid.printed ≡ old.printed
    → LeavesOnly old mid (IsOldOrNext state.gaz answer.state.gaz old) → AllHold mid answer.state.gaz → IsCutIn (reply_text answer.reply) mid new → LeavesOnly old new (IsBeforeOrAfter state answer old)
stored_stops state answer old mid new told same stores holds cut =
    goes_by old mid new (IsBeforeOrAfter state answer old) (LeavesFront (reply_text answer.reply) mid mid)
    (untold_stops state answer old mid stores)
    (cut told)
    (λ c front. let there = told_front answer.state.gaz (reply_text answer.reply) mid c holds front in
    inr (there.0, subst (λ (text : List ℕ). HasFrontOf (reply_text answer.reply) text c.text) same there.1))

-- what holds where it is well
pub on_ok : {A E : Type 0} (P : Type 0) (result : Result A E) → P → OnOk result P
on_ok P (Ok x) p = p
on_ok P (Err x) p = tt

-- a reply that leaves the state
pub told_given : {A E : Type 0} (state : State) (reply : Reply) (old new : StationView) (result : Result A E) → ((c : Outcome) → IsTrue old.is_told → old.left_since old.moment c → Leaves old c)
    → Prints (reply_text reply) old new result → IsCutIn (reply_text reply) old new → AreasKept old new → IsGiven (same_state state reply) state old new result
told_given state reply old new result only printed cut stay = record {
  printed = printed;
  moments = λ told holds. told_stops state (same_state state reply) old new (λ c left. only c told left) told refl holds cut;
  holds = on_ok _ result (λ told holds. still_holds state.gaz old new told stay holds);
  mirrors = on_ok _ result (λ told here. still_mirrors state.gaz old new told stay here);
  stays = λ none. stay;
}

same_if : (a b : Bool) (p q : List ℕ) → b ≡ a → (IsTrue a → q ≡ p) → (if b then Some q else None) ≡ (if a then Some p else None)
same_if true b p q is same = ap (λ (x : Bool). if x then Some q else None) is ∙ ap Some (same refl)
same_if false b p q is same = ap (λ (x : Bool). if x then Some q else None) is

pub same_printed : (old mid : StationView) → mid.is_told ≡ old.is_told → (IsTrue old.is_told → mid.printed ≡ old.printed) → printed_of mid ≡ printed_of old
unfolding printed_of
same_printed old mid told same = same_if old.is_told mid.is_told old.printed mid.printed told same

pub prints_from : {A E : Type 0} (piece : List ℕ) (old mid new : StationView) (result : Result A E) → printed_of mid ≡ printed_of old → Prints piece mid new result → Prints piece old new result
prints_from piece old mid new (Ok x) e p = p ∙ ap (λ o. append_known o piece) e
prints_from piece old mid new (Err x) e p = (p.0, p.1, p.2 ∙ ap (λ o. append_known o p.0) e)

module _ {A E : Type 0} (state : State) (change : Done) (gaz : Gazetteer) (old mid : StationView) (same : mid.is_told ≡ old.is_told)
    (printed : IsTrue old.is_told → mid.printed ≡ old.printed)
    (stores : IsTrue old.is_told → AllHold old state.gaz → LeavesOnly old mid (IsOldOrNext state.gaz gaz old))
  where
    -- a change that is stored, and then told
    pub stored_given : (new : StationView) (result : Result A E) → ((a : Area) → IsTrue mid.is_told → mid.may_leave a (mid.bytes a)) → (IsTrue old.is_told → AllHold old state.gaz → AllHold mid gaz) → (IsTrue old.is_told → Mirrors old.bytes state.gaz → AllHold old state.gaz)
        → Prints (reply_text (done change)) mid new result → IsCutIn (reply_text (done change)) mid new → AreasKept mid new → IsGiven (made change gaz) state old new result
    stored_given new result here holds all prints cut stay =
        let still : IsTrue old.is_told → IsTrue mid.is_told = λ told. subst (λ (b : Bool). IsTrue b) (sym same) told in
        record {
          printed = prints_from (reply_text (done change)) old mid new result (same_printed old mid same printed) prints;
          moments = λ told first. stored_stops state (made change gaz) old mid new (still told) (printed told) (stores told first) (holds told first) cut;
          holds = on_ok _ result (λ told first. still_holds gaz mid new (still told) stay (holds told first));
          mirrors = on_ok _ result (λ told first. still_mirrors gaz mid new (still told) stay (mirrors_now mid gaz (λ a. here a (still told)) (holds told (all told first))));
          stays = λ none. absurd (true≢false none);
        }

    -- a change that couldn't be stored
    pub unstored_given : (why : E) → IsGiven {A = A} {E = E} (made change gaz) state old mid (Err why)
    unstored_given why = record {
      printed = ([], (reply_text (done change), refl), same_printed old mid same printed ∙ append_none (printed_of old));
      moments = λ told first. untold_stops state (made change gaz) old mid (stores told first);
      holds = tt;
      mirrors = tt;
      stays = λ none. absurd (true≢false none);
    }
