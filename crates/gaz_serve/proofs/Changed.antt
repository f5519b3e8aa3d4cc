-- A load or a day, as it is met and told, from what it came to.
use Rattle.std.proofs.Common.{◌≡◌, ◌≢◌, true≢false, inl, inr, ⊎_elim, List, [], Bool, true, false, IsTrue, refl, sym, subst, ap, ◌∙◌, Option, Some, None}
use Rattle.std.specs.Prelude.{◌⊎◌, Result, Ok, Err, IfOk, IfErr, IfSome, IsOk, OnOk}
use Rattle.gaz_outside.specs.declared.station.Area.{Area}
use Rattle.gaz_outside.specs.Outside.{ShelfView, printed_of}
use Rattle.gaz_outside.specs.Station.{StationView, Outcome, Leaves, LeavesOnly}
use Rattle.gaz_outside.proofs.Runs.{leaves_weaker}
use Rattle.gaz_num.specs.Refusal as refusal
use Rattle.gaz_num.specs.Refusal.{Refusal}
use Rattle.gaz_pages.specs.Keeps.{OnlyReads}
use Rattle.gaz_plain.specs.Gazetteer.{Gazetteer}
use Rattle.gaz_plain.specs.Load.{Files}
use Rattle.gaz_reply.specs.declared.reply.Done.{Done}
use Rattle.gaz_reply.specs.Reply.{done, refused, reply_text}
use Rattle.gaz_reply.proofs.Pieces.{append_none}
use Rattle.gaz_rows.specs.Content.{Mirrors}
use Rattle.gaz_rows.specs.Holds.{AllHold, IsOldOrNext}
use Rattle.gaz_rows.specs.declared.fault.ChangeFault.{ChangeFault}
use Rattle.gaz_rows.specs.declared.fault.ChangeFault.TheVariants.{NotLoaded, Sequence, Absent, Shelf, TooLong, Malformed, Full, Station, Damaged, Memory}
use Rattle.gaz_change.specs.Change.{Blamed, BlamesReached, IsReached, Gives, IsUnblamed, Leaves as LeavesChange, IsSound as IsChangeSound}
use Rattle.gaz_day.specs.Order.{IsInOrder}
use Rattle.gaz_num.specs.declared.words.FileName.{FileName}
use Rattle.gaz_words.specs.Grammar.{RequestAsked}
use Rattle.gaz_ask.specs.Asked.{OverMirror}
use Rattle.gaz_turns.specs.Turns.{State, changed, plain, memory, shelf, answer_to, opens, MayStarve}
use Rattle.gaz_turns.specs.Steps.{AreasKept, IsGiven}
use Rattle.gaz_turns.proofs.Kept.{kept_read}
use Rattle.gaz_turns.proofs.Told.{still_mirrors, mirrors_now, same_printed, prints_from, told_given, stored_given, unstored_given, on_ok}
use Rattle.gaz_serve.specs.declared.step.EndFault.{EndFault}
use Rattle.gaz_serve.specs.declared.step.EndFault.TheVariants as end
use Rattle.gaz_serve.specs.Change.{told_by}
use Rattle.gaz_serve.specs.Step.{IsSound, Meets, Replies, TellsShelf}
use Rattle.gaz_serve.proofs.Behind.{told_behind, untold_behind}

-- the gazetteer of an answer, or another
abbrev ok_or : Result Gazetteer Refusal → Gazetteer → Gazetteer
ok_or (Ok gaz) other = gaz
ok_or (Err why) other = other

ok_same : (r : Result Gazetteer Refusal) (x y : Gazetteer) → r ≡ Ok x → r ≡ Ok y → x ≡ y
ok_same r x y one two = ap (λ (r : Result Gazetteer Refusal). ok_or r x) (sym one ∙ two)

abbrev is_well : Result Gazetteer Refusal → Bool
is_well (Ok gaz) = true
is_well (Err why) = false

not_ok : (r : Result Gazetteer Refusal) (why : Refusal) → r ≡ Err why → IsOk r → ⊥
not_ok (Ok gaz) why is well = true≢false (ap is_well is)
not_ok (Err other) why is well = absurd (cc well)

-- what holds of the files that are told
pub over_known : {X : Type 0} (known : Option Files) (P : X → Files → Type 0) → ((x : X) → IfSome known (P x)) → IfSome known (λ files. (x : X) → P x files)
over_known None P each = tt
over_known (Some files) P each = each

pub four_known : {A B C D E : Files → Type 0} (known : Option Files) → IfSome known A → IfSome known B → IfSome known C → IfSome known D → ((files : Files) → A files → B files → C files → D files → E files) → IfSome known E
four_known None a b c d f = tt
four_known (Some files) a b c d f = f files a b c d

pub stops_known : (R T : Type 0) (known : Option Files) (defined : Files → Result Gazetteer Refusal) (came : Result Unit ChangeFault) → T → IfErr came (λ fault. fault ≡ Station → R ⊎ (T → IfSome known (λ files. IsOk (defined files))))
    → IfSome known (λ files. IfErr came (λ fault. fault ≡ Station → R ⊎ IsOk (defined files)))
stops_known R T None defined came t stops = tt
stops_known R T (Some files) defined (Ok u) t stops = tt
stops_known R T (Some files) defined (Err fault) t stops = λ is. ⊎_elim (λ reads. inl reads) (λ well. inr (well t)) (stops is)

pub ok_over : (v : StationView) (result : Result (Unit {0}) EndFault) (Q : Gazetteer → Type 0) → (IsTrue v.is_told → (gaz : Gazetteer) → Mirrors v.bytes gaz → OnOk result (Q gaz)) → OnOk result (OverMirror v Q)
ok_over v (Ok u) Q each = each
ok_over v (Err why) Q each = tt

-- the files that a day reached, where they are named otherwise
pub blames_as : (files : Files) (names other : List FileName) (came : Result Unit ChangeFault) → (IsInOrder came → other ≡ names) → BlamesReached files names came → BlamesReached files other came
blames_as files names other (Ok u) is reached = tt
blames_as files names other (Err NotLoaded) is reached = tt
blames_as files names other (Err (Sequence have)) is reached = tt
blames_as files names other (Err (Absent file)) is reached = tt
blames_as files names other (Err (TooLong file)) is reached = tt
blames_as files names other (Err (Malformed file line reason)) is reached = tt
blames_as files names other (Err (Full file line table)) is reached = tt
blames_as files names other (Err Station) is reached = tt
blames_as files names other (Err (Damaged page)) is reached = tt
blames_as files names other (Err Memory) is reached = tt
blames_as files names other (Err (Shelf file)) is reached = subst (λ (ns : List FileName). IsReached files file ns) (sym (is tt)) reached

module _ {S : Type 0} (view : S → StationView) (s0 s1 s2 : S) (change : Done) (before now : ShelfView) (result : Result (Unit {0}) EndFault)
    (same : (view s1).is_told ≡ (view s0).is_told) (printed : IsTrue (view s0).is_told → (view s1).printed ≡ (view s0).printed) where
  quiet : printed_of (view s1) ≡ printed_of (view s0)
  quiet = same_printed (view s0) (view s1) same printed

  -- nothing was told
  silent : (why : EndFault) → (s2 ≡ s1) × (result ≡ Err why) → IsUnblamed before now → TellsShelf before now (view s0) (view s2) result
  silent why ends unblamed =
      subst (λ (r : Result (Unit {0}) EndFault). TellsShelf before now (view s0) (view s2) r) (sym ends.1)
      (subst (λ (s : S). TellsShelf {A = Unit {0}} {E = EndFault} before now (view s0) (view s) (Err why)) (sym ends.0)
      (record { reply = refused refusal.memory; printed = ([], (reply_text (refused refusal.memory), refl), quiet ∙ append_none (printed_of (view s0))); failed = unblamed }))

  -- What is told of a change says of the shelf what is so.
  pub change_tells : (made : Result Unit ChangeFault) → Blamed before now made → OnOk made (Replies (done change) (view s1) (view s2) result)
      → IfErr made (λ fault. IfOk (told_by fault) (λ why. Replies (refused why) (view s1) (view s2) result)) → IfErr made (λ fault. IfErr (told_by fault) (λ why. (s2 ≡ s1) × (result ≡ Err why)))
      → TellsShelf before now (view s0) (view s2) result
  change_tells (Ok tt) blamed well refusing ends = record { reply = done change; printed = prints_from _ (view s0) (view s1) (view s2) result quiet well.printed; failed = blamed }
  change_tells (Err NotLoaded) blamed well refusing ends = record { reply = refused refusal.not_loaded; printed = prints_from _ (view s0) (view s1) (view s2) result quiet refusing.printed; failed = blamed }
  change_tells (Err (Sequence have)) blamed well refusing ends = record { reply = refused (refusal.sequence have); printed = prints_from _ (view s0) (view s1) (view s2) result quiet refusing.printed; failed = blamed }
  change_tells (Err (Absent file)) blamed well refusing ends = record { reply = refused (refusal.absent file); printed = prints_from _ (view s0) (view s1) (view s2) result quiet refusing.printed; failed = blamed }
  change_tells (Err (TooLong file)) blamed well refusing ends = record { reply = refused (refusal.too_long file); printed = prints_from _ (view s0) (view s1) (view s2) result quiet refusing.printed; failed = blamed }
  change_tells (Err (Malformed file line reason)) blamed well refusing ends = record { reply = refused (refusal.malformed file line reason); printed = prints_from _ (view s0) (view s1) (view s2) result quiet refusing.printed; failed = blamed }
  change_tells (Err (Full file line table)) blamed well refusing ends = record { reply = refused (refusal.full file line table); printed = prints_from _ (view s0) (view s1) (view s2) result quiet refusing.printed; failed = blamed }
  change_tells (Err (Shelf file)) blamed well refusing ends = record { reply = refused (refusal.shelf file); printed = prints_from _ (view s0) (view s1) (view s2) result quiet refusing.printed; failed = blamed }
  change_tells (Err Memory) blamed well refusing ends = record { reply = refused refusal.memory; printed = prints_from _ (view s0) (view s1) (view s2) result quiet refusing.printed; failed = blamed }
  change_tells (Err Station) blamed well refusing ends = silent end.Station ends blamed
  change_tells (Err (Damaged page)) blamed well refusing ends = silent (end.Damaged page) ends blamed

  module _ (told : IsTrue (view s0).is_told) (gaz : Gazetteer) (mirrors : Mirrors (view s0).bytes gaz) (here : (a : Area) → IsTrue (view s1).is_told → (view s1).may_leave a ((view s1).bytes a)) where
    told_then : IsTrue (view s1).is_told
    told_then = subst (λ (b : Bool). IsTrue b) (sym same) told

    after : (next : Gazetteer) → Mirrors (view s1).bytes next → AreasKept (view s1) (view s2) → (g : Gazetteer) × Mirrors (view s2).bytes g
    after next is kept = (next, still_mirrors next (view s1) (view s2) told_then kept is)

    was : OnlyReads (view s0) (view s1) → Mirrors (view s1).bytes gaz
    was reads = still_mirrors gaz (view s0) (view s1) told (kept_read (view s0) (view s1) reads) mirrors

    ended_sound : (why : EndFault) → (s2 ≡ s1) × (result ≡ Err why) → IsSound {A = Unit {0}} (Err why) → IsSound result
    ended_sound why ends sound = subst (λ (r : Result (Unit {0}) EndFault). IsSound r) (sym ends.1) sound

    ended_next : (P : Type 0) (why : EndFault) → (s2 ≡ s1) × (result ≡ Err why) → OnOk result P
    ended_next P why ends = subst (λ (r : Result (Unit {0}) EndFault). OnOk r P) (sym ends.1) tt

    -- no damage is met
    pub change_sound : (made : Result Unit ChangeFault) → IfErr made IsChangeSound → OnOk made (IsSound result) → IfErr made (λ fault. IfOk (told_by fault) (λ why. IsSound result)) → IfErr made (λ fault. IfErr (told_by fault) (λ why. (s2 ≡ s1) × (result ≡ Err why))) → IsSound result
    change_sound (Ok tt) sound well refusing ends = well
    change_sound (Err NotLoaded) sound well refusing ends = refusing
    change_sound (Err (Sequence have)) sound well refusing ends = refusing
    change_sound (Err (Absent file)) sound well refusing ends = refusing
    change_sound (Err (TooLong file)) sound well refusing ends = refusing
    change_sound (Err (Malformed file line reason)) sound well refusing ends = refusing
    change_sound (Err (Full file line table)) sound well refusing ends = refusing
    change_sound (Err (Shelf file)) sound well refusing ends = refusing
    change_sound (Err Memory) sound well refusing ends = refusing
    change_sound (Err Station) sound well refusing ends = ended_sound end.Station ends tt
    change_sound (Err (Damaged page)) sound well refusing ends = absurd sound

    -- the device mirrors a gazetteer then
    pub change_next : (made : Result Unit ChangeFault) (next : Gazetteer) → LeavesChange gaz next (view s1) made → IfErr made (λ fault. fault ≢ Station → OnlyReads (view s0) (view s1)) → IfErr made IsChangeSound
        → OnOk made (Replies (done change) (view s1) (view s2) result) → IfErr made (λ fault. IfOk (told_by fault) (λ why. Replies (refused why) (view s1) (view s2) result)) → IfErr made (λ fault. IfErr (told_by fault) (λ why. (s2 ≡ s1) × (result ≡ Err why)))
        → OnOk result ((g : Gazetteer) × Mirrors (view s2).bytes g)
    change_next (Ok tt) next leaves reads sound well refusing ends = on_ok _ result (after next (mirrors_now (view s1) next (λ a. here a told_then) leaves) well.areas)
    change_next (Err NotLoaded) next leaves reads sound well refusing ends = on_ok _ result (after gaz (was (reads (λ is. cc is))) refusing.areas)
    change_next (Err (Sequence have)) next leaves reads sound well refusing ends = on_ok _ result (after gaz (was (reads (λ is. cc is))) refusing.areas)
    change_next (Err (Absent file)) next leaves reads sound well refusing ends = on_ok _ result (after gaz (was (reads (λ is. cc is))) refusing.areas)
    change_next (Err (TooLong file)) next leaves reads sound well refusing ends = on_ok _ result (after gaz (was (reads (λ is. cc is))) refusing.areas)
    change_next (Err (Malformed file line reason)) next leaves reads sound well refusing ends = on_ok _ result (after gaz (was (reads (λ is. cc is))) refusing.areas)
    change_next (Err (Full file line table)) next leaves reads sound well refusing ends = on_ok _ result (after gaz (was (reads (λ is. cc is))) refusing.areas)
    change_next (Err (Shelf file)) next leaves reads sound well refusing ends = on_ok _ result (after gaz (was (reads (λ is. cc is))) refusing.areas)
    change_next (Err Memory) next leaves reads sound well refusing ends = on_ok _ result (after gaz (was (reads (λ is. cc is))) refusing.areas)
    change_next (Err Station) next leaves reads sound well refusing ends = ended_next _ end.Station ends
    change_next (Err (Damaged page)) next leaves reads sound well refusing ends = absurd sound

  module _ (files : Files) (asked : RequestAsked) (state : State) (defined : Result Gazetteer Refusal) (answer : answer_to state files asked ≡ changed state change defined) (starves : MayStarve (Ok asked))
      (only : (c : Outcome) → IsTrue (view s0).is_told → (view s0).left_since (view s0).moment c → Leaves (view s0) c) (here : (a : Area) → IsTrue (view s1).is_told → (view s1).may_leave a ((view s1).bytes a))
      (all : IsTrue (view s0).is_told → Mirrors (view s0).bytes state.gaz → AllHold (view s0) state.gaz)
    where
      -- a refusal that is defined
      refused_meets : (why : Refusal) → defined ≡ Err why → IsUnblamed before now → OnlyReads (view s0) (view s1) → Replies (refused why) (view s1) (view s2) result → Meets files asked state before now (view s0) (view s2) result
      refused_meets why is unblamed reads replies =
          let whole = told_behind (view s0) (view s1) reads (refused why) (view s2) result replies in
          record {
            verdict = plain;
            may = tt;
            blamed = unblamed;
            given = subst (λ a. IsGiven a state (view s0) (view s2) result) (sym (answer ∙ ap (changed state change) is)) (told_given state (refused why) (view s0) (view s2) result only whole.printed whole.moments whole.areas);
          }

      -- the station failed: nothing was written, or the change is defined
      stopped_meets : (next : Gazetteer) → LeavesOnly (view s0) (view s1) (IsOldOrNext state.gaz next (view s0)) → (next ≡ state.gaz) ⊎ (defined ≡ Ok next) → OnlyReads (view s0) (view s1) ⊎ IsOk defined → IsUnblamed before now
          → (s2 ≡ s1) × (result ≡ Err end.Station) → Meets files asked state before now (view s0) (view s2) result
      stopped_meets next moments next_is stops unblamed ends =
          subst (λ (r : Result (Unit {0}) EndFault). Meets files asked state before now (view s0) (view s2) r) (sym ends.1)
          (subst (λ (s : S). Meets {A = Unit {0}} {E = EndFault} files asked state before now (view s0) (view s) (Err end.Station)) (sym ends.0) (⊎_elim unmade (λ well. makes well defined refl) stops))
        where
          unmade : OnlyReads (view s0) (view s1) → Meets {A = Unit {0}} {E = EndFault} files asked state before now (view s0) (view s1) (Err end.Station)
          unmade reads =
              let whole = untold_behind (view s0) (view s1) reads (refused refusal.memory) end.Station in
              record { verdict = memory; may = starves; blamed = unblamed; given = told_given state (refused refusal.memory) (view s0) (view s1) (Err end.Station) only whole.printed whole.moments whole.areas }

          moments_to : (gaz : Gazetteer) → defined ≡ Ok gaz → (c : Outcome) → IsOldOrNext state.gaz next (view s0) c → IsOldOrNext state.gaz gaz (view s0) c
          moments_to gaz is c either = (⊎_elim (λ old. inl old) (λ new. ⊎_elim (λ old_is. inl (subst (Mirrors c.areas) old_is new)) (λ next_ok. inr (subst (Mirrors c.areas) (ok_same defined next gaz next_ok is) new)) next_is) either.0, either.1)

          makes : IsOk defined → (d : Result Gazetteer Refusal) → defined ≡ d → Meets {A = Unit {0}} {E = EndFault} files asked state before now (view s0) (view s1) (Err end.Station)
          makes well (Ok gaz) is = record {
            verdict = plain;
            may = tt;
            blamed = unblamed;
            given = subst (λ a. IsGiven {A = Unit {0}} {E = EndFault} a state (view s0) (view s1) (Err end.Station)) (sym (answer ∙ ap (changed state change) is))
                (unstored_given {A = Unit {0}} {E = EndFault} state change gaz (view s0) (view s1) same printed (λ told holds. leaves_weaker (view s0) (view s1) _ _ (moments_to gaz is) moments) end.Station);
          }
          makes well (Err why) is = absurd (not_ok defined why is well)

      -- A load or a day is met as it is defined, or refused by the shelf or for want of memory.
      pub change_meets : (made_of : Result Unit ChangeFault) (next : Gazetteer) → IsTrue (view s0).is_told → Mirrors (view s0).bytes state.gaz → LeavesOnly (view s0) (view s1) (IsOldOrNext state.gaz next (view s0)) → (next ≡ state.gaz) ⊎ (defined ≡ Ok next)
          → Gives next defined made_of → LeavesChange state.gaz next (view s1) made_of → IfErr made_of (λ fault. fault ≢ Station → OnlyReads (view s0) (view s1)) → IfErr made_of (λ fault. fault ≡ Station → OnlyReads (view s0) (view s1) ⊎ IsOk defined)
          → IfErr made_of IsChangeSound → BlamesReached files (opens state (Ok asked)) made_of → Blamed before now made_of
          → OnOk made_of (Replies (done change) (view s1) (view s2) result) → IfErr made_of (λ fault. IfOk (told_by fault) (λ why. Replies (refused why) (view s1) (view s2) result)) → IfErr made_of (λ fault. IfErr (told_by fault) (λ why. (s2 ≡ s1) × (result ≡ Err why)))
          → Meets files asked state before now (view s0) (view s2) result
      change_meets (Ok tt) next told mirrors moments next_is gives leaves reads stops sound reached blamed well refusing ends = record {
        verdict = plain;
        may = tt;
        blamed = blamed;
        given = subst (λ a. IsGiven a state (view s0) (view s2) result) (sym (answer ∙ ap (changed state change) gives))
            (stored_given state change next (view s0) (view s1) same printed (λ told holds. moments) (view s2) result here (λ told holds. leaves) all well.printed well.moments well.areas);
      }
      change_meets (Err NotLoaded) next told mirrors moments next_is gives leaves reads stops sound reached blamed well refusing ends = refused_meets refusal.not_loaded gives blamed (reads (λ is. cc is)) refusing
      change_meets (Err (Sequence have)) next told mirrors moments next_is gives leaves reads stops sound reached blamed well refusing ends = refused_meets (refusal.sequence have) gives blamed (reads (λ is. cc is)) refusing
      change_meets (Err (Absent file)) next told mirrors moments next_is gives leaves reads stops sound reached blamed well refusing ends = refused_meets (refusal.absent file) gives blamed (reads (λ is. cc is)) refusing
      change_meets (Err (TooLong file)) next told mirrors moments next_is gives leaves reads stops sound reached blamed well refusing ends = refused_meets (refusal.too_long file) gives blamed (reads (λ is. cc is)) refusing
      change_meets (Err (Malformed file line reason)) next told mirrors moments next_is gives leaves reads stops sound reached blamed well refusing ends = refused_meets (refusal.malformed file line reason) gives blamed (reads (λ is. cc is)) refusing
      change_meets (Err (Full file line table)) next told mirrors moments next_is gives leaves reads stops sound reached blamed well refusing ends = refused_meets (refusal.full file line table) gives blamed (reads (λ is. cc is)) refusing
      change_meets (Err (Shelf file)) next told mirrors moments next_is gives leaves reads stops sound reached blamed well refusing ends =
          let whole = told_behind (view s0) (view s1) (reads (λ is. cc is)) (refused (refusal.shelf file)) (view s2) result refusing in
          record { verdict = shelf file; may = reached; blamed = blamed; given = told_given state (refused (refusal.shelf file)) (view s0) (view s2) result only whole.printed whole.moments whole.areas }
      change_meets (Err Memory) next told mirrors moments next_is gives leaves reads stops sound reached blamed well refusing ends =
          let whole = told_behind (view s0) (view s1) (reads (λ is. cc is)) (refused refusal.memory) (view s2) result refusing in
          record { verdict = memory; may = starves; blamed = blamed; given = told_given state (refused refusal.memory) (view s0) (view s2) result only whole.printed whole.moments whole.areas }
      change_meets (Err Station) next told mirrors moments next_is gives leaves reads stops sound reached blamed well refusing ends = stopped_meets next moments next_is (stops refl) blamed ends
      change_meets (Err (Damaged page)) next told mirrors moments next_is gives leaves reads stops sound reached blamed well refusing ends = absurd sound
