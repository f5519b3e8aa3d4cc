-- A question as it is told, and as one step.
use Rattle.std.proofs.Common.{◌≡◌, inl, inr, ℕ, List, [], true, false, IsTrue, refl, sym, subst, ap, ◌∙◌, Option, Some, None}
use Rattle.std.specs.Prelude.{◌⊎◌, Result, Ok, Err, is_some, is_none, option_map, if◌then◌else◌}
use Rattle.gaz_outside.specs.Outside.{ShelfView}
use Rattle.gaz_outside.specs.Station.{StationView, Outcome, Leaves}
use Rattle.gaz_num.specs.Refusal as refusal
use Rattle.gaz_page.specs.declared.tree_root.Root.{Root}
use Rattle.gaz_pages.specs.Fits.{Fits}
use Rattle.gaz_pages.specs.Keeps.{OnlyReads}
use Rattle.gaz_plain.specs.Gazetteer.{Gazetteer}
use Rattle.gaz_plain.specs.Load.{Files}
use Rattle.gaz_install.proofs.Named.{dated_by}
use Rattle.gaz_reply.specs.Reply.{Reply, rows, refused, reply_text}
use Rattle.gaz_reply.proofs.Pieces.{same_print}
use Rattle.gaz_rows.specs.Content.{Mirrors}
use Rattle.gaz_words.specs.Grammar.{RequestAsked}
use Rattle.gaz_ask.specs.Asked.{OverMirror}
use Rattle.gaz_turns.specs.Turns.{State, same_state, if_loaded, plain, memory, answer_to, MayStarve}
use Rattle.gaz_turns.specs.Steps.{IsGiven}
use Rattle.gaz_turns.proofs.Kept.{kept_read, kept_on, cut_read, cut_by_reads, same_cut_in}
use Rattle.gaz_turns.proofs.Told.{still_mirrors, prints_from, told_given, on_ok}
use Rattle.gaz_serve.specs.declared.step.EndFault.{EndFault}
use Rattle.gaz_serve.specs.Session.{state_of}
use Rattle.gaz_serve.specs.Step.{FailedIf, IsSound, Lasts, Meets, Replies, Tells, TellsShelf}
use Rattle.gaz_serve.specs.Tell.{TellsRest}
use Rattle.gaz_serve.proofs.Behind.{quiet, nothing, told_then, told_behind}
use Rattle.gaz_serve.proofs.Rows.{whole_text}

-- the reply tells these lines, where something was loaded
abbrev pub TellsLines : (Gazetteer → List (List ℕ)) → Gazetteer → Reply → Type 0
TellsLines lines gaz reply = reply ≡ if_loaded (state_of gaz) (rows (lines gaz))

no_date : (root : Option Root) → is_some root ≡ false → option_map (λ (r : Root). r.day) root ≡ None
no_date None is = refl
no_date (Some root) is = absurd (cc is)

a_date : (root : Option Root) → is_some root ≡ true → (day : ℕ) × (option_map (λ (r : Root). r.day) root ≡ Some day)
a_date None is = absurd (cc is)
a_date (Some root) is = (root.day, refl)

module _ (lines : Gazetteer → List (List ℕ)) (root : Option Root) (v0 : StationView) (fits : IsTrue v0.is_told → Fits root v0) where
  not_loaded_is : is_some root ≡ false → (gaz : Gazetteer) → IsTrue v0.is_told → Mirrors v0.bytes gaz → TellsLines lines gaz (refused refusal.not_loaded)
  not_loaded_is none gaz told mirrors =
      ap (λ (date : Option ℕ). if is_none date then refused refusal.not_loaded else rows (lines gaz)) (sym (dated_by v0 root gaz (fits told) mirrors ∙ no_date root none))

  loaded_is : is_some root ≡ true → (gaz : Gazetteer) → IsTrue v0.is_told → Mirrors v0.bytes gaz → TellsLines lines gaz (rows (lines gaz))
  loaded_is some gaz told mirrors =
      let day = a_date root some in
      ap (λ (date : Option ℕ). if is_none date then refused refusal.not_loaded else rows (lines gaz)) (sym (dated_by v0 root gaz (fits told) mirrors ∙ day.1))

  -- nothing was loaded
  pub tells_unloaded : is_some root ≡ false → (v1 : StationView) (result : Result (Unit {0}) EndFault) → Replies (refused refusal.not_loaded) v0 v1 result → IsSound result → Tells (TellsLines lines) v0 v1 result
  tells_unloaded none v1 result replies sound = record {
    some = (refused refusal.not_loaded, refl, replies.printed);
    gives = λ told gaz mirrors. (refused refusal.not_loaded, not_loaded_is none gaz told mirrors, replies);
    areas = replies.areas;
    sound = λ told gaz mirrors. sound;
  }

  module _ (some : is_some root ≡ true) (v1 : StationView) (reads : OnlyReads v0 v1) where
    -- lines that were read, and told at once
    pub tells_found : (found : List (List ℕ)) → OverMirror v0 (λ gaz. found ≡ lines gaz) → (v2 : StationView) (result : Result (Unit {0}) EndFault) → Replies (rows found) v1 v2 result → IsSound result → Tells (TellsLines lines) v0 v2 result
    tells_found found is v2 result replies sound =
        let whole = told_behind v0 v1 reads (rows found) v2 result replies in
        record {
          some = (rows found, refl, whole.printed);
          gives = λ told gaz mirrors. (rows found, ap rows (is told gaz mirrors) ∙ loaded_is some gaz told mirrors, whole);
          areas = whole.areas;
          sound = λ told gaz mirrors. sound;
        }

    -- rows that were named, and read and told one after another
    pub tells_rest : (named : Gazetteer → List (List ℕ)) → OverMirror v0 (λ gaz. named gaz ≡ lines gaz) → (v2 : StationView) (result : Result (Unit {0}) EndFault) → TellsRest 0 named v1 v2 result → Tells (TellsLines lines) v0 v2 result
    tells_rest named is v2 result tells = record {
      some = (rows tells.some.0, refl, prints_from _ v0 v1 v2 result (quiet v0 v1 reads) (same_print _ _ v1 v2 result (whole_text tells.some.0) tells.some.1));
      gives = λ told gaz mirrors.
          let g = tells.gives (told_then v0 v1 reads told) gaz (still_mirrors gaz v0 v1 told (kept_read v0 v1 reads) mirrors) in
          let text = whole_text (named gaz) ∙ ap (λ (ls : List (List ℕ)). reply_text (rows ls)) (is told gaz mirrors) in (
            rows (lines gaz),
            loaded_is some gaz told mirrors,
            record {
              printed = prints_from _ v0 v1 v2 result (quiet v0 v1 reads) (same_print _ _ v1 v2 result text g.0);
              moments = cut_read _ v0 v1 v2 reads (same_cut_in _ _ v1 v2 text g.1);
              areas = kept_on v0 v1 v2 reads.counts.told (kept_read v0 v1 reads) tells.areas;
            },
          );
      areas = kept_on v0 v1 v2 reads.counts.told (kept_read v0 v1 reads) tells.areas;
      sound = λ told gaz mirrors. tells.sound (told_then v0 v1 reads told) gaz (still_mirrors gaz v0 v1 told (kept_read v0 v1 reads) mirrors);
    }

    -- the lines couldn't be read
    pub tells_unfound : (end : EndFault) → OverMirror v0 (λ gaz. IsSound {A = Unit {0}} (Err end)) → Tells {A = Unit {0}} (TellsLines lines) v0 v1 (Err end)
    tells_unfound end sound = record {
      some = (rows [], refl, nothing v0 v1 reads _);
      gives = λ told gaz mirrors. (rows (lines gaz), loaded_is some gaz told mirrors, record { printed = nothing v0 v1 reads _; moments = cut_by_reads _ v0 v1 reads; areas = kept_read v0 v1 reads });
      areas = kept_read v0 v1 reads;
      sound = sound;
    }

    -- memory was wanting, which is told
    pub tells_starved : (may : Gazetteer → Reply → Type 0) → ((gaz : Gazetteer) → may gaz (refused refusal.memory)) → (v2 : StationView) (result : Result (Unit {0}) EndFault) → Replies (refused refusal.memory) v1 v2 result → IsSound result → Tells may v0 v2 result
    tells_starved may is v2 result replies sound =
        let whole = told_behind v0 v1 reads (refused refusal.memory) v2 result replies in
        record {
          some = (refused refusal.memory, refl, whole.printed);
          gives = λ told gaz mirrors. (refused refusal.memory, is gaz, whole);
          areas = whole.areas;
          sound = λ told gaz mirrors. sound;
        }

-- what may be told in more ways
pub tells_weaker : (may more : Gazetteer → Reply → Type 0) → ((gaz : Gazetteer) (reply : Reply) → may gaz reply → more gaz reply) → (old new : StationView) (result : Result (Unit {0}) EndFault) → Tells may old new result → Tells more old new result
tells_weaker may more so old new result tells = record {
  some = tells.some;
  gives = λ told gaz mirrors. let g = tells.gives told gaz mirrors in (g.0, so gaz g.0 g.1, g.2);
  areas = tells.areas;
  sound = tells.sound;
}

module _ (may : Gazetteer → Reply → Type 0) (old new : StationView) (result : Result (Unit {0}) EndFault) (tells : Tells may old new result) where
  -- what is told of a question says of the shelf what is so
  pub question_tells : (view : ShelfView) → TellsShelf view view old new result
  question_tells view = record {
    reply = tells.some.0;
    printed = tells.some.2;
    failed = subst (λ file. FailedIf file view view) (sym tells.some.1) (record { faults = refl; last = refl });
  }

  -- the device mirrors what it mirrored
  pub question_lasts : Lasts old new result
  question_lasts = record {
    sound = tells.sound;
    next = on_ok _ result (λ told gaz mirrors. (gaz, still_mirrors gaz old new told tells.areas mirrors));
  }

  module _ (files : Files) (asked : RequestAsked) (state : State) (view : ShelfView) (only : (c : Outcome) → IsTrue old.is_told → old.left_since old.moment c → Leaves old c) (told : IsTrue old.is_told) (mirrors : Mirrors old.bytes state.gaz) where
    -- A question is met as it is defined.
    pub question_meets : ((reply : Reply) → may state.gaz reply → answer_to state files asked ≡ same_state state reply) → Meets files asked state view view old new result
    question_meets is =
        let g = tells.gives told state.gaz mirrors in
        record {
          verdict = plain;
          may = tt;
          blamed = record { faults = refl; last = refl };
          given = subst (λ a. IsGiven a state old new result) (sym (is g.0 g.1)) (told_given state g.0 old new result only g.2.printed g.2.moments g.2.areas);
        }

    -- It is, or memory was wanting, where this may be.
    pub question_starves : ((reply : Reply) → may state.gaz reply → (answer_to state files asked ≡ same_state state reply) ⊎ ((reply ≡ refused refusal.memory) × MayStarve (Ok asked))) → Meets files asked state view view old new result
    question_starves is = by (is g.0 g.1)
      where
        g : (reply : Reply) × may state.gaz reply × Replies reply old new result
        g = tells.gives told state.gaz mirrors

        by : (answer_to state files asked ≡ same_state state g.0) ⊎ ((g.0 ≡ refused refusal.memory) × MayStarve (Ok asked)) → Meets files asked state view view old new result
        by (inl same) = record {
          verdict = plain;
          may = tt;
          blamed = record { faults = refl; last = refl };
          given = subst (λ a. IsGiven a state old new result) (sym same) (told_given state g.0 old new result only g.2.printed g.2.moments g.2.areas);
        }
        by (inr wanting) = record {
          verdict = memory;
          may = wanting.1;
          blamed = record { faults = refl; last = refl };
          given = subst (λ reply. IsGiven (same_state state reply) state old new result) wanting.0 (told_given state g.0 old new result only g.2.printed g.2.moments g.2.areas);
        }
