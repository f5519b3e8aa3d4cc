-- What replies tell of a shelf, one behind the other. This holds over any shelf.
use Rattle.std.proofs.Common.{◌≡◌, ◌≢◌, ⊎_elim, ℕ, ◌+◌, ◌^◌, ◌<◌, cond, List, [], ◌∷◌, ◌++◌, append_assoc, refl, sym, ◌∙◌, ap, subst, arith, Option, Some, None}
use Rattle.std.specs.Prelude.{count_by, is_some, unwrap_or, option_map, Ok, Err}
use Rattle.std.specs.Io.KnownBytes.{append_known}
use Rattle.std.proofs.lemmas.Grind.{common_steps}
use Rattle.gaz_outside.specs.Outside.{ShelfView, StationView, printed_of}
use Rattle.gaz_num.specs.declared.words.FileName.{FileName}
use Rattle.gaz_num.specs.Words.{file_text}
use Rattle.gaz_reply.specs.Reply.{Reply, reply_text}
use Rattle.gaz_reply.proofs.Pieces.{append_none, append_two}
use Rattle.gaz_serve.specs.Step.{FailedIf, TellsShelf, shelf_file}
use Rattle.gaz_serve.specs.Ran.{EndsWithin, RisesBy, TellShelf, tells_shelf, text_of_all, shelf_last}

-- These replies were printed, and say of the shelf what is so.
pub record Telling (shelf shelf_now : ShelfView) (entry station : StationView) : Type 0 where
  pub told : List Reply
  pub text_is : printed_of station ≡ append_known (printed_of entry) (text_of_all told)
  pub causes : RisesBy (count_by tells_shelf told) shelf.faults shelf_now.faults
  pub last_cause : shelf_now.last_fault ≡ shelf_last shelf.last_fault told

-- one reply more
text_more : (told : List Reply) (reply : Reply) → text_of_all (told ++ reply ∷ []) ≡ text_of_all told ++ reply_text reply
text_more told reply = grind (arith, common_steps)

abbrev last_by : Option FileName → Option (List ℕ) → Option (List ℕ)
last_by file before = unwrap_or (option_map (λ file. Some (file_text file)) file) before

last_more : (before : Option (List ℕ)) (told : List Reply) (reply : Reply) → shelf_last before (told ++ reply ∷ []) ≡ last_by (shelf_file reply) (shelf_last before told)
last_more before [] reply = refl
last_more before (first ∷ told) reply = last_more (last_by (shelf_file first) before) told reply

count_more : (told : List Reply) (reply : Reply) → count_by tells_shelf (told ++ reply ∷ []) ≡ count_by tells_shelf told + cond (is_some (shelf_file reply)) 1 0
count_more told reply = grind (arith, common_steps)

rises_more : (n before : ℕ) (file : Option FileName) (old new : ShelfView) → RisesBy n before old.faults → FailedIf file old new → RisesBy (n + cond (is_some file) 1 0) before new.faults
rises_more n before (Some file) old new rises failed = let once = failed.faults in omega (arith, rises, once)
rises_more n before None old new rises failed = let same = failed.faults in omega (arith, rises, same)

blames_more : (file : Option FileName) (old new : ShelfView) → FailedIf file old new → new.last_fault ≡ last_by file old.last_fault
blames_more (Some file) old new failed = failed.last
blames_more None old new failed = failed.last

pub tells_nothing : (shelf : ShelfView) (entry : StationView) → shelf.faults < 2 ^ 64 → Telling shelf shelf entry entry
tells_nothing shelf entry fits = record { told = []; text_is = append_none (printed_of entry); causes = omega (arith, fits); last_cause = refl }

module _ (shelf mid : ShelfView) (entry station : StationView) (before : Telling shelf mid entry station) where
  causes_more : (now : ShelfView) (reply : Reply) → FailedIf (shelf_file reply) mid now → RisesBy (count_by tells_shelf (before.told ++ reply ∷ [])) shelf.faults now.faults
  causes_more now reply failed = subst (λ n. RisesBy n shelf.faults now.faults) (sym (count_more before.told reply)) (rises_more (count_by tells_shelf before.told) shelf.faults (shelf_file reply) mid now before.causes failed)

  last_cause_more : (now : ShelfView) (reply : Reply) → FailedIf (shelf_file reply) mid now → now.last_fault ≡ shelf_last shelf.last_fault (before.told ++ reply ∷ [])
  last_cause_more now reply failed = blames_more (shelf_file reply) mid now failed ∙ ap (last_by (shelf_file reply)) before.last_cause ∙ sym (last_more shelf.last_fault before.told reply)

  pub tells_more : {E : Type 0} (now : ShelfView) (station_now : StationView) → TellsShelf {A = Unit {0}} {E = E} mid now station station_now (Ok tt) → Telling shelf now entry station_now
  tells_more now station_now tells = record {
    told = before.told ++ tells.reply ∷ [];
    text_is =
        tells.printed
        ∙ ap (λ known. append_known known (reply_text tells.reply)) before.text_is
        ∙ append_two (printed_of entry) (text_of_all before.told) (reply_text tells.reply)
        ∙ ap (append_known (printed_of entry)) (sym (text_more before.told tells.reply));
    causes = causes_more now tells.reply tells.failed;
    last_cause = last_cause_more now tells.reply tells.failed;
  }

  pub tells_cut : {E : Type 0} (now : ShelfView) (station_now : StationView) (failed : E) (status : ℕ) → EndsWithin status → TellsShelf {A = Unit {0}} {E = E} mid now station station_now (Err failed) → TellShelf shelf now entry station_now status
  tells_cut now station_now failed status ends tells = record {
    told = before.told ++ tells.reply ∷ [];
    text = text_of_all before.told ++ tells.printed.0;
    text_is =
        tells.printed.2
        ∙ ap (λ known. append_known known tells.printed.0) before.text_is
        ∙ append_two (printed_of entry) (text_of_all before.told) tells.printed.0;
    whole = λ well sound. ⊎_elim (λ is. absurd (well is)) (λ is. absurd (sound is)) ends;
    cut = λ is. (tells.printed.1.0, text_more before.told tells.reply ∙ ap (λ text. text_of_all before.told ++ text) tells.printed.1.1 ∙ sym (append_assoc (text_of_all before.told) tells.printed.0 tells.printed.1.0));
    causes = causes_more now tells.reply tells.failed;
    last_cause = last_cause_more now tells.reply tells.failed;
  }

  pub tells_all : (status : ℕ) → status ≢ 3 → status ≢ 6 → TellShelf shelf mid entry station status
  tells_all status well sound = record {
    told = before.told;
    text = text_of_all before.told;
    text_is = before.text_is;
    whole = λ other others. refl;
    cut = λ is. ⊎_elim (λ three. absurd (well three)) (λ six. absurd (sound six)) is;
    causes = before.causes;
    last_cause = before.last_cause;
  }

-- behind an opening, which prints nothing
pub tells_from : (shelf shelf_now : ShelfView) (entry mid exit : StationView) (status : ℕ) → printed_of mid ≡ printed_of entry → TellShelf shelf shelf_now mid exit status → TellShelf shelf shelf_now entry exit status
tells_from shelf shelf_now entry mid exit status printed tells = record {
  told = tells.told;
  text = tells.text;
  text_is = tells.text_is ∙ ap (λ known. append_known known tells.text) printed;
  whole = tells.whole;
  cut = tells.cut;
  causes = tells.causes;
  last_cause = tells.last_cause;
}

pub tells_unopened : (shelf : ShelfView) (entry exit : StationView) (status : ℕ) → shelf.faults < 2 ^ 64 → printed_of exit ≡ printed_of entry → TellShelf shelf shelf entry exit status
tells_unopened shelf entry exit status fits printed = record {
  told = [];
  text = [];
  text_is = printed ∙ append_none (printed_of entry);
  whole = λ well sound. refl;
  cut = λ is. ([], refl);
  causes = omega (arith, fits);
  last_cause = refl;
}
