-- Rows that are read and printed one after another.
use Rattle.std.proofs.Common.{◌≡◌, ℕ, suc, ◌+◌, ◌-◌, ◌<◌, ◌≤◌, List, [], ◌∷◌, ◌++◌, length, get_or, map, take, drop, append-nil, refl, sym, subst, ap, ◌∙◌, arith, Bool, IsTrue, Some, None}
use Rattle.std.specs.Prelude.{Result, Err, IfErr}
use Rattle.std.specs.List.{cons_option}
use Rattle.std.specs.Io.KnownBytes.{append_known}
use Rattle.std.proofs.lemmas.Grind.{common_steps}
use Rattle.std.proofs.Math.Seq.{take-append_seam}
use Rattle.gaz_outside.specs.Outside.{StationView, Prints, PrintsFront, printed_of}
use Rattle.gaz_num.specs.declared.words.Table.TheVariants.{Rows}
use Rattle.gaz_pick.specs.Order.{Pair}
use Rattle.gaz_pick.specs.Asked.{NameAsked, absent, equals, starts}
use Rattle.gaz_pages.specs.Keeps.{OnlyReads}
use Rattle.gaz_plain.specs.Gazetteer.{Gazetteer, line_with}
use Rattle.gaz_plain.specs.Search.{rows_at}
use Rattle.gaz_plain.specs.Kin.{rows_with}
use Rattle.gaz_reply.specs.Reply.{rows, reply_text, with_ends, end_line}
use Rattle.gaz_reply.proofs.Pieces.{both, front, same_print}
use Rattle.gaz_rows.specs.Content.{Mirrors}
use Rattle.gaz_rows.specs.declared.fault.AskFault.{AskFault}
use Rattle.gaz_rows.specs.declared.fault.AskFault.TheVariants as ask
use Rattle.gaz_rows.specs.Store.{IsAnswer, TakesNoMemory, IsSound as IsAskSound}
use Rattle.gaz_ask.specs.Asked.{OverMirror}
use Rattle.gaz_turns.specs.Turns.{AsksName}
use Rattle.gaz_turns.specs.Steps.{AreasKept, IsCutIn}
use Rattle.gaz_turns.proofs.Kept.{kept_read, kept_on, cut_read, cut_by_reads, cut_first, cut_both, same_cut_in}
use Rattle.gaz_turns.proofs.Told.{still_mirrors, prints_from}
use Rattle.gaz_serve.specs.declared.step.EndFault.{EndFault}
use Rattle.gaz_serve.specs.Step.{IsSound}
use Rattle.gaz_serve.specs.Tell.{ends_by, rest_text, TellsRest}
use Rattle.gaz_serve.proofs.Behind.{quiet, nothing, told_then}

-- a line and those behind it
rest_more : (line : List ℕ) (lines : List (List ℕ)) (n : ℕ) → with_ends (line ∷ []) ++ rest_text lines (n + 1) ≡ rest_text (line ∷ lines) n
rest_more line lines n =
    let one_more : n + 1 + length lines ≡ n + suc (length lines) = omega arith in
    ap (λ (front : List ℕ). front ++ rest_text lines (n + 1)) (append-nil (line ++ 10 ∷ []))
    ∙ ap (λ (k : ℕ). (line ++ 10 ∷ []) ++ with_ends (lines ++ end_line k ∷ [])) one_more

-- no line is left
rest_none : (n : ℕ) → with_ends (end_line n ∷ []) ≡ rest_text [] n
rest_none n = let none : n ≡ n + 0 = omega arith in ap (λ (k : ℕ). with_ends (end_line k ∷ [])) none

-- lines with none before them are a whole reply
pub whole_text : (lines : List (List ℕ)) → rest_text lines 0 ≡ reply_text (rows lines)
whole_text lines = let all : 0 + length lines ≡ length lines = omega arith in ap (λ (k : ℕ). with_ends (lines ++ end_line k ∷ [])) all

-- the first name and the others, as they are read
pub first_name : {A : Type 0} (names : A → ℕ) (xs : List A) (d : A) → 1 ≤ length xs → map names xs ≡ names (get_or xs 0 d) ∷ map names (take (length xs - 1) (drop 1 xs))
first_name names [] d some = absurd (omega (arith, some))
first_name names (x ∷ xs) d some = ap (λ (rest : List _). names x ∷ map names rest) (sym rest_of)
  where
    rest_of : take (length (x ∷ xs) - 1) (drop 1 (x ∷ xs)) ≡ xs
    rest_of = grind (arith, common_steps)

abbrev failed : EndFault → Result (Unit {0}) EndFault
failed end = Err end

module _ (n : ℕ) (all : Gazetteer → List (List ℕ)) (v0 v1 : StationView) where
  -- the number alone
  pub tells_none : (result : Result (Unit {0}) EndFault) → Prints (with_ends (end_line n ∷ [])) v0 v1 result → IsCutIn (with_ends (end_line n ∷ [])) v0 v1 → AreasKept v0 v1 → IsSound result → ((gaz : Gazetteer) → all gaz ≡ []) → TellsRest n all v0 v1 result
  tells_none result printed cut kept sound none = record {
    some = ([], same_print _ _ v0 v1 result (rest_none n) printed);
    gives = λ told gaz mirrors.
        let is : with_ends (end_line n ∷ []) ≡ rest_text (all gaz) n = rest_none n ∙ ap (λ (lines : List (List ℕ)). rest_text lines n) (sym (none gaz)) in
        (same_print _ _ v0 v1 result is printed, same_cut_in _ _ v0 v1 is cut);
    areas = kept;
    sound = λ told gaz mirrors. sound;
  }

  module _ (reads : OnlyReads v0 v1) where
    -- a row couldn't be read
    pub tells_unread : (end : EndFault) → OverMirror v0 (λ gaz. IsSound {A = Unit {0}} (Err end)) → TellsRest {A = Unit {0}} n all v0 v1 (Err end)
    tells_unread end sound = record {
      some = ([], nothing v0 v1 reads _);
      gives = λ told gaz mirrors. (nothing v0 v1 reads _, cut_by_reads _ v0 v1 reads);
      areas = kept_read v0 v1 reads;
      sound = sound;
    }

    -- there is no such row
    pub tells_unfound : (v2 : StationView) (result : Result (Unit {0}) EndFault) (rest : Gazetteer → List (List ℕ)) → OverMirror v0 (λ gaz. rest gaz ≡ all gaz) → TellsRest n rest v1 v2 result → TellsRest n all v0 v2 result
    tells_unfound v2 result rest same tells = record {
      some = (tells.some.0, prints_from _ v0 v1 v2 result (quiet v0 v1 reads) tells.some.1);
      gives = λ told gaz mirrors.
          let g = tells.gives (told_then v0 v1 reads told) gaz (still_mirrors gaz v0 v1 told (kept_read v0 v1 reads) mirrors) in
          let is = ap (λ (lines : List (List ℕ)). rest_text lines n) (same told gaz mirrors) in
          (same_print _ _ v0 v2 result is (prints_from _ v0 v1 v2 result (quiet v0 v1 reads) g.0), same_cut_in _ _ v0 v2 is (cut_read _ v0 v1 v2 reads g.1));
      areas = kept_on v0 v1 v2 reads.counts.told (kept_read v0 v1 reads) tells.areas;
      sound = λ told gaz mirrors. tells.sound (told_then v0 v1 reads told) gaz (still_mirrors gaz v0 v1 told (kept_read v0 v1 reads) mirrors);
    }

    module _ (line : List ℕ) (rest : Gazetteer → List (List ℕ)) (is_first : OverMirror v0 (λ gaz. line ∷ rest gaz ≡ all gaz)) (v2 : StationView) (same : v2.is_told ≡ v1.is_told) (kept : AreasKept v1 v2) (cut : IsCutIn (with_ends (line ∷ [])) v1 v2) where
      here : AreasKept v0 v2
      here = kept_on v0 v1 v2 reads.counts.told (kept_read v0 v1 reads) kept

      text_is : (gaz : Gazetteer) → IsTrue v0.is_told → Mirrors v0.bytes gaz → with_ends (line ∷ []) ++ rest_text (rest gaz) (n + 1) ≡ rest_text (all gaz) n
      text_is gaz told mirrors = rest_more line (rest gaz) n ∙ ap (λ (lines : List (List ℕ)). rest_text lines n) (is_first told gaz mirrors)

      -- the row was printed, and then the others
      pub tells_more : (v3 : StationView) (result : Result (Unit {0}) EndFault) → printed_of v2 ≡ append_known (printed_of v1) (with_ends (line ∷ [])) → TellsRest (n + 1) rest v2 v3 result → TellsRest n all v0 v3 result
      tells_more v3 result printed tells = record {
        some = (line ∷ tells.some.0, same_print _ _ v0 v3 result (rest_more line tells.some.0 n) (prints_from _ v0 v1 v3 result (quiet v0 v1 reads) (both _ _ v1 v2 v3 result printed tells.some.1)));
        gives = λ told gaz mirrors.
            let told2 = subst (λ (b : Bool). IsTrue b) (sym same) (told_then v0 v1 reads told) in
            let g = tells.gives told2 gaz (still_mirrors gaz v0 v2 told here mirrors) in
            let is = text_is gaz told mirrors in (
              same_print _ _ v0 v3 result is (prints_from _ v0 v1 v3 result (quiet v0 v1 reads) (both _ _ v1 v2 v3 result printed g.0)),
              same_cut_in _ _ v0 v3 is (cut_read _ v0 v1 v3 reads (cut_both _ _ v1 v2 v3 same kept printed cut g.1)),
            );
        areas = kept_on v0 v2 v3 (same ∙ reads.counts.told) here tells.areas;
        sound = λ told gaz mirrors. tells.sound (subst (λ (b : Bool). IsTrue b) (sym same) (told_then v0 v1 reads told)) gaz (still_mirrors gaz v0 v2 told here mirrors);
      }

      -- the row couldn't be printed
      pub tells_unprinted : (end : EndFault) → IsSound {A = Unit {0}} (Err end) → PrintsFront (with_ends (line ∷ [])) v1 v2 → TellsRest {A = Unit {0}} n all v0 v2 (Err end)
      tells_unprinted end sound printed = record {
        some = (line ∷ [], same_print _ _ v0 v2 (failed end) (rest_more line [] n) (prints_from _ v0 v1 v2 (failed end) (quiet v0 v1 reads) (front _ _ v1 v2 printed)));
        gives = λ told gaz mirrors.
            let is = text_is gaz told mirrors in (
              same_print _ _ v0 v2 (failed end) is (prints_from _ v0 v1 v2 (failed end) (quiet v0 v1 reads) (front _ (rest_text (rest gaz) (n + 1)) v1 v2 printed)),
              same_cut_in _ _ v0 v2 is (cut_read _ v0 v1 v2 reads (cut_first _ _ v1 v2 cut)),
            );
        areas = here;
        sound = λ told gaz mirrors. sound;
      }

-- a row that was found is the first of all
pub row_found : (gaz : Gazetteer) (id : ℕ) (ids : List ℕ) (buf : List ℕ) (size : ℕ) → IsAnswer (line_with Rows (id ∷ []) gaz) buf (Some size) → take size buf ∷ rows_with gaz ids ≡ rows_with gaz (id ∷ ids)
row_found gaz id ids buf size is = ap (λ found. cons_option found (rows_with gaz ids)) (sym is)

pub row_unfound : (gaz : Gazetteer) (id : ℕ) (ids : List ℕ) (buf : List ℕ) → IsAnswer (line_with Rows (id ∷ []) gaz) buf None → rows_with gaz ids ≡ rows_with gaz (id ∷ ids)
row_unfound gaz id ids buf is = ap (λ found. cons_option found (rows_with gaz ids)) (sym is)

-- the rows of pairs are those of their ids
pub rows_named : (gaz : Gazetteer) (pairs : List Pair) → rows_with gaz (map (λ pair. pair.1) pairs) ≡ rows_at gaz pairs
rows_named gaz [] = refl
rows_named gaz (pair ∷ pairs) = ap (cons_option (line_with Rows (pair.1 ∷ []) gaz)) (rows_named gaz pairs)

pub same_ids : (ids : List ℕ) → map (λ id. id) ids ≡ ids
same_ids [] = refl
same_ids (id ∷ ids) = ap (λ (more : List ℕ). id ∷ more) (same_ids ids)

pub no_rows : {A : Type 0} (names : A → ℕ) (xs : List A) → length xs < 1 → (gaz : Gazetteer) → rows_with gaz (map names xs) ≡ []
no_rows names [] few gaz = refl
no_rows names (x ∷ xs) few gaz = absurd (omega (arith, few))

-- a question that came to nothing met no damage over a device that mirrors a gazetteer, and so the run doesn't end by it
pub sound_end : (fault : AskFault) → IsAskSound fault → IsSound {A = Unit {0}} (Err (ends_by fault))
sound_end ask.Failed sound = tt
sound_end (ask.Damaged page) sound = absurd sound
sound_end ask.Memory sound = absurd sound

-- what was lent as a whole is the whole
pub whole_buffer : (n : ℕ) (xs ys : List ℕ) → length xs ≡ n → take n (xs ++ drop (length xs) ys) ≡ xs
whole_buffer n xs ys is = subst (λ (k : ℕ). take k (xs ++ drop (length xs) ys) ≡ xs) is (take-append_seam xs (drop (length xs) ys))

-- memory is wanting only where a name is asked for
pub wanting : {T : Type 0} (name : NameAsked) (result : Result T AskFault) → (name ≡ absent → IfErr result TakesNoMemory) → result ≡ Err ask.Memory → AsksName name
wanting absent result none is = absurd (subst (λ r. IfErr r TakesNoMemory) is (none refl))
wanting (equals value) result none is = tt
wanting (starts value) result none is = tt
