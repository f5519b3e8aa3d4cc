use Rattle.std.proofs.Common.{◌≡◌, ℕ, List, [], ◌∷◌, ◌++◌, ap, sym, subst, ◌∙◌}
use Rattle.std.specs.Prelude.{option_to_list, option_copied}
use Rattle.std.proofs.lemmas.List.{append-nil}
use Rattle.gaz_outside.specs.Outside.{Prints, PrintsFront}
use Rattle.gaz_outside.proofs.Runs.{areas_stay_on}
use Rattle.gaz_reply.specs.Reply.{reply_text, rows, with_ends, end_line}
use Rattle.gaz_reply.proofs.Cuts.{cut_in_first, cut_in_both, same_cut}
use Rattle.gaz_reply.proofs.Pieces.{both, front}
use Rattle.gaz_serve.proofs.tell.write_found.Goals as goal

-- a line and the end behind it are the whole reply
one_row : (line : List ℕ) → with_ends (line ∷ []) ++ with_ends (end_line 1 ∷ []) ≡ reply_text (rows (line ∷ []))
one_row line = ap (λ xs. xs ++ with_ends (end_line 1 ∷ [])) (append-nil (line ++ 10 ∷ []))

pub returns-in-Ok-clause-replies : goal.returns-in-Ok-clause-replies
returns-in-Ok-clause-replies g c =
    let whole = one_row c.in-Some.line.now ∙ ap (λ l. reply_text (rows (option_to_list (option_copied l)))) (sym c.in-Some.is) in
    record {
      printed =
          subst (λ text. Prints text (g.T.Station.view c.args.station.now) (g.T.Station.view c.write_end.new.station) c.write_end.result) whole
          (both (with_ends (c.in-Some.line.now ∷ [])) (with_ends (end_line 1 ∷ [])) _ _ _ c.write_end.result c.in-Ok.ensures.printed c.write_end.ensures.printed);
      moments =
          same_cut _ _ _ _ whole
          (cut_in_both (with_ends (c.in-Some.line.now ∷ [])) (with_ends (end_line 1 ∷ [])) _ _ _ c.in-Ok.ensures.told c.in-Ok.ensures.areas c.in-Ok.ensures.printed c.in-Ok.ensures.moments c.write_end.ensures.moments);
      areas = areas_stay_on (g.T.Station.view c.args.station.now) (g.T.Station.view c.write_row.new.station) (g.T.Station.view c.write_end.new.station) c.in-Ok.ensures.told c.in-Ok.ensures.areas c.write_end.ensures.areas;
    }

pub returns-in-Err-clause-replies : goal.returns-in-Err-clause-replies
returns-in-Err-clause-replies g c =
    let whole = one_row c.in-Some.line.now ∙ ap (λ l. reply_text (rows (option_to_list (option_copied l)))) (sym c.in-Some.is) in
    record {
      printed =
          subst (λ text. PrintsFront text (g.T.Station.view c.args.station.now) (g.T.Station.view c.write_row.new.station)) whole
          (front (with_ends (c.in-Some.line.now ∷ [])) (with_ends (end_line 1 ∷ [])) _ _ c.in-Err.ensures.printed);
      moments = same_cut _ _ _ _ whole (cut_in_first (with_ends (c.in-Some.line.now ∷ [])) (with_ends (end_line 1 ∷ [])) _ _ c.in-Err.ensures.moments);
      areas = c.in-Err.ensures.areas;
    }
