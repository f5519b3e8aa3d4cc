use Rattle.std.proofs.Common.{◌-◌, ◌∷◌, length, map, take, drop, sym, subst, ap, arith, ◌∙◌}
use Rattle.std.specs.Prelude.{Err}
use Rattle.gaz_plain.specs.Kin.{rows_with}
use Rattle.gaz_serve.specs.declared.step.EndFault.{EndFault}
use Rattle.gaz_serve.specs.declared.step.EndFault.TheVariants.{Station}
use Rattle.gaz_turns.proofs.Kept.{cut_in, kept_stay}
use Rattle.gaz_serve.specs.Step.{IsSound}
use Rattle.gaz_serve.proofs.Reading.{row_printed, row_passed, rest_long}
use Rattle.gaz_serve.proofs.Rows.{first_name, no_rows, row_found, row_unfound, sound_end, tells_none, tells_more, tells_unprinted, tells_unfound, tells_unread}
use Rattle.gaz_serve.proofs.tell.+tell_rows.Goals as goal

pub returns-in-empty-clause-tells : goal.returns-in-empty-clause-tells
returns-in-empty-clause-tells g t c =
    let names = g.I.OfRow.names in
    tells_none c.args.told (λ gaz. rows_with gaz (map names c.args.rows.now)) (g.T.Station.view c.args.station.now) (g.T.Station.view c.tell_end.new.station) c.tell_end.result
    c.tell_end.ensures.printed c.tell_end.ensures.moments c.tell_end.ensures.areas c.tell_end.ensures.sound (no_rows names c.args.rows.now c.in-empty.len_below)

pub returns-in-Ok-clause-tells : goal.returns-in-Ok-clause-tells
returns-in-Ok-clause-tells g t c =
    let names = g.I.OfRow.names in
    let all = c.args.rows.now in
    let rest = take (length all - 1) (drop 1 all) in
    let v0 = g.T.Station.view c.args.station.now in
    let v1 = g.T.Station.view c.get_row.new.station in
    let v2 = g.T.Station.view c.write_row.new.station in
    let ids_is = ap (λ i. i ∷ map names rest) (c.id.ensures ∙ ap names c.first-item.is) ∙ sym (first_name names all c.first-item.result c.in-len1-up.len_at_least) in
    tells_more c.args.told (λ gaz. rows_with gaz (map names all)) v0 v1 c.get_row.ensures.leaves.reads (take c.in-Ok-Some.size c.get_row.new.buf) (λ gaz. rows_with gaz (map names rest))
    (λ told gaz mirrors. row_found gaz c.id.result (map names rest) c.get_row.new.buf c.in-Ok-Some.size (rw c.in-Ok-Some.field-0-is at (c.in-Ok-Some.ensures.line told gaz mirrors)) ∙ ap (rows_with gaz) ids_is)
    v2 c.write_row.ensures.told (kept_stay v1 v2 c.write_row.ensures.areas) (cut_in _ v1 v2 c.write_row.ensures.moments) (g.T.Station.view c.tell_rows.new.station) c.tell_rows.result c.in-Ok.ensures.printed c.tell_rows.ensures.tells

pub returns-in-Err-write_row-clause-tells : goal.returns-in-Err-write_row-clause-tells
returns-in-Err-write_row-clause-tells g t c =
    let names = g.I.OfRow.names in
    let all = c.args.rows.now in
    let rest = take (length all - 1) (drop 1 all) in
    let v0 = g.T.Station.view c.args.station.now in
    let v1 = g.T.Station.view c.get_row.new.station in
    let v2 = g.T.Station.view c.write_row.new.station in
    let ids_is = ap (λ i. i ∷ map names rest) (c.id.ensures ∙ ap names c.first-item.is) ∙ sym (first_name names all c.first-item.result c.in-len1-up.len_at_least) in
    tells_unprinted c.args.told (λ gaz. rows_with gaz (map names all)) v0 v1 c.get_row.ensures.leaves.reads (take c.in-Ok-Some.size c.get_row.new.buf) (λ gaz. rows_with gaz (map names rest))
    (λ told gaz mirrors. row_found gaz c.id.result (map names rest) c.get_row.new.buf c.in-Ok-Some.size (rw c.in-Ok-Some.field-0-is at (c.in-Ok-Some.ensures.line told gaz mirrors)) ∙ ap (rows_with gaz) ids_is)
    v2 c.write_row.ensures.told (kept_stay v1 v2 c.write_row.ensures.areas) (cut_in _ v1 v2 c.write_row.ensures.moments) Station tt c.in-Err-write_row.ensures.printed

pub returns-in-Ok-None-clause-tells : goal.returns-in-Ok-None-clause-tells
returns-in-Ok-None-clause-tells g t c =
    let names = g.I.OfRow.names in
    let all = c.args.rows.now in
    let rest = take (length all - 1) (drop 1 all) in
    let v0 = g.T.Station.view c.args.station.now in
    let v1 = g.T.Station.view c.get_row.new.station in
    let ids_is = ap (λ i. i ∷ map names rest) (c.id.ensures ∙ ap names c.first-item.is) ∙ sym (first_name names all c.first-item.result c.in-len1-up.len_at_least) in
    tells_unfound c.args.told (λ gaz. rows_with gaz (map names all)) v0 v1 c.get_row.ensures.leaves.reads (g.T.Station.view c.tell_rows-in-Ok-None.new.station) c.tell_rows-in-Ok-None.result (λ gaz. rows_with gaz (map names rest))
    (λ told gaz mirrors. row_unfound gaz c.id.result (map names rest) c.get_row.new.buf (rw c.in-Ok-None.field-0-is at (c.in-Ok-None.ensures.line told gaz mirrors)) ∙ ap (rows_with gaz) ids_is)
    c.tell_rows-in-Ok-None.ensures.tells

pub returns-in-Err-clause-tells : goal.returns-in-Err-clause-tells
returns-in-Err-clause-tells g t c =
    let names = g.I.OfRow.names in
    let v0 = g.T.Station.view c.args.station.now in
    let v1 = g.T.Station.view c.get_row.new.station in
    tells_unread c.args.told (λ gaz. rows_with gaz (map names c.args.rows.now)) v0 v1 c.get_row.ensures.leaves.reads c.end_of.result
    (λ told gaz mirrors. subst (λ (e : EndFault). IsSound {A = Unit {0}} (Err e)) (sym c.end_of.ensures) (sound_end c.in-Err.fault (c.in-Err.ensures.damaged told gaz mirrors)))

-- each row reads at most 23 pages
pub returns-in-empty-clause-reads : goal.returns-in-empty-clause-reads
returns-in-empty-clause-reads g t c told gaz mirrors = let same = c.tell_end.ensures.unread in omega (arith, same)

pub returns-in-Ok-clause-reads : goal.returns-in-Ok-clause-reads
returns-in-Ok-clause-reads g t c =
    let view = g.T.Station.view in
    let all = c.args.rows.now in
    row_printed (view c.args.station.now) (view c.get_row.new.station) (view c.write_row.new.station) (view c.tell_rows.new.station) (length all) (length (take (length all - 1) (drop 1 all)))
    c.get_row.ensures.leaves.reads c.write_row.ensures.areas c.write_row.ensures.told (rest_long all c.in-len1-up.len_at_least) c.get_row.ensures.reads c.tell_rows.ensures.reads

pub returns-in-Err-write_row-clause-reads : goal.returns-in-Err-write_row-clause-reads
returns-in-Err-write_row-clause-reads g t c told gaz mirrors =
    let row = c.get_row.ensures.reads told gaz mirrors in
    let same = c.write_row.ensures.areas.unread in
    omega (arith, row, same, c.in-len1-up.len_at_least)

pub returns-in-Ok-None-clause-reads : goal.returns-in-Ok-None-clause-reads
returns-in-Ok-None-clause-reads g t c =
    let view = g.T.Station.view in
    let all = c.args.rows.now in
    row_passed (view c.args.station.now) (view c.get_row.new.station) (view c.tell_rows-in-Ok-None.new.station) (length all) (length (take (length all - 1) (drop 1 all)))
    c.get_row.ensures.leaves.reads (rest_long all c.in-len1-up.len_at_least) c.get_row.ensures.reads c.tell_rows-in-Ok-None.ensures.reads

pub returns-in-Err-clause-reads : goal.returns-in-Err-clause-reads
returns-in-Err-clause-reads g t c told gaz mirrors = let row = c.get_row.ensures.reads told gaz mirrors in omega (arith, row, c.in-len1-up.len_at_least)
