use Rattle.std.proofs.Common.{◌≡◌, ◌∙◌, ◌++◌, ℕ, List, refl, sym, ap, subst, arith, ◌≤◌}
use Rattle.std.specs.Io.KnownBytes.{append_known}
use Rattle.gaz_outside.specs.Outside.{IsPrefix, PrintsFront, printed_of}
use Rattle.gaz_outside.proofs.Runs.{areas_stay_on, areas_stay_print, areas_stay_same}
use Rattle.gaz_make.specs.Chunk.{text_of}
use Rattle.gaz_make.specs.Made.{made_line, made_table}
use Rattle.gaz_make.proofs.Fronts.{append_none, piece_more, front_more, print_failed}
use Rattle.gaz_make.proofs.Lines.{none_by, front_of_lines}
use Rattle.gaz_make.proofs.print.make.Goals as goal

pub loop-chunk-init : goal.loop-chunk-init
loop-chunk-init g c =
    let old = g.T.Station.view c.args.station.now in
    let none : made_table c.args.start c.new-made.result.done ≡ made_table c.args.start 0 = ap (made_table c.args.start) c.new-made.ensures.done in
    record {
      printed = append_none (printed_of old) ∙ ap (append_known (printed_of old)) (sym (none ∙ none_by (made_line c.args.start)));
      start = c.new-made.ensures.start;
      done = let done = c.new-made.ensures.done in omega (arith, done);
      told = refl;
      areas = areas_stay_same old;
      faults = refl;
    }

-- the rows that were printed, and those of the chunk
whole : (start first done next : ℕ) (piece text : List ℕ) → first ≡ start → piece ≡ text → made_table first done ++ text ≡ made_table first next → made_table start done ++ piece ≡ made_table start next
whole start first done next piece text is same all =
    ap (λ (xs : List ℕ). made_table start done ++ xs) same ∙ ap (λ (s : ℕ). made_table s done ++ text) (sym is) ∙ all ∙ ap (λ (s : ℕ). made_table s next) is

pub loop-chunk-preserved : goal.loop-chunk-preserved
loop-chunk-preserved g c =
    let view = g.T.Station.view in
    let old = view c.args.station.now in
    let mid = view c.loop-chunk.station in
    let new = view c.print.new.self in
    let inv = c.loop-chunk.invariant in
    let fill = c.fill.ensures in
    let print = c.print.ensures in
    record {
      printed = piece_more (made_table c.args.start c.loop-chunk.made.done) c.text.result.now (made_table c.args.start c.fill.new.self.done) old mid new
          (whole c.args.start c.loop-chunk.made.start c.loop-chunk.made.done c.fill.new.self.done c.text.result.now (text_of c.fill.new.chunk) inv.start c.text.ensures fill.text)
          inv.printed c.in_ok-print.ensures.printed;
      start = fill.start ∙ inv.start;
      done = let test = c.loop-chunk-test.true in let small = c.min.ensures in let at = c.done-in-loop-chunk.ensures in omega (arith, fill.done, inv.done, small, at);
      told = print.counts.told ∙ inv.told;
      areas = areas_stay_on old mid new inv.told inv.areas (areas_stay_print _ mid new print.counts print.appends);
      faults = c.in_ok-print.ensures.cause.kept ∙ inv.faults;
    }

pub returns-in_err-print-clause-areas : goal.returns-in_err-print-clause-areas
returns-in_err-print-clause-areas g c =
    let view = g.T.Station.view in
    areas_stay_on (view c.args.station.now) (view c.loop-chunk.station) (view c.print.new.self) c.loop-chunk.invariant.told c.loop-chunk.invariant.areas (areas_stay_print _ _ _ c.print.ensures.counts c.print.ensures.appends)

-- the rows that were printed, and those of the chunk, are a front of the table
cut : (start first done next rows : ℕ) (piece text : List ℕ) → first ≡ start → piece ≡ text → made_table first done ++ text ≡ made_table first next → next ≤ rows → IsPrefix (made_table start done ++ piece) (made_table start rows)
cut start first done next rows piece text is same all le =
    subst (λ (front : List ℕ). IsPrefix front (made_table start rows)) (sym (whole start first done next piece text is same all)) (front_of_lines (made_line start) next rows le)

pub returns-in_err-print-clause-printed : goal.returns-in_err-print-clause-printed
returns-in_err-print-clause-printed g c =
    let view = g.T.Station.view in
    let inv = c.loop-chunk.invariant in
    let fill = c.fill.ensures in
    let old = view c.args.station.now in
    let mid = view c.loop-chunk.station in
    let new = view c.print.new.self in
    let fits : c.fill.new.self.done ≤ c.args.rows = let test = c.loop-chunk-test.true in let small = c.min.ensures in let at = c.done-in-loop-chunk.ensures in omega (arith, fill.done, inv.done, small, at) in
    let front : PrintsFront (made_table c.args.start c.args.rows) old new =
    front_more (made_table c.args.start c.loop-chunk.made.done) c.text.result.now (made_table c.args.start c.args.rows) old mid new
    (cut c.args.start c.loop-chunk.made.start c.loop-chunk.made.done c.fill.new.self.done c.args.rows c.text.result.now (text_of c.fill.new.chunk) inv.start c.text.ensures fill.text fits)
    inv.printed c.in_err-print.ensures.printed in
    print_failed (made_table c.args.start c.args.rows) old new c.from_residual.result c.from_residual.ensures.0 front
