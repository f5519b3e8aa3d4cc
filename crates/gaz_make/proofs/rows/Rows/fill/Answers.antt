use Rattle.std.proofs.Common.{◌∙◌, ℕ, ap, sym, arith}
use Rattle.std.specs.Prelude.{codes}
use Rattle.gaz_make.specs.Chunk.{text_of}
use Rattle.gaz_make.specs.Made.{Drawn, made_line, made_table, row_line, drawn_for}
use Rattle.gaz_make.proofs.Lines.{more_put}
use Rattle.gaz_make.proofs.rows.Rows.fill.Goals as goal

pub loop-row-preserved : goal.loop-row-preserved
loop-row-preserved c =
    let inv = c.loop-row.invariant in
    let id = c.next_row-row.result.id in
    let next = c.next_row-row.ensures in
    record {
      text = more_put (made_line c.args.self.now.start) (made_table c.args.self.now.start c.args.self.now.done) (text_of c.loop-row.chunk) (text_of c.push.new.chunk) _ c.loop-row.self.done id next.id
          (ap (λ (x : Drawn). row_line id x 0 (codes "2000-01-01")) (next.row ∙ ap (λ (s : ℕ). drawn_for s id) inv.start))
          c.push.ensures.text inv.text
          ∙ ap (made_table c.args.self.now.start) (next.id ∙ sym next.done);
      start = next.start ∙ inv.start;
      done = omega (arith, next.done, inv.done);
      size = let size = c.push.ensures.size in omega (arith, size, inv.size);
    }
