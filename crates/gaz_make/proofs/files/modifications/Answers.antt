use Rattle.std.proofs.Common.{◌≡◌, ◌+◌, ◌*◌, ◌∷◌, ◌++◌, [], ◌∙◌, ℕ, List, ap, sym, refl, arith}
use Rattle.std.specs.Prelude.{codes}
use Rattle.gaz_make.specs.Files.{changed_line}
use Rattle.gaz_make.specs.Made.{Drawn, row_line, drawn_for}
use Rattle.gaz_make.specs.Row.{drawn_in}
use Rattle.gaz_make.proofs.Lines.{none_by, more_put}
use Rattle.gaz_make.proofs.files.modifications.Goals as goal

pub loop-changed-init : goal.loop-changed-init
loop-changed-init c = record {
  bytes = c.new-bytes.ensures.items ∙ sym (none_by (λ (k : ℕ). changed_line c.args.start (100 * k)));
  start = c.new-made.ensures.start;
  done = let done = c.new-made.ensures.done in omega (arith, done);
}

pub loop-changed-preserved : goal.loop-changed-preserved
loop-changed-preserved c =
    let inv = c.loop-changed.invariant in
    let n = c.loop-changed._changed in
    let bytes = c.loop-changed.bytes.items in
    let skip = c.skip.ensures in
    let next = c.next_row-row.ensures in
    let row = c.next_row-row.result in
    let line = row_line row.id (drawn_in row) 1000000 (codes "2000-01-02") in
    let id : row.id ≡ 100 * (n + 1) = omega (arith, next.id, skip.done, inv.done) in
    record {
      bytes = more_put (λ (k : ℕ). changed_line c.args.start (100 * k)) [] bytes c.extend_from_slice.new.self.items line n (n + 1) refl
          (ap (λ (x : Drawn). row_line row.id x 1000000 (codes "2000-01-02")) (next.row ∙ ap (λ (s : ℕ). drawn_for s row.id) (skip.start ∙ inv.start)) ∙ ap (changed_line c.args.start) id)
          (c.in_ok-extend_from_slice.ensures.items ∙ ap (λ (xs : List ℕ). bytes ++ xs) (c.text.ensures ∙ c.push.ensures.text ∙ ap (λ (xs : List ℕ). xs ++ (line ++ 10 ∷ [])) c.clear.ensures))
          inv.bytes;
      start = next.start ∙ skip.start ∙ inv.start;
      done = omega (arith, next.done, skip.done, inv.done);
    }
