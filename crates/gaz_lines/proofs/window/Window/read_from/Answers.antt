use Rattle.std.proofs.Common.{◌≡◌, ◌≤◌, ◌+◌, ◌-◌, ◌++◌, length, take, arith, length-take-le, ap, ◌∙◌, rules}
use Rattle.std.specs.Prelude.{slice_range}
use borrow.Rule.Slice.PartMut.{put_mid}
use Rattle.std.proofs.lemmas.List.{with_items_is, places}
use Rattle.gaz_lines.proofs.Lists.{grown, untouched}
use Rattle.gaz_lines.proofs.Shelves.{left_behind, same_left}
use Rattle.gaz_lines.proofs.window.Window.read_from.Goals as goal

pub returns-in-Ok-clause-ok : goal.returns-in-Ok-clause-ok
returns-in-Ok-clause-ok g c =
    let window = c.args.self.now in
    let e = c.in-Ok.ensures in
    let count = c.in-Ok.count in
    let size : length c.read.new.buf ≡ length c.deref_mut.result.now - window.end = search rules in
    let fits : count ≤ length c.read.new.buf = omega (arith, c.in-Ok.ensures.count) in
    let within : window.end ≤ length c.deref_mut.result.now = omega arith in
    let after = put_mid window.end (length c.deref_mut.result.now - window.end) c.deref_mut.result.now c.read.new.buf in (
      take count c.read.new.buf,
      length-take-le count c.read.new.buf fits,
      ap (λ xs. slice_range xs window.start (window.end + count)) (with_items_is window.bytes after (search (rules, places)))
          ∙ grown c.deref_mut.result.now c.read.new.buf window.start window.end _ count window.ordered within fits
          ∙ ap (λ xs. slice_range xs window.start window.end ++ take count c.read.new.buf) c.deref_mut.ensures.value,
      left_behind _ _ c.args.file c.args.at count _ e.same e.numbers e.bytes,
    )

pub returns-in-Err-clause-unread : goal.returns-in-Err-clause-unread
returns-in-Err-clause-unread g c = same_left _ _ c.args.file c.args.at c.in-Err.ensures.same c.in-Err.ensures.numbers

pub returns-in-Err-clause-kept : goal.returns-in-Err-clause-kept
returns-in-Err-clause-kept g c =
    let window = c.args.self.now in
    let within : window.end ≤ length c.deref_mut.result.now = omega arith in
    let after = put_mid window.end (length c.deref_mut.result.now - window.end) c.deref_mut.result.now c.read.new.buf in
    ap (λ xs. slice_range xs window.start window.end) (with_items_is window.bytes after (search (rules, places)))
    ∙ untouched c.deref_mut.result.now c.read.new.buf window.start window.end _ window.ordered within
    ∙ ap (λ xs. slice_range xs window.start window.end) c.deref_mut.ensures.value
