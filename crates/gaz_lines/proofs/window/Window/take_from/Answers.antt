use Rattle.std.proofs.Common.{◌≡◌, ◌≤◌, ◌+◌, ◌-◌, ◌++◌, length, take, arith, length-take-le, ap, ◌∙◌, rules}
use Rattle.std.specs.Prelude.{slice_range}
use borrow.Rule.Slice.PartMut.{put_mid}
use Rattle.std.proofs.lemmas.List.{with_items_is, places}
use Rattle.gaz_lines.proofs.Lists.{grown}
use Rattle.gaz_lines.proofs.window.Window.take_from.Goals as goal

pub returns-clause-ok : goal.returns-clause-ok
returns-clause-ok g c =
    let window = c.args.self.now in
    let count = c.in_ok-count.count in
    let size : length c.take.new.buf ≡ length c.deref_mut.result.now - window.end = search rules in
    let fits : count ≤ length c.take.new.buf = omega (arith, c.in_ok-count.ensures.count) in
    let within : window.end ≤ length c.deref_mut.result.now = omega arith in
    let after = put_mid window.end (length c.deref_mut.result.now - window.end) c.deref_mut.result.now c.take.new.buf in (
      take count c.take.new.buf,
      length-take-le count c.take.new.buf fits,
      ap (λ xs. slice_range xs window.start (window.end + count)) (with_items_is window.bytes after (search (rules, places)))
          ∙ grown c.deref_mut.result.now c.take.new.buf window.start window.end _ count window.ordered within fits
          ∙ ap (λ xs. slice_range xs window.start window.end ++ take count c.take.new.buf) c.deref_mut.ensures.value,
      c.in_ok-count.ensures.taken,
    )
