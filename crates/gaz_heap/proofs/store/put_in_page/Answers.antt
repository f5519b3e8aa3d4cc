use Rattle.std.proofs.Common.{◌∙◌, sym, arith}
use Rattle.gaz_slots.proofs.Slots.{slots_fit}
use Rattle.gaz_heap.proofs.Stored.{none_used}
use Rattle.gaz_heap.proofs.store.put_in_page.Goals as goal

pub used_end-requires-clause-slots : goal.used_end-requires-clause-slots
used_end-requires-clause-slots c = slots_fit c.args.number c.args.page.now c.requires.form

pub returns-then-used_end-eq0-clause-filled : goal.returns-then-used_end-eq0-clause-filled
returns-then-used_end-eq0-clause-filled c =
    let none_ = none_used c.args.page.now c.used_end.result c.if-used_end-eq0.true c.used_end.ensures.free in
    let f = c.fill_alone.ensures in (
      record {
        form = f.form;
        there = f.there;
        was_free = none_ 0;
        others = λ k differs. f.others k differs ∙ sym (none_ k);
      },
      omega arith,
    )
