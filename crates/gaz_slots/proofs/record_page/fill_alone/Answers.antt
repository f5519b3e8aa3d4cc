use Rattle.std.proofs.Common.{arith, ◌∙◌}
use Rattle.gaz_slots.proofs.Form.{past_record}
use Rattle.gaz_slots.proofs.record_page.fill_alone.Goals as goal

pub put_in_slot-requires : goal.put_in_slot-requires
put_in_slot-requires c =
    let s = c.start_page.ensures in
    record { size = s.size; slot = omega arith; short = omega arith; slots = omega (arith, s.count, s.mark); mark = omega (arith, s.mark) }

pub returns : goal.returns
returns c =
    let s = c.start_page.ensures in
    let p = c.put_in_slot.ensures in
    let done = p.room (omega (arith, s.count, s.mark, c.requires.short)) in
    let f = (p.filled c.args.number s.form (λ below. absurd (omega (arith, s.count, below))) done).filled in
    record {
      form = f.form;
      there = f.there;
      others = λ k differs. f.others k differs ∙ past_record c.start_page.new.page k (omega (arith, s.count));
      size = p.size;
    }
