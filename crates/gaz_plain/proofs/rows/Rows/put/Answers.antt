use Rattle.std.proofs.Common.{sym, ap, subst, ◌∙◌}
use Rattle.gaz_plain.specs.Ordered.{row_numbers, HasAll, KeepsBut, AreNumbered}
use Rattle.gaz_plain.proofs.Numbered.{put_numbered}
use Rattle.gaz_plain.proofs.rows.Rows.put.Goals as goal

pub invariant_of-self-2 : goal.invariant_of-self-2
invariant_of-self-2 c =
    let numbers = c.of-new.ensures ∙ ap row_numbers c.of.ensures in
    let has = subst (λ ns. HasAll c.args.id ns c.insert_all.new.order) numbers c.in_ok-insert_all.ensures.has in
    let but = subst (λ ns. KeepsBut c.args.id ns c.insert_all.new.order c.remove_all.new.order) numbers c.remove_all.ensures in
    subst (λ ls. AreNumbered ls c.remove_all.new.order) (sym c.in_ok-put.ensures.ok)
    (put_numbered c.self.inside.list c.self.inside.order c.self.invariant c.args.id c.args.line.now c.requires.line c.requires.key c.insert_all.new.order c.remove_all.new.order c.insert_all.ensures.keeps has but)
