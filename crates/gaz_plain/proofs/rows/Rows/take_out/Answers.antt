use Rattle.std.proofs.Common.{sym, subst}
use Rattle.gaz_plain.specs.Ordered.{KeepsBut, AreNumbered}
use Rattle.gaz_plain.proofs.Numbered.{out_numbered}
use Rattle.gaz_plain.proofs.rows.Rows.take_out.Goals as goal

pub invariant_of-self : goal.invariant_of-self
invariant_of-self c =
    let but = subst (λ ns. KeepsBut c.args.id ns c.self.inside.order c.remove_all.new.order) c.none.ensures c.remove_all.ensures in
    subst (λ ls. AreNumbered ls c.remove_all.new.order) (sym c.take_out.ensures.lines) (out_numbered c.self.inside.list c.self.inside.order c.self.invariant c.args.id c.remove_all.new.order but)
