use Rattle.gaz_plain.proofs.Linked.{stepped_linked}
use Rattle.gaz_plain.proofs.links.Links.put.Goals as goal

pub invariant_of-self-2 : goal.invariant_of-self-2
invariant_of-self-2 c =
    stepped_linked c.self.inside.list c.self.inside.order c.self.invariant c.args.key c.args.line.now c.requires.key c.insert_both.new.order c.insert_both.ensures.keeps c.in_ok-insert_both.ensures.has c.put.new.self c.put.result c.put.ensures.ok c.put.ensures.err
