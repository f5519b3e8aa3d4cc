use Rattle.gaz_row.specs.Row.{id_of}
use Rattle.gaz_plain.specs.Ordered.{has_id}
use Rattle.gaz_plain.specs.Children.{is_linked_to}
use Rattle.gaz_plain.proofs.Offering.{sees, among_linked}
use Rattle.gaz_plain.proofs.plain_gaz.PlainGaz.offer_linked.Goals as goal

pub returns-clause-more : goal.returns-clause-more
returns-clause-more c =
    let gaz = c.args.self.now in
    sees gaz c.is_gazetteer.ensures c.args.id c.args.best.now.keep (λ row. has_id c.children_of.result (id_of row)) (is_linked_to gaz c.args.id) c.args.best.now.pairs c.offer_all.new.best.pairs c.offer_all.ensures.more
    (λ row at child linked. among_linked gaz c.is_gazetteer.ensures c.args.id c.args.best.now.keep c.children_of.result c.children_of.ensures row linked)
