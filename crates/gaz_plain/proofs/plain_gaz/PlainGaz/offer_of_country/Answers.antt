use Rattle.std.proofs.Common.{ap, ◌∙◌}
use Rattle.gaz_row.specs.Row.{id_of}
use Rattle.gaz_plain.specs.Ordered.{row_numbers, is_one_in, has_id}
use Rattle.gaz_plain.specs.Children.{is_of_country}
use Rattle.gaz_plain.proofs.Offering.{sees, among_country}
use Rattle.gaz_plain.proofs.plain_gaz.PlainGaz.offer_of_country.Goals as goal

pub returns-clause-more : goal.returns-clause-more
returns-clause-more c =
    let gaz = c.args.self.now in
    sees gaz c.is_gazetteer.ensures c.args.id c.args.best.now.keep (λ row. has_id c.with_number.result (id_of row)) (is_of_country c.args.country.now) c.args.best.now.pairs c.offer_all.new.best.pairs c.offer_all.ensures.more
    (λ row at child there.
    among_country gaz c.is_gazetteer.ensures c.args.id c.args.best.now.keep c.with_number.result c.args.country.now
    (λ i other found has. c.with_number.ensures.all i other found (ap (is_one_in (row_numbers other)) c.rows_number.ensures ∙ has))
    row at there)
