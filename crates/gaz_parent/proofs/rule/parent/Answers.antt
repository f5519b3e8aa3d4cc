use Rattle.gaz_parent.proofs.Asked.{link_read, levels_read, after_link, after_divisions, after_country, country_read, last_read}
use Rattle.gaz_parent.proofs.rule.parent.Goals as goal

pub returns-in_err-above-clause-reads : goal.returns-in_err-above-clause-reads
returns-in_err-above-clause-reads g c = after_link _ c.args.row.now _ _ (link_read _ c.args.row.now _ _ _ _ c.id-id.ensures c.link_up.ensures.reads)

pub returns-in-Some-clause-reads : goal.returns-in-Some-clause-reads
returns-in-Some-clause-reads g c = after_link _ c.args.row.now _ _ (link_read _ c.args.row.now _ _ _ _ c.id-id.ensures c.link_up.ensures.reads)

pub returns-in_err-above-2-clause-reads : goal.returns-in_err-above-2-clause-reads
returns-in_err-above-2-clause-reads g c =
    after_divisions _ _ c.args.row.now _ _ _
    (λ question most. (g.met.K.Kin.bounded_on c.args.kin.now c.link_up.new.self question most c.in_ok-above.ensures.leads).0)
    (link_read _ c.args.row.now _ _ _ _ c.id-id.ensures c.link_up.ensures.reads)
    (levels_read _ c.args.row.now _ _ _ c.first_level_above.ensures.value c.division_from.ensures.reads)

pub returns-in-Some-2-clause-reads : goal.returns-in-Some-2-clause-reads
returns-in-Some-2-clause-reads g c =
    after_divisions _ _ c.args.row.now _ _ _
    (λ question most. (g.met.K.Kin.bounded_on c.args.kin.now c.link_up.new.self question most c.in_ok-above.ensures.leads).0)
    (link_read _ c.args.row.now _ _ _ _ c.id-id.ensures c.link_up.ensures.reads)
    (levels_read _ c.args.row.now _ _ _ c.first_level_above.ensures.value c.division_from.ensures.reads)

pub returns-in_err-above-3-clause-reads : goal.returns-in_err-above-3-clause-reads
returns-in_err-above-3-clause-reads g c =
    after_country _ _ _ c.args.row.now _ _ _ _
    (λ question most. (g.met.K.Kin.bounded_on c.args.kin.now c.link_up.new.self question most c.in_ok-above.ensures.leads).0)
    (λ question most. (g.met.K.Kin.bounded_on c.link_up.new.self c.division_from.new.kin question most c.in_ok-above-2.ensures.leads).0)
    (link_read _ c.args.row.now _ _ _ _ c.id-id.ensures c.link_up.ensures.reads)
    (levels_read _ c.args.row.now _ _ _ c.first_level_above.ensures.value c.division_from.ensures.reads)
    (country_read _ c.args.row.now _ _ c.country.ensures.reads)

pub returns-in-Some-3-clause-reads : goal.returns-in-Some-3-clause-reads
returns-in-Some-3-clause-reads g c =
    after_country _ _ _ c.args.row.now _ _ _ _
    (λ question most. (g.met.K.Kin.bounded_on c.args.kin.now c.link_up.new.self question most c.in_ok-above.ensures.leads).0)
    (λ question most. (g.met.K.Kin.bounded_on c.link_up.new.self c.division_from.new.kin question most c.in_ok-above-2.ensures.leads).0)
    (link_read _ c.args.row.now _ _ _ _ c.id-id.ensures c.link_up.ensures.reads)
    (levels_read _ c.args.row.now _ _ _ c.first_level_above.ensures.value c.division_from.ensures.reads)
    (country_read _ c.args.row.now _ _ c.country.ensures.reads)

pub returns-clause-reads : goal.returns-clause-reads
returns-clause-reads g c =
    after_country _ _ _ c.args.row.now _ _ _ _
    (λ question most. (g.met.K.Kin.bounded_on c.args.kin.now c.link_up.new.self question most c.in_ok-above.ensures.leads).0)
    (λ question most. (g.met.K.Kin.bounded_on c.link_up.new.self c.division_from.new.kin question most c.in_ok-above-2.ensures.leads).0)
    (link_read _ c.args.row.now _ _ _ _ c.id-id.ensures c.link_up.ensures.reads)
    (levels_read _ c.args.row.now _ _ _ c.first_level_above.ensures.value c.division_from.ensures.reads)
    (last_read _ _ c.args.row.now _ _ _
    (λ question most. (g.met.K.Kin.bounded_on c.division_from.new.kin c.country.new.self question most c.in_ok-above-3.ensures.leads).0)
    c.country.ensures.reads
    (link_read _ c.args.row.now _ _ _ _ c.id-id.ensures c.link_up-2.ensures.reads))
