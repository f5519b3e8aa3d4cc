use Rattle.std.proofs.Common.{arith, sym, ◌∙◌}
use Rattle.gaz_parent.proofs.Divisions.{none_here, first_read, all_read, in_other_words}
use Rattle.gaz_parent.proofs.rule.+division_from.Goals as goal

pub returns-in_err-id-clause-reads : goal.returns-in_err-id-clause-reads
returns-in_err-id-clause-reads g t c = first_read _ c.args.level c.args.row.now _ _ (omega arith) c.division.ensures.reads

pub returns-in-Some-clause-reads : goal.returns-in-Some-clause-reads
returns-in-Some-clause-reads g t c = first_read _ c.args.level c.args.row.now _ _ (omega arith) c.division.ensures.reads

pub returns-in-None-clause-found : goal.returns-in-None-clause-found
returns-in-None-clause-found g t c =
    in_other_words _ _ c.division_from.result
    (λ found below lists stands.
    below lists ((g.met.K.Kin.stands_on c.args.kin.now c.division.new.self lists c.in_ok-id.ensures.leads).0 stands)
    ∙ sym (none_here lists c.args.level c.args.row.now (omega arith) (sym c.in-None.is ∙ c.in_ok-id.ensures.found lists stands)))
    c.division_from.ensures.found

pub returns-in-None-clause-reads : goal.returns-in-None-clause-reads
returns-in-None-clause-reads g t c =
    all_read _ _ c.args.level c.args.row.now _ _ _ (omega arith)
    (λ question most. (g.met.K.Kin.bounded_on c.args.kin.now c.division.new.self question most c.in_ok-id.ensures.leads).0)
    c.division.ensures.reads c.division_from.ensures.reads
