use Rattle.std.proofs.Common.{arith, ◌∙◌}
use Rattle.gaz_num.proofs.PutLemmas.{later_same}
use Rattle.gaz_num.proofs.file_name.put_daily.Goals as goal

pub returns-clause-rest : goal.returns-clause-rest
returns-clause-rest c =
    c.put.ensures.rest
    ∙ later_same c.put-at-2.result c.put.result c.put-at-2.new.out c.put-at.new.out (omega arith) c.put-at-2.ensures.rest
    ∙ later_same c.put-at.result c.put.result c.put-at.new.out c.args.out.now (omega arith) c.put-at.ensures.rest
