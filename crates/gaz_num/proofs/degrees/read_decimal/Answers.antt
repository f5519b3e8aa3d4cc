use Rattle.std.proofs.Common.{◌+◌, ◌∙◌}
use Rattle.std.proofs.lemmas.List.{take_rest}
use Rattle.gaz_num.proofs.PointLemmas.{with_point, without_point}
use Rattle.gaz_num.proofs.degrees.read_decimal.Goals as goal

pub returns-in-Some-clause-value : goal.returns-in-Some-clause-value
returns-in-Some-clause-value c =
    c.read_parts.ensures.value
    ∙ with_point c.args.text.now c.in-Some.at _ c.in-Some.ensures (take_rest c.args.text.now (c.in-Some.at + 1))

pub returns-in-None-clause-value : goal.returns-in-None-clause-value
returns-in-None-clause-value c = c.read_whole.ensures.value ∙ without_point c.args.text.now c.in-None.ensures
