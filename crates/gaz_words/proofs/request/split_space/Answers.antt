use Rattle.std.proofs.Common.{◌≡◌, false, refl, arith}
use Rattle.std.specs.List.{list_any}
use Rattle.std.proofs.lemmas.Str.Pattern.{split_once_first}
use Rattle.gaz_words.specs.Spaces.{is_space}
use Rattle.gaz_words.proofs.Texts.{none_past}
use Rattle.gaz_words.proofs.request.split_space.Goals as goal

-- there is no space
pub returns-in-None-clause-rest : goal.returns-in-None-clause-rest
returns-in-None-clause-rest c =
    let past = rw c.in-None.is at (split_once_first 32 c.args.text.now c.split_once.result c.split_once.ensures.cases (omega arith)) in
    let none : list_any is_space c.args.text.now ≡ false = none_past is_space c.args.text.now (omega (arith, past)) in
    rw none refl
