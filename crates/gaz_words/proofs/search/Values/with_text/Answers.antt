use Rattle.std.proofs.Common.{◌≡◌, false, refl, arith}
use Rattle.std.specs.List.{list_any}
use Rattle.std.proofs.lemmas.Str.Pattern.{split_once_first}
use Rattle.gaz_words.specs.Search.{is_equals}
use Rattle.gaz_words.proofs.Texts.{none_past}
use Rattle.gaz_words.proofs.search.Values.with_text.Goals as goal

-- there is no equals sign
pub returns-in_default : goal.returns-in_default
returns-in_default c =
    let past = rw c.in_default.is at (split_once_first 61 c.args.text.now c.split_once.result c.split_once.ensures.cases (omega arith)) in
    let none : list_any is_equals c.args.text.now ≡ false = none_past is_equals c.args.text.now (omega (arith, past)) in
    rw none refl
