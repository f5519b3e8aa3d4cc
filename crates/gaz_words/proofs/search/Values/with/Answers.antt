use Rattle.std.proofs.Common.{◌≡◌, false, true, sym, ap, ◌∙◌}
use Rattle.std.specs.Prelude.{is_some}
use Rattle.gaz_words.specs.Given.{values_of}
use Rattle.gaz_words.specs.Search.{value_of, is_good}
use Rattle.gaz_words.proofs.Given.{with_good, is_some_copied}
use Rattle.gaz_words.proofs.search.Values.with.Goals as goal

-- it wasn't given before, and its value is good
pub returns : goal.returns
returns c =
    let new : is_some (value_of c.args.parameter (values_of c.args.self)) ≡ false = ap is_some (sym c.get.ensures) ∙ is_some_copied c.get.result ∙ sym c.is_some.ensures ∙ c.if-is_some.false in
    let good : is_good c.args.parameter c.args.value.now ≡ true = sym c.takes.ensures ∙ c.if-not-takes.false in
    with_good c.args.self.texts c.args.value c.args.parameter c.place.result c.place.ensures.place new good
