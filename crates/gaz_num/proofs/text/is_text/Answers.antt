use Rattle.gaz_num.proofs.TextLemmas.{same_test}
use Rattle.gaz_num.proofs.text.is_text.Goals as goal

pub returns : goal.returns
returns c = same_test c.is_utf8.result c.args.bytes.now c.is_utf8.ensures
