use Rattle.std.proofs.Common.{◌∙◌}
use Rattle.gaz_make.specs.Chunk.{text_of}
use Rattle.gaz_make.proofs.Digits.{thousandths_put}
use Rattle.gaz_make.proofs.chunk.Chunk.push_thousandths.Goals as goal

pub returns-clause-text : goal.returns-clause-text
returns-clause-text c =
    c.push.ensures.text ∙ thousandths_put (text_of c.args.self.now) (text_of c.push_number.new.self) c.args.n _ _ _ c.push_number.ensures.text c.digit.ensures c.digit-2.ensures c.digit-3.ensures
