use Rattle.gaz_make.proofs.Digits.{padded_two}
use Rattle.gaz_make.proofs.chunk.Chunk.push_two_digits.Goals as goal

pub returns-clause-text : goal.returns-clause-text
returns-clause-text c = cc (c.push.ensures.text, c.digit.ensures, c.digit-2.ensures, padded_two c.args.n c.requires.below)
