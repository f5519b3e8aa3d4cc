use Rattle.gaz_make.specs.Chunk.{text_of}
use Rattle.gaz_make.specs.Row.{drawn_in}
use Rattle.gaz_make.proofs.Parts.{row_put}
use Rattle.gaz_make.proofs.rows.Row.push.Goals as goal

pub returns-clause-text : goal.returns-clause-text
returns-clause-text c =
    row_put c.args.self.now.id (drawn_in c.args.self.now) c.args.more c.args.date.now (text_of c.args.chunk.now) _ _ _ _ _ _ _ _ _
    c.push_names.ensures.text c.push_coordinate.ensures.text c.push.ensures.text c.push_coordinate-2.ensures.text c.push_codes.ensures.text
    c.push_number.ensures.text c.push-2.ensures.text c.push-3.ensures.text c.push-4.ensures.text
