use Rattle.std.proofs.Common.{arith}
use Rattle.gaz_keys.proofs.Fronts.{put_front}
use Rattle.gaz_kin.proofs.path.put_behind.Goals as goal

pub returns-clause-front : goal.returns-clause-front
returns-clause-front c text = put_front _ text c.args.piece.now c.args.bytes.now _ c.args.len c.min-count.result _ c.min-count.ensures c.copy_from_slice.ensures.after (omega arith)
