use Rattle.gaz_rows.proofs.Targets.{link_target}
use Rattle.gaz_rows.proofs.target.target_of.Goals as goal

pub returns-in-Ok-check_link : goal.returns-in-Ok-check_link
returns-in-Ok-check_link c = link_target c.args.kind c.args.line.now c.in-Ok-check_link.link c.link_key.result c.in-Link.is c.in-Ok-check_link.ensures c.link_key.ensures
