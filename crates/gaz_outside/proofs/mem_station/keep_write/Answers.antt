use Rattle.std.proofs.Common.{◌≡◌, rules}
use Rattle.gaz_outside.proofs.mem_station.keep_write.Goals as goal

pub returns-clause-kept : goal.returns-clause-kept
returns-clause-kept c =
    let same : c.in_ok-copy.copy.items ≡ c.args.bytes.now = search rules in
    (c.in_ok-copy.copy, same, c.in_ok-push.ensures.items)
