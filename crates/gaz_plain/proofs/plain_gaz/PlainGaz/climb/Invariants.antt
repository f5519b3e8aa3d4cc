use Rattle.std.proofs.Common.{◌-◌, ◌≤◌, [], take}
use Rattle.gaz_parent.specs.Chain.{upwards}
use Rattle.gaz_plain.specs.Kin.{lists_of}
use Rattle.gaz_plain.proofs.Climbed.{IsOnWay}
use Rattle.gaz_plain.proofs.plain_gaz.PlainGaz.climb.Given as goal

-- what is written, and then all upwards from the next, are all
abbrev pub invariant-loop-count : goal.invariant-loop-count
invariant-loop-count l = record {
  count : l.count ≤ 64;
  way : IsOnWay (lists_of l.self) (upwards 64 (lists_of l.self) [] l.fn.first) (take l.count l.out) (64 - l.count) l.next;
}

abbrev pub decreases-loop-count : goal.decreases-loop-count
decreases-loop-count l = 64 - l.count
