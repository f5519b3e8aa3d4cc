use Rattle.gaz_parent.proofs.rule.+division_from.Given as goal

-- the level falls
abbrev pub decreases-division_from : goal.decreases-division_from
decreases-division_from g l = l.level
