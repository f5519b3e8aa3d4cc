use Rattle.gaz_parent.proofs.candidate.+has_codes.Given as goal

-- the level falls
abbrev pub decreases-has_codes : goal.decreases-has_codes
decreases-has_codes l = l.level
