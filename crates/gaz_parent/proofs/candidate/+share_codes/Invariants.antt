use Rattle.gaz_parent.proofs.candidate.+share_codes.Given as goal

-- the level falls
abbrev pub decreases-share_codes : goal.decreases-share_codes
decreases-share_codes l = l.level
