use Rattle.gaz_plain.proofs.row_numbers.+path_number.Given as goal

-- the level falls
abbrev pub decreases-path_number : goal.decreases-path_number
decreases-path_number l = l.level
