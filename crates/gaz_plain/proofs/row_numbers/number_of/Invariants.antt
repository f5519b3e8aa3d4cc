use Rattle.std.proofs.Common.{◌≡◌, drop}
use Rattle.gaz_plain.specs.Ordered.{number_of}
use Rattle.gaz_plain.proofs.row_numbers.number_of.Given as goal

-- the bytes so far are in the number
abbrev pub invariant-loop-byte : goal.invariant-loop-byte
invariant-loop-byte l = number_of l.number (drop l.byte-index l.text) ≡ number_of l.fn.before l.text
