use Rattle.std.proofs.Common.{arith}
use Rattle.gaz_num.proofs.DigitsLemmas.{room}
use Rattle.gaz_num.proofs.read.read_digits.Goals as goal

pub overflow_mul-value : goal.overflow_mul-value
overflow_mul-value c = let top = room c.loop-byte.value c.loop-byte.byte-index c.loop-byte.invariant.bound (omega arith) in omega arith

pub overflow_add-value : goal.overflow_add-value
overflow_add-value c = let top = room c.loop-byte.value c.loop-byte.byte-index c.loop-byte.invariant.bound (omega arith) in omega (arith, c.if-not-is_ascii_digit.ensures.cases)
