-- Worked values.
use Rattle.std.proofs.Common.{◌≡◌, ◌+◌, ◌%◌, refl}
use Rattle.std.specs.Prelude.{codes}
use Rattle.std.specs.Fmt.{digits}
use Rattle.gaz_make.specs.Made.{after, drawn, up_to, made_line, made_table}

first_of_zero : after (1 + 0 % 2147483646) ≡ 16807
first_of_zero = refl

second_of_zero : after 16807 ≡ 282475249
second_of_zero = refl

third_of_zero : after 282475249 ≡ 1622650073
third_of_zero = refl

sixth_of_zero : drawn 0 6 ≡ 470211272
unfolding drawn digits
sixth_of_zero = refl

-- `make 0 2`
first_row : made_line 0 1 ≡ codes "1\tPlace 1\tPlace 1\t\t-73.193\t54.465\tA\tADM1\tXA\t\t01\t\t\t\t650073\t\t\tEtc/UTC\t2000-01-01"
unfolding drawn digits
first_row = refl

two_rows : made_table 0 2 ≡ codes "1\tPlace 1\tPlace 1\t\t-73.193\t54.465\tA\tADM1\tXA\t\t01\t\t\t\t650073\t\t\tEtc/UTC\t2000-01-01\n2\tPlace 2\tPlace 2\t\t68.187\t-154.248\tP\tPPL\tXA\t\t01\t\t\t\t211272\t\t\tEtc/UTC\t2000-01-01\n"
unfolding drawn up_to digits
two_rows = refl
