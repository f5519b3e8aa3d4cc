-- Worked texts, with a line limit of 8 bytes and a file limit of 20.
use Rattle.std.proofs.Common.{◌≡◌, [], ◌∷◌, refl, Some, None, true, false}
use Rattle.std.specs.Prelude.{codes}
use Rattle.gaz_lines.specs.Lines.{rest_of}

-- 19 bytes, with a line of nine
too_long : rest_of 8 20 (codes "12345678\n123456789\n") ≡ record { lines = Some (codes "12345678") ∷ None ∷ []; is_past = false }
unfolding rest_of
too_long = refl

-- 20 bytes, the last line without LF
last : rest_of 8 20 (codes "12345678\n1234\n123456") ≡ record { lines = Some (codes "12345678") ∷ Some (codes "1234") ∷ Some (codes "123456") ∷ []; is_past = false }
unfolding rest_of
last = refl

-- 21 bytes, the last of them an LF
past : rest_of 8 20 (codes "12345678\n1234\n123456\n") ≡ record { lines = Some (codes "12345678") ∷ Some (codes "1234") ∷ []; is_past = true }
unfolding rest_of
past = refl

-- an empty line is one, and nothing behind an LF is none
empty : rest_of 8 20 (codes "\n\n") ≡ record { lines = Some [] ∷ Some [] ∷ []; is_past = false }
unfolding rest_of
empty = refl
