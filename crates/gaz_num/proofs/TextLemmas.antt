-- Lines that are text.
use Rattle.std.proofs.Common.{◌≡◌, ℕ, Bool, true, false, List, refl, sym}
use Rattle.std.specs.Prelude.{IsTrue, IsUtf8, ◌↔◌}
use Rattle.std.specs.Str.{is_utf8}
use Rattle.std.proofs.lemmas.Str.{IsUtf8-from_is_utf8, is_utf8-from_IsUtf8}

by_test : (b t : Bool) → (b ≡ true → t ≡ true) → (t ≡ true → b ≡ true) → b ≡ t
by_test true t there back = sym (there refl)
by_test false true there back = back refl
by_test false false there back = refl

-- a test of UTF-8 is the definition's
pub same_test : (b : Bool) (line : List ℕ) → (IsTrue b ↔ IsUtf8 line) → b ≡ is_utf8 line
same_test b line is = by_test b (is_utf8 line) (λ h. is_utf8-from_IsUtf8 line (is.0 h)) (λ h. is.1 (IsUtf8-from_is_utf8 line h))
