-- Names of files are ASCII.
use Rattle.std.proofs.Common.{◌≡◌, ℕ, zero, suc, ◌<◌, List, [], ◌∷◌, ◌++◌, refl, arith, true, Bool}
use Rattle.std.specs.Prelude.{codes, IsUtf8, nat_lt, ◌&&◌}
use Rattle.std.specs.List.{list_all}
use Rattle.std.specs.Str.{IsAscii}
use Rattle.std.proofs.lemmas.Grind.{common_steps}
use Rattle.std.proofs.lemmas.Str.{IsAscii-append, IsUtf8-from_ascii}
use Rattle.gaz_num.specs.Dates.{date_text}

one_ascii : (b : ℕ) → b < 128 → IsAscii (b ∷ [])
one_ascii b small zero = small
one_ascii b small (suc i) = omega arith

pub cons_ascii : (b : ℕ) (bs : List ℕ) → b < 128 → IsAscii bs → IsAscii (b ∷ bs)
cons_ascii b bs small rest = IsAscii-append (b ∷ []) bs (one_ascii b small) rest

no_ascii : IsAscii []
no_ascii i = omega arith

-- the ten bytes of a date
pub ten_ascii : (a b c d e f g h i j : ℕ) → a < 128 → b < 128 → c < 128 → d < 128 → e < 128 → f < 128 → g < 128 → h < 128 → i < 128 → j < 128 → IsAscii (a ∷ b ∷ c ∷ d ∷ e ∷ f ∷ g ∷ h ∷ i ∷ j ∷ [])
ten_ascii a b c d e f g h i j a' b' c' d' e' f' g' h' i' j' =
    cons_ascii a (b ∷ c ∷ d ∷ e ∷ f ∷ g ∷ h ∷ i ∷ j ∷ []) a' (cons_ascii b (c ∷ d ∷ e ∷ f ∷ g ∷ h ∷ i ∷ j ∷ []) b' (cons_ascii c (d ∷ e ∷ f ∷ g ∷ h ∷ i ∷ j ∷ []) c' (cons_ascii d (e ∷ f ∷ g ∷ h ∷ i ∷ j ∷ []) d' (cons_ascii e (f ∷ g ∷ h ∷ i ∷ j ∷ []) e' (cons_ascii f (g ∷ h ∷ i ∷ j ∷ []) f' (cons_ascii g (h ∷ i ∷ j ∷ []) g' (cons_ascii h (i ∷ j ∷ []) h' (cons_ascii i (j ∷ []) i' (cons_ascii j [] j' no_ascii)))))))))

small_tests : (b : ℕ) (t : Bool) → (nat_lt b 128 && t) ≡ true → (b < 128) × (t ≡ true)
small_tests b t h = (grind (arith, common_steps), grind (arith, common_steps))

-- a text is ASCII where each byte passes the test
by_tests : (bs : List ℕ) → list_all (λ b. nat_lt b 128) bs ≡ true → IsAscii bs
by_tests [] h = no_ascii
by_tests (b ∷ bs) h = let two = small_tests b (list_all (λ b. nat_lt b 128) bs) h in cons_ascii b bs two.0 (by_tests bs two.1)

-- the name of a daily file
pub daily_utf8 : (front : List ℕ) (day : ℕ) → list_all (λ b. nat_lt b 128) front ≡ true → IsAscii (date_text day) → IsUtf8 (front ++ date_text day ++ codes ".txt")
daily_utf8 front day ascii date =
    IsUtf8-from_ascii (front ++ date_text day ++ codes ".txt")
    (IsAscii-append (front ++ date_text day) (codes ".txt") (IsAscii-append front (date_text day) (by_tests front ascii) date) (by_tests (codes ".txt") refl))

pub plain_utf8 : (name : List ℕ) → list_all (λ b. nat_lt b 128) name ≡ true → IsUtf8 name
plain_utf8 name ascii = IsUtf8-from_ascii name (by_tests name ascii)
