-- Three numbers are drawn for each row.
use Rattle.std.proofs.Common.{◌≡◌, ℕ, suc, ◌+◌, ◌*◌, ◌-◌, ◌%◌, refl, ◌∙◌, ap, arith}
use Rattle.gaz_make.specs.Made.{after, drawn, Drawn, drawn_for}

pub first_drawn : (start : ℕ) → 1 + start % 2147483646 ≡ drawn start 0
unfolding drawn
first_drawn start = refl

next_drawn : (start n last next : ℕ) → last ≡ drawn start n → next ≡ after last → next ≡ drawn start (suc n)
unfolding drawn
next_drawn start n last next is then = then ∙ ap after is

-- three numbers more
record AreDrawn (start n a b c : ℕ) : Type 0 where
  first : a ≡ drawn start (suc n)
  second : b ≡ drawn start (suc (suc n))
  third : c ≡ drawn start (suc (suc (suc n)))

three : (start n last a b c : ℕ) → last ≡ drawn start n → a ≡ after last → b ≡ after a → c ≡ after b → AreDrawn start n a b c
three start n last a b c is is_a is_b is_c =
    let first = next_drawn start n last a is is_a in
    let second = next_drawn start (suc n) a b first is_b in
    record { first = first; second = second; third = next_drawn start (suc (suc n)) b c second is_c }

-- the last one of a row
pub last_drawn : (start done last a b c : ℕ) → last ≡ drawn start (3 * done) → a ≡ after last → b ≡ after a → c ≡ after b → c ≡ drawn start (3 * (done + 1))
last_drawn start done last a b c is is_a is_b is_c =
    (three start (3 * done) last a b c is is_a is_b is_c).third ∙ ap (drawn start) (place done)
  where
    place : (done : ℕ) → suc (suc (suc (3 * done))) ≡ 3 * (done + 1)
    place done = omega arith

abbrev numbers : ℕ → ℕ → ℕ → Drawn
numbers a b c = record { latitude = a; longitude = b; population = c }

-- all of a row
pub row_drawn : (start done last a b c : ℕ) → last ≡ drawn start (3 * done) → a ≡ after last → b ≡ after a → c ≡ after b → numbers a b c ≡ drawn_for start (done + 1)
row_drawn start done last a b c is is_a is_b is_c =
    let all = three start (3 * done) last a b c is is_a is_b is_c in
    by (all.first ∙ ap (drawn start) (first_place done)) (all.second ∙ ap (drawn start) (second_place done)) (last_drawn start done last a b c is is_a is_b is_c)
  where
    first_place : (done : ℕ) → suc (3 * done) ≡ 3 * (done + 1) - 2
    first_place done = omega arith

    second_place : (done : ℕ) → suc (suc (3 * done)) ≡ 3 * (done + 1) - 1
    second_place done = omega arith

    by : {x y z : ℕ} → a ≡ x → b ≡ y → c ≡ z → numbers a b c ≡ numbers x y z
    by is_x is_y is_z = cc (is_x, is_y, is_z)
