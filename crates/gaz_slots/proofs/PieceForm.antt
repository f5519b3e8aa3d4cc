-- How long the piece of an overflow page in form is.
use Rattle.std.proofs.Common.{◌≡◌, ◌≤◌, ℕ, true, List, length, drop, arith}
use Rattle.std.specs.Prelude.{slice_index, nat_le, ◌==◌, ◌&&◌}
use Rattle.std.proofs.lemmas.Bool.{leb-true, eqb-true, and_parts}
use Rattle.std.proofs.lemmas.List.{length-take-le, length-drop}
use Rattle.gaz_page.specs.Root.{number_at}
use Rattle.gaz_page.specs.Free.{short_at}
use Rattle.gaz_slots.specs.Overflow.{has_overflow_head, is_overflow_page, piece_in}

-- how many bytes a page in form has
pub count_fits : (number : ℕ) (page : List ℕ) → is_overflow_page number page ≡ true → (1 ≤ short_at 2 page) × (short_at 2 page ≤ 4080)
unfolding is_overflow_page
count_fits number page form =
    let head = has_overflow_head number page in
    let parts = and_parts (head && nat_le 1 (short_at 2 page)) (nat_le (short_at 2 page) 4080) form in
    let low = and_parts head (nat_le 1 (short_at 2 page)) parts.0 in
    (leb-true 1 (short_at 2 page) low.1, leb-true (short_at 2 page) 4080 parts.1)

pub size_fits : (number : ℕ) (page : List ℕ) → is_overflow_page number page ≡ true → length page ≡ 4096
unfolding is_overflow_page
size_fits number page form =
    let head = has_overflow_head number page in
    let parts = and_parts (head && nat_le 1 (short_at 2 page)) (nat_le (short_at 2 page) 4080) form in
    let low = and_parts head (nat_le 1 (short_at 2 page)) parts.0 in
    let size = length page == 4096 in
    let kind = slice_index page 0 == 4 in
    let zero_ = slice_index page 1 == 0 in
    let own = number_at 4 page == number in
    let h4 = and_parts (size && kind && zero_ && own) (number_at 12 page == 0) low.0 in
    let h3 = and_parts (size && kind && zero_) own h4.0 in
    let h2 = and_parts (size && kind) zero_ h3.0 in
    let h1 = and_parts size kind h2.0 in
    eqb-true (length page) 4096 h1.0

pub length-piece : (number : ℕ) (page : List ℕ) → is_overflow_page number page ≡ true → length (piece_in page) ≡ short_at 2 page
length-piece number page form =
    let fit = count_fits number page form in
    length-take-le (short_at 2 page) (drop 16 page) (omega (arith, fit.1, length-drop 16 page, size_fits number page form))
