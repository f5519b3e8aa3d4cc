-- A page is of one kind.
use Rattle.std.proofs.Common.{◌≡◌, ℕ, true, List, length, get_or, arith, Some}
use Rattle.std.specs.Prelude.{◌==◌, ◌&&◌, slice_index, nat_le}
use Rattle.std.proofs.lemmas.Bool.{and_parts, eqb-true}
use Rattle.std.proofs.lemmas.Option.{cond_some}
use Rattle.gaz_page.specs.Root.{number_at, has_zeros}
use Rattle.gaz_page.specs.Free.{short_at, is_free_page, free_link}
use Rattle.gaz_slots.specs.RecordPage.{is_record_page}
use Rattle.gaz_slots.specs.Overflow.{has_overflow_head, is_overflow_page}
use Rattle.gaz_slots.proofs.Form.{form_says}

overflow_kind : (number : ℕ) (page : List ℕ) → is_overflow_page number page ≡ true → get_or page 0 0 ≡ 4
unfolding is_overflow_page
overflow_kind number page form =
    let head = has_overflow_head number page in
    let parts = and_parts (head && nat_le 1 (short_at 2 page)) (nat_le (short_at 2 page) 4080) form in
    let low = and_parts head (nat_le 1 (short_at 2 page)) parts.0 in
    let size = length page == 4096 in
    let kind = slice_index page 0 == 4 in
    let zero_ = slice_index page 1 == 0 in
    let own = number_at 4 page == number in
    let h4 = and_parts (size && kind && zero_ && own) (number_at 12 page == 0) low.0 in
    let h3 = and_parts (size && kind && zero_) own h4.0 in
    let h2 = and_parts (size && kind) zero_ h3.0 in
    let h1 = and_parts size kind h2.0 in
    eqb-true (slice_index page 0) 4 h1.1

record_kind : (number : ℕ) (page : List ℕ) → is_record_page number page ≡ true → get_or page 0 0 ≡ 3
record_kind number page form = (form_says number page form).kind

free_kind : (number link : ℕ) (page : List ℕ) → free_link number page ≡ Some link → get_or page 0 0 ≡ 5
unfolding free_link
free_kind number link page is =
    let form = (cond_some (is_free_page number page) (number_at 8 page) link is).0 in
    let kind = slice_index page 0 == 5 in
    let h3 = and_parts (kind && has_zeros 1 3 page && (number_at 4 page == number)) (has_zeros 12 4 page) form in
    let h2 = and_parts (kind && has_zeros 1 3 page) (number_at 4 page == number) h3.0 in
    let h1 = and_parts kind (has_zeros 1 3 page) h2.0 in
    eqb-true (slice_index page 0) 5 h1.0

pub overflow_not_record : (n m : ℕ) (page : List ℕ) → is_overflow_page n page ≡ true → is_record_page m page ≡ true → ⊥
overflow_not_record n m page a b = let e = overflow_kind n page a in let f = record_kind m page b in omega arith

pub free_not_record : (n m link : ℕ) (page : List ℕ) → free_link n page ≡ Some link → is_record_page m page ≡ true → ⊥
free_not_record n m link page a b = let e = free_kind n link page a in let f = record_kind m page b in omega arith

pub free_not_overflow : (n m link : ℕ) (page : List ℕ) → free_link n page ≡ Some link → is_overflow_page m page ≡ true → ⊥
free_not_overflow n m link page a b = let e = free_kind n link page a in let f = overflow_kind m page b in omega arith
