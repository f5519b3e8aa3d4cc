-- A record page without a slot is in form.
use Rattle.std.proofs.Common.{◌≡◌, ◌<◌, ◌^◌, ℕ, true, refl}
use Rattle.std.proofs.lemmas.Nat.{from_be_bytes-to_be_bytes_4}
use Rattle.std.proofs.lemmas.Bool.{eq-eqb}
use Rattle.gaz_page.specs.Root.{number_at}
use Rattle.gaz_page.specs.Free.{short_at}
use Rattle.gaz_slots.specs.RecordPage.{is_record_page, count_in, mark_in}
use Rattle.gaz_slots.specs.Edited.{empty_page}

pub empty_form : (number : ℕ) → number < 2 ^ 32 → is_record_page number (empty_page number) ≡ true
unfolding is_record_page empty_page short_at
empty_form number small =
    let own : number_at 4 (empty_page number) ≡ number = from_be_bytes-to_be_bytes_4 number small in
    rw (eq-eqb _ _ own) refl

pub empty_count : (number : ℕ) → count_in (empty_page number) ≡ 0
unfolding empty_page short_at
empty_count number = refl

pub empty_mark : (number : ℕ) → mark_in (empty_page number) ≡ 4096
unfolding empty_page short_at
empty_mark number = refl
