-- A record that is too long for a record page stands in pieces, one in each page of a chain.
use Rattle.std.specs.Prelude.{ℕ, zero, suc, nat_lt, nat_le, ◌==◌, ◌&&◌, List, [], ◌∷◌, ◌++◌, length, Option, None, Some, option_map, if◌then◌else◌}
use Rattle.gaz_num.specs.Numbers.{some_if}
use Rattle.gaz_page.specs.Free.{short_at}
use Rattle.gaz_slots.specs.Overflow.{is_overflow_page, next_in, piece_in}

-- a piece that others follow fills its page
abbrev pub with_piece : List ℕ → Option (List ℕ) → Option (List ℕ)
with_piece page rest = if short_at 2 page == 4080 then option_map (λ bytes. piece_in page ++ bytes) rest else None

-- the pieces from a page on, over at most so many pages
unfoldable pub chain_at : ℕ → (ℕ → List ℕ) → ℕ → Option (List ℕ)
chain_at zero pages number = None
chain_at (suc most) pages number =
    if is_overflow_page number (pages number)
    then (if next_in (pages number) == 0 then Some (piece_in (pages number)) else with_piece (pages number) (chain_at most pages (next_in (pages number))))
    else None

-- the pages from a page on, at most so many
unfoldable pub chain_pages : ℕ → (ℕ → List ℕ) → ℕ → List ℕ
chain_pages zero pages number = []
chain_pages (suc most) pages number = number ∷ (if next_in (pages number) == 0 then [] else chain_pages most pages (next_in (pages number)))

-- the record, where it is too long for a record page and not longer than 65,535 bytes
abbrev pub long_enough : Option (List ℕ) → Option (List ℕ)
long_enough None = None
long_enough (Some bytes) = some_if (nat_lt 4076 (length bytes) && nat_le (length bytes) 65535) bytes
