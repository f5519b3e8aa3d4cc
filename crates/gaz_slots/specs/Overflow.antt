-- An overflow page: one piece of a record that is too long for a record page.
use Rattle.std.specs.Prelude.{◌≡◌, ◌≢◌, ◌≤◌, ◌<◌, ◌+◌, ◌⊎◌, ℕ, nat_le, Bool, true, false, take, ◌==◌, ◌&&◌, List, [], ◌∷◌, ◌++◌, length, slice_index}
use Rattle.std.specs.Int.{w16, w32, to_be_bytes}
use Rattle.gaz_page.specs.Root.{number_at}
use Rattle.gaz_page.specs.Free.{short_at}
use Rattle.gaz_slots.specs.Bytes.{part}
use Rattle.gaz_slots.specs.declared.overflow.Piece.{Piece}
use Rattle.gaz_slots.specs.declared.overflow.Piece.TheVariants.{Last, More, Broken}

-- kind 4, the page's own number, and zeros but for the count and the link
abbrev pub has_overflow_head : ℕ → List ℕ → Bool
has_overflow_head number page =
    (length page == 4096) && (slice_index page 0 == 4) && (slice_index page 1 == 0) && (number_at 4 page == number) && (number_at 12 page == 0)

-- an overflow page in form, of this number, has from 1 to 4,080 bytes
unfoldable pub is_overflow_page : ℕ → List ℕ → Bool
is_overflow_page number page = has_overflow_head number page && nat_le 1 (short_at 2 page) && nat_le (short_at 2 page) 4080

-- bytes 0 to 15: kind 4, the count, the page's own number and the next one
abbrev pub overflow_head : ℕ → ℕ → ℕ → List ℕ
overflow_head number next count = 4 ∷ 0 ∷ to_be_bytes w16 count ++ to_be_bytes w32 number ++ to_be_bytes w32 next ++ (0 ∷ 0 ∷ 0 ∷ 0 ∷ [])

-- the page of the next piece, or 0
abbrev pub next_in : List ℕ → ℕ
next_in page = number_at 8 page

-- the piece of a page
abbrev pub piece_in : List ℕ → List ℕ
piece_in page = part 16 (short_at 2 page) page

-- The piece of n bytes stands behind the first bytes of a buffer.
pub record CopiesPiece (number : ℕ) (page : List ℕ) (at : ℕ) (old new : List ℕ) (n : ℕ) : Type 0 where
  pub form : is_overflow_page number page ≡ true
  pub count : short_at 2 page ≡ n
  pub copied : take (at + n) new ≡ take at old ++ piece_in page
  pub within : at + n ≤ 65535

-- what is wrong with a piece: its page, its place in the record, or that it doesn't fill its page though others follow
abbrev pub IsBroken : ℕ → List ℕ → ℕ → Type 0
IsBroken number page at =
    (is_overflow_page number page ≡ false) ⊎ ((65535 < at + short_at 2 page) ⊎ ((next_in page ≢ 0) × (short_at 2 page ≢ 4080)))

-- what is found on the page of a piece
abbrev pub Copies : ℕ → List ℕ → ℕ → List ℕ → List ℕ → Piece → Type 0
Copies number page at old new (Last n) = CopiesPiece number page at old new n × (next_in page ≡ 0)
Copies number page at old new (More next) = CopiesPiece number page at old new 4080 × (next_in page ≡ next) × (next ≢ 0)
Copies number page at old new Broken = IsBroken number page at
