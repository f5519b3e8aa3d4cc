-- A free page, which has the number of the next one.
use Rattle.std.specs.Prelude.{ℕ, Bool, ◌==◌, ◌&&◌, List, ◌∷◌, ◌++◌, take, drop, replicate, slice_index, Option}
use Rattle.std.specs.Int.{w16, w32, to_be_bytes, from_be_bytes}
use Rattle.gaz_num.specs.Numbers.{some_if}
use Rattle.gaz_page.specs.Root.{number_at, has_zeros}

-- the number in the two bytes from a place on, the highest byte first
unfoldable pub short_at : ℕ → List ℕ → ℕ
short_at at bytes = from_be_bytes w16 (take 2 (drop at bytes))

-- a free page in form: kind 5, its own number, and zeros in its header but for the link
abbrev pub is_free_page : ℕ → List ℕ → Bool
is_free_page number page = (slice_index page 0 == 5) && has_zeros 1 3 page && (number_at 4 page == number) && has_zeros 12 4 page

-- the page to which a free page of this number links, 0 where it is the last; none where it isn't a free page in form
unfoldable pub free_link : ℕ → List ℕ → Option ℕ
free_link number page = some_if (is_free_page number page) (number_at 8 page)

-- bytes 0 to 11: kind 5, the number and the link
abbrev pub free_head : ℕ → ℕ → List ℕ
free_head number link = 5 ∷ 0 ∷ 0 ∷ 0 ∷ to_be_bytes w32 number ++ to_be_bytes w32 link

-- the bytes that are written as a free page
unfoldable pub free_bytes : ℕ → ℕ → List ℕ
free_bytes number link = free_head number link ++ replicate 4084 0
