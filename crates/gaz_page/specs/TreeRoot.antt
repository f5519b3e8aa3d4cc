-- The root page, of version 1, which names a tree and pages: its bytes, and what they say. One of another version is none.
use Rattle.std.specs.Prelude.{ℕ, ◌<◌, ◌≤◌, ◌^◌, nat_le, Bool, ◌==◌, ◌&&◌, ◌||◌, List, ◌∷◌, ◌++◌, length, take, replicate, slice_index, Option}
use Rattle.std.specs.Int.{w32, to_be_bytes}
use Rattle.gaz_num.specs.Numbers.{some_if}
use Rattle.gaz_num.specs.Dates.{last_day}
use Rattle.gaz_page.specs.Root.{side_code, side_of, counts_bytes, counts_at, number_at, has_zeros}
use Rattle.gaz_page.specs.declared.tree_root.Root.{Root}

-- bytes 0 to 47: kind 6, version 1, the side, the height, the numbers of pages, the date, the numbers of lines, and the page for new records
abbrev pub tree_head : Root → List ℕ
tree_head root =
    6 ∷ 1 ∷ 0 ∷ 0 ∷ side_code root.side ∷ root.height ∷ 0 ∷ 0 ∷ to_be_bytes w32 root.top
    ++ to_be_bytes w32 root.fresh ++ to_be_bytes w32 root.free ++ to_be_bytes w32 root.day ++ counts_bytes root.counts ++ to_be_bytes w32 root.heap

-- the page, of 4,096 bytes
abbrev pub tree_root_bytes : Root → List ℕ
tree_root_bytes root = tree_head root ++ replicate 4048 0

-- each field in its place
abbrev pub tree_fields : List ℕ → Root
tree_fields page = record {
  side = side_of (slice_index page 4);
  height = slice_index page 5;
  top = number_at 8 page;
  fresh = number_at 12 page;
  free = number_at 16 page;
  day = number_at 20 page;
  counts = counts_at page;
  heap = number_at 44 page;
}

-- kind 6, version 1, the area Left or Right, and a height of 1 to 6
abbrev pub has_tree_marks : List ℕ → Bool
has_tree_marks page =
    (slice_index page 0 == 6) && (slice_index page 1 == 1) && (slice_index page 4 == 3 || slice_index page 4 == 4)
    && nat_le 1 (slice_index page 5) && nat_le (slice_index page 5) 6

-- zeros where no field stands
abbrev pub has_tree_gaps : List ℕ → Bool
has_tree_gaps page = has_zeros 2 2 page && has_zeros 6 2 page && has_zeros 48 4048 page

-- a page of 4,096 bytes with its marks and its zeros, and a date up to 9999-12-31
abbrev pub is_tree_root : List ℕ → Bool
is_tree_root page = (length page == 4096) && has_tree_marks page && has_tree_gaps page && nat_le (number_at 20 page) last_day

-- what a root page says, or none where these bytes aren't one
abbrev pub tree_root_in : List ℕ → Option Root
tree_root_in page = some_if (is_tree_root page) (tree_fields page)

-- what the root page says with which an area begins, or none where it begins with no such page
abbrev pub tree_root_at : List ℕ → Option Root
tree_root_at area = tree_root_in (take 4096 area)

-- The fields of a root fit into their places.
pub record FitsRoot (root : Root) : Type 0 where
  pub least : 1 ≤ root.height
  pub most : root.height ≤ 6
  pub top : root.top < 2 ^ 32
  pub fresh : root.fresh < 2 ^ 32
  pub free : root.free < 2 ^ 32
  pub day : root.day ≤ last_day
  pub rows : root.counts.rows < 2 ^ 32
  pub alternates : root.counts.alternates < 2 ^ 32
  pub links : root.counts.links < 2 ^ 32
  pub countries : root.counts.countries < 2 ^ 32
  pub codes : root.counts.codes < 2 ^ 32
  pub heap : root.heap < 2 ^ 32
