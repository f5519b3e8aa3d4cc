-- Root pages are read as they were written, and written as they are read.
use Rattle.std.proofs.Common.{◌≡◌, ◌≤◌, ℕ, true, List, [], ◌∷◌, ◌++◌, length, take, drop, replicate, refl, sym, ◌∙◌, ap, arith, Some, subst}
use Rattle.std.specs.Prelude.{nat_le, ◌==◌, ◌&&◌, ◌||◌, slice_index}
use Rattle.std.specs.Int.{w32, to_be_bytes}
use Rattle.std.proofs.lemmas.Bool.{leb-true, eqb-true}
use Rattle.std.proofs.lemmas.Bool.Decides.{nat_tests}
use Rattle.std.proofs.lemmas.List.{length-drop, take_all, take_at}
use Rattle.std.proofs.lemmas.Nat.{from_be_bytes-to_be_bytes_4}
use Rattle.std.proofs.lemmas.Option.{cond_some}
use Rattle.gaz_num.specs.Numbers.{some_if}
use Rattle.gaz_num.specs.Dates.{last_day}
use Rattle.gaz_num.proofs.CalendarLemmas.{and_left, and_right}
use Rattle.gaz_page.specs.declared.tree_root.Root.{Root}
use Rattle.gaz_page.specs.Root.{side_of, side_code, number_at, has_zeros}
use Rattle.gaz_page.specs.Laws.{IsBytes}
use Rattle.gaz_page.specs.TreeRoot.{FitsRoot, tree_head, tree_root_bytes, tree_root_in, tree_root_at, tree_fields, is_tree_root, has_tree_marks, has_tree_gaps}
use Rattle.gaz_page.proofs.Sides.{side_back, has_side, side_there}
use Rattle.gaz_page.proofs.Read.{zeros_there, number_there, number_fits, byte_there, joined}

fields_back : (root : Root) → FitsRoot root → tree_fields (tree_root_bytes root) ≡ root
fields_back root fits =
    let side = side_back root.side in
    let top = from_be_bytes-to_be_bytes_4 root.top fits.top in
    let fresh = from_be_bytes-to_be_bytes_4 root.fresh fits.fresh in
    let free = from_be_bytes-to_be_bytes_4 root.free fits.free in
    let day = from_be_bytes-to_be_bytes_4 root.day (omega (arith, fits.day)) in
    let rows = from_be_bytes-to_be_bytes_4 root.counts.rows fits.rows in
    let alternates = from_be_bytes-to_be_bytes_4 root.counts.alternates fits.alternates in
    let links = from_be_bytes-to_be_bytes_4 root.counts.links fits.links in
    let countries = from_be_bytes-to_be_bytes_4 root.counts.countries fits.countries in
    let codes = from_be_bytes-to_be_bytes_4 root.counts.codes fits.codes in
    let heap = from_be_bytes-to_be_bytes_4 root.heap fits.heap in
    λ i. record {
      side = side i;
      height = root.height;
      top = top i;
      fresh = fresh i;
      free = free i;
      day = day i;
      counts = record { rows = rows i; alternates = alternates i; links = links i; countries = countries i; codes = codes i };
      heap = heap i;
    }

is_back : (root : Root) → FitsRoot root → is_tree_root (tree_root_bytes root) ≡ true
is_back root fits =
    let day : number_at 20 (tree_root_bytes root) ≡ root.day = from_be_bytes-to_be_bytes_4 root.day (omega (arith, fits.day)) in
    let date : nat_le (number_at 20 (tree_root_bytes root)) last_day ≡ true = ap (λ (n : ℕ). nat_le n last_day) day ∙ (let le = fits.day in grind (arith, nat_tests)) in
    let least : nat_le 1 root.height ≡ true = let le = fits.least in grind (arith, nat_tests) in
    let most : nat_le root.height 6 ≡ true = let le = fits.most in grind (arith, nat_tests) in
    rw (has_side root.side, least, most, date) refl

pub tree_root_back : (root : Root) → FitsRoot root → tree_root_in (tree_root_bytes root) ≡ Some root
tree_root_back root fits = λ i. some_if (is_back root fits i) (fields_back root fits i)

-- what the test of a root page says
record IsTreeRoot (page : List ℕ) : Type 0 where
  size : length page ≡ 4096
  kind : slice_index page 0 ≡ 6
  version : slice_index page 1 ≡ 1
  side : side_code (side_of (slice_index page 4)) ≡ slice_index page 4
  gap_2 : take 2 (drop 2 page) ≡ replicate 2 0
  gap_6 : take 2 (drop 6 page) ≡ replicate 2 0
  gap_48 : take 4048 (drop 48 page) ≡ replicate 4048 0
  least : 1 ≤ slice_index page 5
  most : slice_index page 5 ≤ 6
  day : number_at 20 page ≤ last_day

is_root_says : (page : List ℕ) → is_tree_root page ≡ true → IsTreeRoot page
is_root_says page is =
    let size = length page == 4096 in
    let day = nat_le (number_at 20 page) last_day in
    let form = and_left (size && has_tree_marks page && has_tree_gaps page) day is in
    let marked = and_left (size && has_tree_marks page) (has_tree_gaps page) form in
    let marks = and_right size (has_tree_marks page) marked in
    let kind = slice_index page 0 == 6 in
    let version = slice_index page 1 == 1 in
    let side = slice_index page 4 == 3 || slice_index page 4 == 4 in
    let least = nat_le 1 (slice_index page 5) in
    let most = nat_le (slice_index page 5) 6 in
    let low = and_left (kind && version && side && least) most marks in
    let sided = and_left (kind && version && side) least low in
    let kinds = and_left (kind && version) side sided in
    let gaps = and_right (size && has_tree_marks page) (has_tree_gaps page) form in
    let gap_2 = has_zeros 2 2 page in
    let gap_6 = has_zeros 6 2 page in
    let gap_48 = has_zeros 48 4048 page in
    let two = and_left (gap_2 && gap_6) gap_48 gaps in
    record {
      size = eqb-true (length page) 4096 (and_left size (has_tree_marks page) marked);
      kind = eqb-true (slice_index page 0) 6 (and_left kind version kinds);
      version = eqb-true (slice_index page 1) 1 (and_right kind version kinds);
      side = side_there (slice_index page 4) (and_right (kind && version) side sided);
      gap_2 = zeros_there 2 2 page (and_left gap_2 gap_6 two);
      gap_6 = zeros_there 6 2 page (and_right gap_2 gap_6 two);
      gap_48 = zeros_there 48 4048 page (and_right (gap_2 && gap_6) gap_48 gaps);
      least = leb-true 1 (slice_index page 5) (and_right (kind && version && side) least low);
      most = leb-true (slice_index page 5) 6 (and_right (kind && version && side && least) most marks);
      day = leb-true (number_at 20 page) last_day (and_right (size && has_tree_marks page && has_tree_gaps page) day is);
    }

-- the bytes up to 48 and what stands behind them
head_there : (page rest : List ℕ) → IsTreeRoot page → IsBytes page → drop 48 page ≡ rest → page ≡ tree_head (tree_fields page) ++ rest
head_there page rest is bytes behind =
    let size = is.size in
    let at_44 = joined 44 4 page (to_be_bytes w32 (number_at 44 page)) _ (number_there 44 page (omega (arith, size)) bytes) behind in
    let at_40 = joined 40 4 page (to_be_bytes w32 (number_at 40 page)) _ (number_there 40 page (omega (arith, size)) bytes) at_44 in
    let at_36 = joined 36 4 page (to_be_bytes w32 (number_at 36 page)) _ (number_there 36 page (omega (arith, size)) bytes) at_40 in
    let at_32 = joined 32 4 page (to_be_bytes w32 (number_at 32 page)) _ (number_there 32 page (omega (arith, size)) bytes) at_36 in
    let at_28 = joined 28 4 page (to_be_bytes w32 (number_at 28 page)) _ (number_there 28 page (omega (arith, size)) bytes) at_32 in
    let at_24 = joined 24 4 page (to_be_bytes w32 (number_at 24 page)) _ (number_there 24 page (omega (arith, size)) bytes) at_28 in
    let at_20 = joined 20 4 page (to_be_bytes w32 (number_at 20 page)) _ (number_there 20 page (omega (arith, size)) bytes) at_24 in
    let at_16 = joined 16 4 page (to_be_bytes w32 (number_at 16 page)) _ (number_there 16 page (omega (arith, size)) bytes) at_20 in
    let at_12 = joined 12 4 page (to_be_bytes w32 (number_at 12 page)) _ (number_there 12 page (omega (arith, size)) bytes) at_16 in
    let at_8 = joined 8 4 page (to_be_bytes w32 (number_at 8 page)) _ (number_there 8 page (omega (arith, size)) bytes) at_12 in
    let at_6 = joined 6 2 page (replicate 2 0) _ is.gap_6 at_8 in
    let at_5 = joined 5 1 page (slice_index page 5 ∷ []) _ (byte_there 5 page (omega (arith, size))) at_6 in
    let side = byte_there 4 page (omega (arith, size)) ∙ ap (λ (b : ℕ). b ∷ []) (sym is.side) in
    let at_4 = joined 4 1 page (side_code (side_of (slice_index page 4)) ∷ []) _ side at_5 in
    let at_2 = joined 2 2 page (replicate 2 0) _ is.gap_2 at_4 in
    let at_1 = joined 1 1 page (1 ∷ []) _ (byte_there 1 page (omega (arith, size)) ∙ ap (λ (b : ℕ). b ∷ []) is.version) at_2 in
    joined 0 1 page (6 ∷ []) _ (byte_there 0 page (omega (arith, size)) ∙ ap (λ (b : ℕ). b ∷ []) is.kind) at_1

page_there : (page : List ℕ) → IsTreeRoot page → IsBytes page → page ≡ tree_root_bytes (tree_fields page)
page_there page is bytes =
    head_there page (replicate 4048 0) is bytes (sym (take_all 4048 (drop 48 page) (omega (arith, is.size, length-drop 48 page))) ∙ is.gap_48)

pub tree_root_forth : (page : List ℕ) (root : Root) → IsBytes page → tree_root_in page ≡ Some root → page ≡ tree_root_bytes root
tree_root_forth page root bytes is =
    let read = cond_some (is_tree_root page) (tree_fields page) root is in
    page_there page (is_root_says page read.0) bytes ∙ ap tree_root_bytes read.1

pub tree_root_first : (root : Root) (rest : List ℕ) → FitsRoot root → tree_root_at (tree_root_bytes root ++ rest) ≡ Some root
tree_root_first root rest fits = ap tree_root_in (take_at (tree_root_bytes root) rest 4096 refl) ∙ tree_root_back root fits

fields_fit : (page : List ℕ) → IsTreeRoot page → IsBytes page → FitsRoot (tree_fields page)
fields_fit page is bytes =
    let size = is.size in
    record {
      least = is.least;
      most = is.most;
      top = number_fits 8 page (omega (arith, size)) bytes;
      fresh = number_fits 12 page (omega (arith, size)) bytes;
      free = number_fits 16 page (omega (arith, size)) bytes;
      day = is.day;
      rows = number_fits 24 page (omega (arith, size)) bytes;
      alternates = number_fits 28 page (omega (arith, size)) bytes;
      links = number_fits 32 page (omega (arith, size)) bytes;
      countries = number_fits 36 page (omega (arith, size)) bytes;
      codes = number_fits 40 page (omega (arith, size)) bytes;
      heap = number_fits 44 page (omega (arith, size)) bytes;
    }

pub tree_root_fits : (page : List ℕ) (root : Root) → IsBytes page → tree_root_in page ≡ Some root → FitsRoot root
tree_root_fits page root bytes is =
    let read = cond_some (is_tree_root page) (tree_fields page) root is in
    subst FitsRoot read.1 (fields_fit page (is_root_says page read.0) bytes)
