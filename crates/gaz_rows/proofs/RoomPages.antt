-- The pages that a tree, records and free pages take, as lists.
use Rattle.std.proofs.Common.{◌≡◌, ◌≤◌, ◌+◌, ◌*◌, ℕ, zero, suc, Bool, true, false, List, [], ◌∷◌, ◌++◌, length, map, refl, sym, ap, arith, subst, inl, inr, length-append}
use Rattle.std.specs.Prelude.{Contains, if◌then◌else◌, ◌==◌}
use Rattle.std.specs.List.{flat_map}
use Rattle.std.proofs.lemmas.List.Elements.{Contains-append_left, Contains-append_right}
use Rattle.gaz_leaf.specs.declared.kind.Kind.TheVariants.{Leaf, Inner}
use Rattle.gaz_leaf.specs.Node.{Pair}
use Rattle.gaz_slots.specs.Overflow.{next_in}
use Rattle.gaz_heap.specs.Chain.{chain_pages}
use Rattle.gaz_heap.specs.Place.{page_of, is_chain, pages_of}
use Rattle.gaz_tree.specs.Tree.{children_of, from_low, next_key, IsFan, IsHead, IsTree, tree_pairs, SomeEntry, Reaches}
use Rattle.gaz_tree.proofs.Apart.{length_pairs}
use Rattle.gaz_tree.proofs.Fans.{fan_pairs, fan_from_low}
use Rattle.gaz_rows.specs.Stands.{HasSlots}
use Rattle.gaz_rows.proofs.Counting.{map_contains, flat_most}
use Rattle.gaz_rows.proofs.Members.{head_is_in, tail_is_in}

-- ---- the tree

-- the pages of the tree below a page, and that page
abbrev pub tree_list : (ℕ → List ℕ) → ℕ → ℕ → List ℕ
tree_list pages zero page = page ∷ []
tree_list pages (suc level) page = page ∷ flat_map (λ e. tree_list pages level e.value) (children_of pages page)

abbrev fan_list : (ℕ → List ℕ) → ℕ → List Pair → List ℕ
fan_list pages level es = flat_map (λ e. tree_list pages level e.value) es

fan_has : (pages : ℕ → List ℕ) (level n : ℕ) (es : List Pair) → ((page : ℕ) → Reaches pages level page n → Contains (tree_list pages level page) n)
    → SomeEntry (λ e. Reaches pages level e.value n) es → Contains (fan_list pages level es) n
fan_has pages level n [] each some = absurd some
fan_has pages level n (e ∷ es) each (inl here) = Contains-append_left (tree_list pages level e.value) (fan_list pages level es) n (each e.value here)
fan_has pages level n (e ∷ es) each (inr behind) = Contains-append_right (tree_list pages level e.value) (fan_list pages level es) n (fan_has pages level n es each behind)

pub tree_has : (pages : ℕ → List ℕ) (level page n : ℕ) → Reaches pages level page n → Contains (tree_list pages level page) n
tree_has pages zero page n is = subst (Contains (page ∷ [])) (sym is) (head_is_in page [])
tree_has pages (suc level) page n (inl is) = subst (Contains (page ∷ fan_list pages level (children_of pages page))) (sym is) (head_is_in page (fan_list pages level (children_of pages page)))
tree_has pages (suc level) page n (inr some) =
    tail_is_in page (fan_list pages level (children_of pages page)) n (fan_has pages level n (children_of pages page) (λ child reach. tree_has pages level child n reach) some)

fan_list_low : (pages : ℕ → List ℕ) (level low : ℕ) (es : List Pair) → fan_list pages level (from_low low es) ≡ fan_list pages level es
fan_list_low pages level low [] = refl
fan_list_low pages level low (e ∷ es) = refl

length_low : (low : ℕ) (es : List Pair) → length (from_low low es) ≡ length es
length_low low [] = refl
length_low low (e ∷ es) = refl

-- Each page of a tree but the top has 51 entries or more, so that there are 50 pairs for each page, and one more.
fan_full : (pages : ℕ → List ℕ) (level high : ℕ) (es : List Pair)
    → ((page low high : ℕ) → IsTree pages level page low high → 50 * length (tree_list pages level page) + 1 ≤ length (tree_pairs pages level page))
    → IsFan (IsTree pages level) high es → 50 * length (fan_list pages level es) + length es ≤ length (fan_pairs pages level es)
fan_full pages level high [] each fan = omega arith
fan_full pages level high (e ∷ es) each fan =
    omega (
      arith,
      each e.value e.key (next_key high es) fan.0,
      fan_full pages level high es each fan.1,
      length-append (tree_list pages level e.value) (fan_list pages level es),
      length-append (tree_pairs pages level e.value) (fan_pairs pages level es),
    )

tree_full : (pages : ℕ → List ℕ) (level page low high : ℕ) → IsTree pages level page low high → 50 * length (tree_list pages level page) + 1 ≤ length (tree_pairs pages level page)
tree_full pages zero page low high tree = let many = tree.0.filled in omega (arith, many, length_pairs Leaf (pages page))
tree_full pages (suc level) page low high tree =
    let many = tree.0.filled in
    let es = children_of pages page in
    omega (
      arith,
      many,
      length_pairs Inner (pages page),
      length_low low es,
      fan_full pages level high (from_low low es) (tree_full pages level) tree.1.2,
      ap length (fan_list_low pages level low es),
      ap length (fan_from_low pages level low es),
    )

-- a whole tree has at most one page for each 50 pairs, and the top
pub top_full : (pages : ℕ → List ℕ) (level page low high : ℕ) → IsHead pages level page low high → 50 * length (tree_list pages level page) ≤ length (tree_pairs pages level page) + 50
top_full pages zero page low high head = omega arith
top_full pages (suc level) page low high head =
    let es = children_of pages page in
    omega (
      arith,
      length_low low es,
      fan_full pages level high (from_low low es) (tree_full pages level) head.2,
      ap length (fan_list_low pages level low es),
      ap length (fan_from_low pages level low es),
    )

-- ---- records

-- the pages with slots, and those kept for new records
abbrev pub slot_list : List ℕ → List ℕ → List ℕ
slot_list kept places = kept ++ map page_of places

pub slots_have : (kept places : List ℕ) (page : ℕ) → HasSlots kept places page → Contains (slot_list kept places) page
slots_have kept places page (inl used) =
    let less = used.1 in
    let is : page_of (page * 65536 + used.0) ≡ page = omega (arith, less) in
    Contains-append_right kept (map page_of places) page (subst (Contains (map page_of places)) is (map_contains page_of places (page * 65536 + used.0) used.2))
slots_have kept places page (inr is) = Contains-append_left kept (map page_of places) page is.0

-- the pages of chains
abbrev pub chain_list : (ℕ → List ℕ) → List ℕ → List ℕ
chain_list pages places = flat_map (pages_of pages) places

chain_few : (most : ℕ) (pages : ℕ → List ℕ) (page : ℕ) → length (chain_pages most pages page) ≤ most
unfolding chain_pages
chain_few zero pages page = omega arith
chain_few (suc most) pages page = by (next_in (pages page) == 0) (chain_few most pages (next_in (pages page)))
  where
    by : (b : Bool) → length (chain_pages most pages (next_in (pages page))) ≤ most → length (page ∷ (if b then [] else chain_pages most pages (next_in (pages page)))) ≤ suc most
    by true few = omega arith
    by false few = omega (arith, few)

pages_few : (pages : ℕ → List ℕ) (place : ℕ) → length (pages_of pages place) ≤ 17
unfolding pages_of
pages_few pages place = by (is_chain place)
  where
    by : (b : Bool) → length (if b then chain_pages 17 pages (page_of place) else (page_of place ∷ [])) ≤ 17
    by true = chain_few 17 pages (page_of place)
    by false = omega arith

pub chains_few : (pages : ℕ → List ℕ) (places : List ℕ) → length (chain_list pages places) ≤ 17 * length places
chains_few pages places = flat_most 17 (pages_of pages) places (pages_few pages)
