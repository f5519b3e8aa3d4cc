-- Page numbers don't run out: a gazetteer within the limits of its tables leaves pages that can be taken.
use Rattle.std.proofs.Common.{◌≡◌, ◌<◌, ◌≤◌, ◌+◌, ◌-◌, ◌*◌, ◌^◌, ℕ, List, [], ◌∷◌, ◌++◌, length, map, ap, arith, subst, inl, inr, length-append}
use Rattle.std.specs.Prelude.{Contains}
use Rattle.std.proofs.lemmas.Bool.{cases_lt}
use Rattle.std.proofs.lemmas.List.{length-map}
use Rattle.std.proofs.lemmas.List.Elements.{Contains-append_left, Contains-append_right}
use Rattle.gaz_plain.specs.Gazetteer.{Gazetteer}
use Rattle.gaz_page.specs.declared.tree_root.Root.{Root}
use Rattle.gaz_page.specs.Pages.{PagesView}
use Rattle.gaz_page.proofs.FreeChains.{chain_unique}
use Rattle.gaz_heap.specs.Place.{record_at, page_of, pages_of}
use Rattle.gaz_tree.specs.Pairs.{Within}
use Rattle.gaz_tree.specs.Put.{HasChain}
use Rattle.gaz_tree.proofs.Fans.{head_within}
use Rattle.gaz_rows.specs.Stands.{StandsForBut, IsFor, Use, tree as for_tree, slots as for_slots, chain as for_chain, free as for_free, places_in}
use Rattle.gaz_rows.specs.Laid.{AreLeft, ends_of, HasRoom}
use Rattle.gaz_rows.proofs.Counting.{as_long, flat_contains}
use Rattle.gaz_rows.proofs.Members.{head_is_in, tail_is_in}
use Rattle.gaz_rows.proofs.RoomKeys.{pairs_few, places_few}
use Rattle.gaz_rows.proofs.RoomPages.{tree_list, tree_has, top_full, slot_list, slots_have, chain_list, chains_few}
use Rattle.gaz_rows.proofs.LaidForms.{free_chain_of}

module _ (waiting : List (List ℕ)) (gaz : Gazetteer) (v : PagesView) (root : Root) (stands : StandsForBut waiting gaz v.page (ends_of v root)) where
  abbrev places : List ℕ
  places = places_in stands.pairs

  abbrev tree_pages : List ℕ
  tree_pages = tree_list v.page (root.height - 1) root.top

  abbrev slot_pages : List ℕ
  slot_pages = slot_list (root.heap ∷ []) places

  abbrev chain_pages : List ℕ
  chain_pages = chain_list v.page places

  abbrev frees : List ℕ
  frees = stands.used_once.frees

  abbrev rest : List ℕ
  rest = slot_pages ++ (chain_pages ++ frees)

  -- page 0, and all that are for something
  abbrev all_pages : List ℕ
  all_pages = 0 ∷ tree_pages ++ rest

  in_rest : (page : ℕ) → Contains rest page → Contains all_pages page
  in_rest page has = tail_is_in 0 (tree_pages ++ rest) page (Contains-append_right tree_pages rest page has)

  listed : (page : ℕ) (what : Use) → IsFor v.page (ends_of v root) (root.heap ∷ []) places frees what page → Contains all_pages page
  listed page for_tree is = tail_is_in 0 (tree_pages ++ rest) page (Contains-append_left tree_pages rest page (tree_has v.page (root.height - 1) root.top page is))
  listed page for_slots is = in_rest page (Contains-append_left slot_pages (chain_pages ++ frees) page (slots_have (root.heap ∷ []) places page is))
  listed page (for_chain place) is =
      in_rest page (Contains-append_right slot_pages (chain_pages ++ frees) page (Contains-append_left chain_pages frees page (flat_contains (pages_of v.page) places place page is.0 is.2)))
  listed page for_free is = in_rest page (Contains-append_right slot_pages (chain_pages ++ frees) page (Contains-append_right chain_pages frees page is))

  each_listed : (page : ℕ) → page < v.fresh → Contains all_pages page
  each_listed page below = elim (cases_lt 0 page) [
    | inl some ↦ let used = stands.used_once.used page some below in listed page used.0 used.1
    | inr none ↦ subst (Contains all_pages) (let is : 0 ≡ page = omega (arith, none) in is) (head_is_in 0 (tree_pages ++ rest))
  ]

  -- Each page that was taken once is for something: the tree, a slot or a chain of 17 at most for each place, new records, or free.
  all_used : v.fresh ≤ 2 + length tree_pages + 18 * length places + length frees
  all_used =
      omega (
        arith,
        as_long v.fresh all_pages each_listed,
        length-append tree_pages rest,
        length-append slot_pages (chain_pages ++ frees),
        length-append chain_pages frees,
        length-append (root.heap ∷ []) (map page_of places),
        length-map places page_of,
        chains_few v.page places,
      )

  rising : Within 0 (2 ^ 256) stands.pairs
  rising = subst (Within 0 (2 ^ 256)) stands.tree.holds (head_within v.page stands.tree.level root.top 0 (2 ^ 256) stands.tree.head)

  few_tree : 50 * length tree_pages ≤ length stands.pairs + 50
  few_tree =
      let tall = stands.tree.tall in
      let level : root.height - 1 ≡ stands.tree.level = omega (arith, tall) in
      let full = top_full v.page stands.tree.level root.top 0 (2 ^ 256) stands.tree.head in
      omega (arith, full, ap length stands.tree.holds, ap (λ l. length (tree_list v.page l root.top)) level)

  -- whatever chain of free pages is looked at
  frees_as_long : (chain : HasChain v) → length frees ≡ length chain.frees
  frees_as_long chain = chain_unique v v.free frees chain.frees (free_chain_of v root (root.heap ∷ []) places stands.used_once) chain.chain

  -- so few pairs that no tree of height 6 is full
  pub tree_not_full : length stands.pairs < 2 ^ 30
  tree_not_full = omega (arith, pairs_few waiting stands.slots gaz stands.pairs (record_at v.page) stands.indexed rising stands.is_gazetteer)

  -- and that a step has some to spare
  pub pairs_left : length stands.pairs + 10 ≤ 2 ^ 30
  pairs_left = omega (arith, pairs_few waiting stands.slots gaz stands.pairs (record_at v.page) stands.indexed rising stands.is_gazetteer)

  pub enough : HasRoom 200 v
  enough chain =
      omega (
        arith,
        all_used,
        few_tree,
        frees_as_long chain,
        pairs_few waiting stands.slots gaz stands.pairs (record_at v.page) stands.indexed rising stands.is_gazetteer,
        places_few waiting stands.slots gaz stands.pairs (record_at v.page) stands.indexed rising stands.is_gazetteer,
      )

pub are_left : AreLeft
are_left waiting gaz v root stands = enough waiting gaz v root stands
