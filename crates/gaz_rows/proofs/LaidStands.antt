-- Pages that stand for a gazetteer are laid.
use Rattle.std.proofs.Common.{◌≡◌, ◌≤◌, ◌^◌, ℕ, suc, true, List, [], ◌∷◌, Some, sym, ap, ◌∙◌, subst, arith, inl, inr}
use Rattle.std.specs.Prelude.{Contains, option_and_then}
use Rattle.std.proofs.lemmas.Bool.{cases_Bool}
use Rattle.gaz_num.specs.Pieces.{column}
use Rattle.gaz_plain.specs.Gazetteer.{Gazetteer}
use Rattle.gaz_page.specs.declared.tree_root.Root.{Root}
use Rattle.gaz_page.specs.Pages.{PagesView}
use Rattle.gaz_page.specs.Chains.{Each, InUse}
use Rattle.gaz_leaf.specs.Node.{Pair}
use Rattle.gaz_tree.specs.Pairs.{Within, lookup}
use Rattle.gaz_tree.proofs.Lists.{lookup-same, lookup-other}
use Rattle.gaz_tree.proofs.Fans.{head_within}
use Rattle.gaz_heap.specs.Place.{pages_of, page_of, is_chain, record_at}
use Rattle.gaz_heap.proofs.Holds.{pages_slot}
use Rattle.gaz_heap.proofs.LongPuts.{each_from}
use Rattle.gaz_keys.specs.Parts.{has_place, tag_of}
use Rattle.gaz_keys.proofs.Tags.{contained, contained_none, tag_at, tag_has_place}
use Rattle.gaz_rows.specs.Index.{line_key}
use Rattle.gaz_rows.specs.Stands.{tree, slots, chain, StandsForBut, value_in, places_in, tag_in}
use Rattle.gaz_rows.specs.Laid.{IsLaid, ends_of, AreLaid}
use Rattle.gaz_rows.proofs.Counting.{map_from, passed}
use Rattle.gaz_rows.proofs.Got.{value_is}
use Rattle.gaz_rows.proofs.RoomPairs.{placed, place_of_line}
use Rattle.gaz_rows.proofs.LaidForms.{free_chain_of, contains_of}
use Rattle.gaz_rows.proofs.LaidParts.{slots_at}

-- the value of a pair is found at its key
pub value_there : (low high : ℕ) (ps : List Pair) (p : Pair) → Within low high ps → Contains ps p → (low ≤ p.key) × (lookup p.key ps ≡ Some p.value)
value_there low high [] p rising has = absurd (contained_none p has)
value_there low high (q ∷ qs) p rising has = elim (contained q qs p has) [
  | inl is ↦ (subst (λ (r : Pair). low ≤ r.key) is rising.0, lookup-same p.key q qs (ap (λ (r : Pair). r.key) is) ∙ ap (λ (r : Pair). Some r.value) is)
  | inr behind ↦
      let more = value_there (suc q.key) high qs p rising.1 behind in
      (omega (arith, more.0, rising.0), lookup-other p.key q qs (λ is. omega (arith, is, more.0)) ∙ more.1)
]

module _ (waiting : List (List ℕ)) (gaz : Gazetteer) (v : PagesView) (root : Root) (stands : StandsForBut waiting gaz v.page (ends_of v root)) where
  rising : Within 0 (2 ^ 256) stands.pairs
  rising = subst (Within 0 (2 ^ 256)) stands.tree.holds (head_within v.page stands.tree.level root.top 0 (2 ^ 256) stands.tree.head)

  -- at the place of a pair stands a line
  line_at : (p : Pair) → Contains (placed stands.pairs) p → (line : List ℕ) × (record_at v.page p.value ≡ Some line)
  line_at p has =
      let of = place_of_line waiting stands.slots gaz stands.pairs (record_at v.page) stands.indexed rising p has in
      let key = line_key stands.slots of.table of.line in
      let placed_key : has_place (tag_of key) ≡ true = ap has_place (tag_at of.table (stands.slots (column 1 of.line)) of.line) ∙ tag_has_place of.table in
      let there = (passed (λ pair. has_place (tag_in pair.key)) stands.pairs p has).0 in
      let value : value_in waiting stands.pairs key ≡ Some p.value =
      value_is waiting gaz v.page (ends_of v root) stands key placed_key ∙ ap (λ n. lookup n stands.pairs) of.is ∙ (value_there 0 (2 ^ 256) stands.pairs p rising there).1 in
      (of.line, sym (ap (option_and_then (record_at v.page)) value) ∙ stands.indexed.lines of.table of.line of.there)

  record_there : (place : ℕ) → Contains (places_in stands.pairs) place → (line : List ℕ) × (record_at v.page place ≡ Some line)
  record_there place has =
      let from = map_from (λ (pair : Pair). pair.value) (placed stands.pairs) place has in
      let at = line_at from.0 from.1 in
      (at.0, ap (λ (p : ℕ). record_at v.page p) (sym from.2) ∙ at.1)

  its_pages : (place : ℕ) → Contains (places_in stands.pairs) place → Each (InUse v) (pages_of v.page place)
  its_pages place has = elim (cases_Bool (is_chain place)) [
    | inl long ↦ each_from (InUse v) (pages_of v.page place) (λ n among. stands.used_once.in_range n (chain place) (has, long, contains_of (pages_of v.page place) n among))
    | inr slotted ↦
        subst (Each (InUse v)) (sym (pages_slot v.page place slotted)) (stands.used_once.in_range (page_of place) slots (slots_at (root.heap ∷ []) (places_in stands.pairs) place slotted has), tt)
  ]

  pub are_laid_so : IsLaid v root stands.pairs (root.heap ∷ []) (places_in stands.pairs)
  are_laid_so = record {
    tree = record {
      top = stands.tree;
      lies = λ n reach. let low = stands.used_once.in_range n tree reach in record { start = omega (arith, low.0); end = low.1 };
      chain = record { frees = stands.used_once.frees; chain = free_chain_of v root (root.heap ∷ []) (places_in stands.pairs) stands.used_once };
    };
    held = λ place has. let at = record_there place has in (at.0, record { at = at.1; pages = its_pages place has });
    used_once = stands.used_once;
  }

pub are_laid : AreLaid
are_laid waiting gaz v root stands = are_laid_so waiting gaz v root stands
