-- The pairs of a tree over pages that stand for a gazetteer are there for the keys of its lines: each for one, and one for each.
use Rattle.std.proofs.Common.{◌≡◌, ◌≤◌, ◌^◌, ℕ, List, [], refl, subst, Option, Some, None}
use Rattle.std.specs.Prelude.{Contains, IsSome}
use Rattle.std.proofs.lemmas.List.Elements.{All-contains}
use Rattle.gaz_num.specs.declared.words.Table.{Table}
use Rattle.gaz_plain.specs.Gazetteer.{Gazetteer, IsLine, kind_in, lines_in}
use Rattle.gaz_page.specs.declared.tree_root.Root.{Root}
use Rattle.gaz_page.specs.Pages.{PagesView}
use Rattle.gaz_heap.specs.Place.{record_at}
use Rattle.gaz_leaf.specs.Node.{Pair, key_of}
use Rattle.gaz_tree.specs.Pairs.{Within, lookup}
use Rattle.gaz_tree.proofs.Fans.{head_within}
use Rattle.gaz_scan.specs.Ranges.{between}
use Rattle.gaz_rows.specs.Index.{line_keys}
use Rattle.gaz_rows.specs.Store.{IsStore}
use Rattle.gaz_rows.proofs.Counting.{map_from}
use Rattle.gaz_rows.proofs.PairsPlaces.{pair_there}
use Rattle.gaz_rows.proofs.Ranged.{each_found, in_range, range_rises, found_in_range}
use Rattle.gaz_rows.proofs.RoomPairs.{pair_of_line}

module _ (gaz : Gazetteer) (v : PagesView) (root : Root) (stands : IsStore gaz v root) where
  pub within : Within 0 (2 ^ 256) stands.pairs
  within = subst (Within 0 (2 ^ 256)) stands.tree.holds (head_within v.page stands.tree.level root.top 0 (2 ^ 256) stands.tree.head)

  -- each line is one of its kind
  pub is_line : (table : Table) (line : List ℕ) → Contains (lines_in gaz table) line → IsLine (kind_in table) line
  is_line table line there = All-contains (IsLine (kind_in table)) (lines_in gaz table) line (stands.is_gazetteer.tables table).each there

  -- A line of the gazetteer has a key with this number.
  pub record IsOfLine (number : ℕ) : Type 0 where
    pub table : Table
    pub line : List ℕ
    pub key : List ℕ
    pub there : Contains (lines_in gaz table) line
    pub among : Contains (line_keys stands.slots table line) key
    pub is : key_of key ≡ number

  of_line : (p : Pair) → Contains stands.pairs p → IsOfLine p.key
  of_line p has =
      let of = pair_of_line [] stands.slots gaz stands.pairs (record_at v.page) stands.indexed within p has in
      let key = map_from key_of (line_keys stands.slots of.0 of.1.0) p.key of.1.2 in
      record { table = of.0; line = of.1.0; key = key.0; there = of.1.1; among = key.1; is = key.2 }

  -- the key of a line has a pair
  pub has_pair : (table : Table) (line key : List ℕ) → Contains (lines_in gaz table) line → Contains (line_keys stands.slots table line) key → IsSome (lookup (key_of key) stands.pairs)
  has_pair table line key there among = stands.indexed.all key (record { table = table; line = line; there = there; among = among })

  module _ (low high : ℕ) where
    -- the pairs of a range of keys
    abbrev pub range : List Pair
    range = between low high stands.pairs

    pub range_within : Within 0 (2 ^ 256) range
    range_within = range_rises low high 0 (2 ^ 256) stands.pairs within

    -- A pair of the range is there for a line, and its key lies in the range.
    pub record IsIn (p : Pair) : Type 0 where
      pub from : low ≤ p.key
      pub to : p.key ≤ high
      pub of : IsOfLine p.key

    pub each_in : (p : Pair) → Contains range p → IsIn p
    each_in p has =
        let all = in_range (λ q. (0 ≤ q.key) × (lookup q.key stands.pairs ≡ Some q.value)) low high stands.pairs (each_found 0 (2 ^ 256) stands.pairs within) in
        let one = All-contains (λ q. ((0 ≤ q.key) × (lookup q.key stands.pairs ≡ Some q.value)) × (low ≤ q.key) × (q.key ≤ high)) range p all has in
        record { from = one.1; to = one.2; of = of_line p (pair_there p.key p.value stands.pairs one.0.1) }

    pub found_in : (p : Pair) → Contains range p → lookup p.key stands.pairs ≡ Some p.value
    found_in p has =
        let all = in_range (λ q. (0 ≤ q.key) × (lookup q.key stands.pairs ≡ Some q.value)) low high stands.pairs (each_found 0 (2 ^ 256) stands.pairs within) in
        (All-contains (λ q. ((0 ≤ q.key) × (lookup q.key stands.pairs ≡ Some q.value)) × (low ≤ q.key) × (q.key ≤ high)) range p all has).0.1

    -- Each key of a line in the range has a pair there.
    pub pair_in : (table : Table) (line key : List ℕ) → Contains (lines_in gaz table) line → Contains (line_keys stands.slots table line) key → low ≤ key_of key → key_of key ≤ high
        → (value : ℕ) × Contains range (record { key = key_of key; value = value })
    pair_in table line key there among from to = by (lookup (key_of key) stands.pairs) refl (has_pair table line key there among)
      where
        by : (found : Option ℕ) → lookup (key_of key) stands.pairs ≡ found → IsSome (lookup (key_of key) stands.pairs) → (value : ℕ) × Contains range (record { key = key_of key; value = value })
        by None is some = absurd (cc)
        by (Some value) is some = (value, found_in_range low high (key_of key) value stands.pairs is from to)
