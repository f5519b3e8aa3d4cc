-- Keys that wait: the pairs once they are put, and a line that comes while they wait.
use Rattle.std.proofs.Common.{◌≡◌, ℕ, List, [], ◌∷◌, refl, sym, ◌∙◌, ap, inl, inr, true, false, Bool, Option, Some}
use Rattle.std.specs.Prelude.{Contains, is_some, bytes_eq, ◌==◌, nat_lt, if◌then◌else◌, option_and_then}
use Rattle.std.specs.List.{list_any}
use Rattle.std.proofs.lemmas.Bool.{eqb-true}
use Rattle.gaz_num.specs.declared.words.Table.{Table}
use Rattle.gaz_plain.specs.Gazetteer.{Gazetteer, IsGazetteer, lines_in}
use Rattle.gaz_leaf.specs.Node.{Pair, key_of}
use Rattle.gaz_tree.specs.Pairs.{lookup, put}
use Rattle.gaz_keys.specs.Keys.{IsKey}
use Rattle.gaz_keys.specs.Parts.{tag_of, has_place}
use Rattle.gaz_keys.specs.Lines.{more_keys}
use Rattle.gaz_rows.specs.Index.{Slots, line_key, IsIndexed}
use Rattle.gaz_rows.specs.Stands.{value_in, tag_in, places_in}
use Rattle.gaz_rows.specs.Work.{put_zeros}
use Rattle.gaz_rows.specs.Steps.{LineKeysFit, pair_at, ArePlaceless, SameKeys}
use Rattle.gaz_rows.proofs.Members.{head_is_in, tail_is_in}
use Rattle.gaz_rows.proofs.Reindexed.{is_in, is_placed}
use Rattle.gaz_rows.proofs.ReindexedLines.{false_is_true}
use Rattle.gaz_rows.proofs.ReindexedKeys.{lines_fit}
use Rattle.gaz_rows.proofs.Pairs.{AllKeys, behind_keys, first_key, zeros_there, zeros_elsewhere, any_in, in_any}
use Rattle.gaz_rows.proofs.PairsStepped.{place_tag}
use Rattle.gaz_rows.proofs.PairsPlaces.{at_place, tag_key}

-- ---- keys without a place leave the places

-- a key without a place doesn't change the places
pub places_put : (new : Pair) (pairs : List Pair) → has_place (tag_in new.key) ≡ false → places_in (put new pairs) ≡ places_in pairs
places_put new [] placeless = rw placeless refl
places_put new (p ∷ ps) placeless = by (nat_lt new.key p.key) refl (p.key == new.key) refl (places_put new ps placeless)
  where
    by : (less : Bool) → nat_lt new.key p.key ≡ less → (same : Bool) → (p.key == new.key) ≡ same → places_in (put new ps) ≡ places_in ps → places_in (put new (p ∷ ps)) ≡ places_in (p ∷ ps)
    by true is same e behind = rw is (rw placeless refl)
    by false is true e behind =
        let lacks : has_place (tag_in p.key) ≡ false = ap (λ k. has_place (tag_in k)) (eqb-true p.key new.key e) ∙ placeless in
        rw (is, e) (rw (placeless, lacks) refl)
    by false is false e behind = rw (is, e) (tested (has_place (tag_in p.key)) refl)
      where
        tested : (test : Bool) → has_place (tag_in p.key) ≡ test → places_in (p ∷ put new ps) ≡ places_in (p ∷ ps)
        tested true has = rw has (ap (λ more. p.value ∷ more) behind)
        tested false lacks = rw lacks behind

pub places_zeros : (keys : List (List ℕ)) (pairs : List Pair) → AllKeys keys → ArePlaceless keys → places_in (put_zeros keys pairs) ≡ places_in pairs
places_zeros [] pairs all placeless = refl
places_zeros (key ∷ keys) pairs all placeless =
    places_zeros keys (put (pair_at key 0) pairs) (behind_keys key keys all) (λ k has. placeless k (tail_is_in key keys k has))
    ∙ places_put (pair_at key 0) pairs (ap has_place (tag_key key (first_key key keys all)) ∙ placeless key (head_is_in key keys))

-- ---- the same index by other values and bytes

module _ (slots : Slots) (gaz : Gazetteer) (value value_now : List ℕ → Option ℕ) (bytes bytes_now : ℕ → Option (List ℕ)) (fit : LineKeysFit slots gaz) (same : (key : List ℕ) → IsKey key → value_now key ≡ value key) where
  at_line : (table : Table) (line : List ℕ) → Contains (lines_in gaz table) line → value_now (line_key slots table line) ≡ value (line_key slots table line)
  at_line table line there = same (line_key slots table line) (fit table line (line_key slots table line) there (head_is_in (line_key slots table line) (more_keys table line)))

  pub same_index : IsIndexed slots gaz value bytes → ((table : Table) (line : List ℕ) (place : ℕ) → Contains (lines_in gaz table) line → value (line_key slots table line) ≡ Some place → bytes_now place ≡ bytes place) → IsIndexed slots gaz value_now bytes_now
  same_index held stands = record {
    all = λ key of. ap is_some (same key (fit of.table of.line key of.there of.among)) ∙ held.all key of;
    only = λ key fits some. held.only key fits (sym (ap is_some (same key fits)) ∙ some);
    lines = λ table line there.
        let was = is_placed value bytes (line_key slots table line) line (held.lines table line there) in
        ap (option_and_then bytes_now) (at_line table line there ∙ was.at) ∙ stands table line was.place there was.at ∙ was.stands;
    zeros = λ table line key there more. same key (fit table line key there (tail_is_in (line_key slots table line) (more_keys table line) key more)) ∙ held.zeros table line key there more;
    apart = λ table other line another there also is. held.apart table other line another there also (sym (at_line table line there) ∙ is ∙ at_line other another also);
    slots_differ = held.slots_differ;
  }

-- ---- values while keys wait

module _ (waiting : List (List ℕ)) (pairs : List Pair) (key : List ℕ) where
  pub waits : Contains waiting key → value_in waiting pairs key ≡ Some 0
  waits has = ap (λ (b : Bool). if b then Some 0 else lookup (key_of key) pairs) (in_any key waiting has)

  pub waits_not : (Contains waiting key → ⊥) → value_in waiting pairs key ≡ lookup (key_of key) pairs
  waits_not lacks = by (list_any (bytes_eq key) waiting) refl
    where
      by : (b : Bool) → list_any (bytes_eq key) waiting ≡ b → (if b then Some 0 else lookup (key_of key) pairs) ≡ lookup (key_of key) pairs
      by true some = absurd (lacks (any_in key waiting some))
      by false none = refl

  -- a key with a place doesn't wait
  pub place_waits_not : ArePlaceless waiting → has_place (tag_of key) ≡ true → Contains waiting key → ⊥
  place_waits_not placeless has waits = false_is_true (sym (placeless key waits) ∙ has)

module _ (waiting keys : List (List ℕ)) (pairs : List Pair) (all : AllKeys keys) (same : SameKeys waiting keys) where
  -- what is found once they are put, in whatever order
  pub settled_value : (key : List ℕ) → IsKey key → value_in [] (put_zeros keys pairs) key ≡ value_in waiting pairs key
  settled_value key fits = elim (is_in keys key) [
    | inl has ↦ zeros_there keys key pairs all fits has ∙ sym (waits waiting pairs key (same.from key has))
    | inr lacks ↦ zeros_elsewhere keys key pairs all fits lacks ∙ sym (waits_not waiting pairs key (λ has. lacks (same.to key has)))
  ]

  module _ (slots : Slots) (gaz : Gazetteer) (bytes bytes_now : ℕ → Option (List ℕ)) (is : IsGazetteer gaz) (placeless : ArePlaceless waiting) (held : IsIndexed slots gaz (value_in waiting pairs) bytes) where
    fit : LineKeysFit slots gaz
    fit = lines_fit slots gaz is

    stood : ((place : ℕ) → Contains (places_in pairs) place → bytes_now place ≡ bytes place) → (table : Table) (line : List ℕ) (place : ℕ) → Contains (lines_in gaz table) line → value_in waiting pairs (line_key slots table line) ≡ Some place → bytes_now place ≡ bytes place
    stood kept table line place there at =
        let key = line_key slots table line in
        let fits = fit table line key there (head_is_in key (more_keys table line)) in
        let found : lookup (key_of key) pairs ≡ Some place = sym (waits_not waiting pairs key (place_waits_not waiting pairs key placeless (place_tag slots table line))) ∙ at in
        kept place (at_place (key_of key) place pairs (ap has_place (tag_key key fits) ∙ place_tag slots table line) found)

    -- Once keys that waited are put, the pairs hold the same gazetteer.
    pub settled_is_indexed : ((place : ℕ) → Contains (places_in pairs) place → bytes_now place ≡ bytes place) → IsIndexed slots gaz (value_in [] (put_zeros keys pairs)) bytes_now
    settled_is_indexed kept = same_index slots gaz (value_in waiting pairs) (value_in [] (put_zeros keys pairs)) bytes bytes_now fit settled_value held (stood kept)

    -- So they do while they wait, by the pairs with all put.
    pub as_settled : IsIndexed slots gaz (value_in [] (put_zeros keys pairs)) bytes
    as_settled = same_index slots gaz (value_in waiting pairs) (value_in [] (put_zeros keys pairs)) bytes bytes fit settled_value held (λ table line place there at. refl)

    -- Their places are the same.
    pub settled_places : places_in (put_zeros keys pairs) ≡ places_in pairs
    settled_places = places_zeros keys pairs all (λ key has. placeless key (same.from key has))
