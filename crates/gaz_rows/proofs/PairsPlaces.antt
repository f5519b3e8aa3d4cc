-- The places among the pairs of a tree, before and after a step.
use Rattle.std.proofs.Common.{◌≡◌, ◌≢◌, ◌<◌, ◌≤◌, ◌^◌, ℕ, suc, List, [], ◌∷◌, refl, sym, ◌∙◌, ap, arith, subst, inl, inr, true, Option, Some, None}
use Rattle.std.specs.Prelude.{◌⊎◌, Contains, not, ◌==◌, filter}
use Rattle.std.proofs.lemmas.Bool.{cases_eq, ne_eqb, eq-eqb}
use Rattle.gaz_num.specs.declared.words.Table.{Table}
use Rattle.gaz_plain.specs.Gazetteer.{Gazetteer, lines_in}
use Rattle.gaz_leaf.specs.Node.{Pair, key_of}
use Rattle.gaz_tree.specs.Pairs.{Within, lookup, put}
use Rattle.gaz_tree.proofs.Lists.{lookup-other, lookup-same, Within-put}
use Rattle.gaz_keys.specs.Keys.{IsKey}
use Rattle.gaz_keys.specs.Parts.{tag_of, has_place}
use Rattle.gaz_keys.specs.Lines.{more_keys}
use Rattle.gaz_keys.proofs.Tags.{contained, contained_none, more_placeless}
use Rattle.gaz_rows.specs.Index.{Slots, line_key, line_keys, IsIndexed}
use Rattle.gaz_rows.specs.Stands.{value_in, tag_in, places_in}
use Rattle.gaz_rows.specs.Work.{put_zeros, without_all, missing_in}
use Rattle.gaz_rows.specs.Steps.{keys_by, more_by, IsOne, AreReplaced, KeysTell, LineKeysFit, KeysStepped, RecordsStepped, RecordsLeft, SameMembers, pair_at, pairs_after, place_by, but_old, with_new}
use Rattle.gaz_rows.proofs.Members.{head_is_in, tail_is_in}
use Rattle.gaz_rows.proofs.Keyed.{some_inj}
use Rattle.gaz_rows.proofs.Numbers.{same_key, key_small}
use Rattle.gaz_rows.proofs.Counting.{map_contains, map_from, passed}
use Rattle.gaz_rows.proofs.RoomPairs.{bytes_of, bytes_fit, number_back, tag_back, key_below, IsOfLine, place_of_line}
use Rattle.gaz_rows.proofs.Reindexed.{is_in, by_line, of_line}
use Rattle.gaz_rows.proofs.ReindexedLines.{filter_has, false_is_true, none_is_some}
use Rattle.gaz_rows.proofs.Pairs.{AllKeys, behind_keys, first_key, rising_without_all, missing_had}
use Rattle.gaz_rows.proofs.PairsStepped.{place_tag}

-- ---- places by look-ups

-- what a look-up finds is there
pub pair_there : (key value : ℕ) (pairs : List Pair) → lookup key pairs ≡ Some value → Contains pairs (record { key = key; value = value })
pair_there key value [] is = absurd (none_is_some value is)
pair_there key value (p ∷ ps) is = elim (cases_eq p.key key) [
  | inl same ↦
      let found = some_inj p.value value (sym (lookup-same key p ps same) ∙ is) in
      subst (Contains (p ∷ ps)) (λ i. record { key = same i; value = found i }) (head_is_in p ps)
  | inr differs ↦ tail_is_in p ps (record { key = key; value = value }) (pair_there key value ps (sym (lookup-other key p ps differs) ∙ is))
]

key_from : (low high : ℕ) (pairs : List Pair) (p : Pair) → Within low high pairs → Contains pairs p → low ≤ p.key
key_from low high [] p rising has = absurd (contained_none p has)
key_from low high (q ∷ qs) p rising has = elim (contained q qs p has) [
  | inl is ↦ subst (λ r. low ≤ r.key) is rising.0
  | inr later ↦ (let first = rising.0 in let more = key_from (suc q.key) high qs p rising.1 later in omega (arith, first, more))
]

-- what is there is found, where keys rise
pub pair_found : (low high : ℕ) (pairs : List Pair) (p : Pair) → Within low high pairs → Contains pairs p → lookup p.key pairs ≡ Some p.value
pair_found low high [] p rising has = absurd (contained_none p has)
pair_found low high (q ∷ qs) p rising has = elim (contained q qs p has) [
  | inl is ↦ lookup-same p.key q qs (ap (λ r. r.key) is) ∙ ap (λ r. Some r.value) is
  | inr later ↦ (let more = key_from (suc q.key) high qs p rising.1 later in lookup-other p.key q qs (omega (arith, more)) ∙ pair_found (suc q.key) high qs p rising.1 later)
]

-- The place is the value of this key.
pub record IsAt (pairs : List Pair) (place : ℕ) : Type 0 where
  pub key : ℕ
  pub small : key < 2 ^ 256
  pub tag : has_place (tag_in key) ≡ true
  pub at : lookup key pairs ≡ Some place

pub place_at : (low : ℕ) (pairs : List Pair) (place : ℕ) → Within low (2 ^ 256) pairs → Contains (places_in pairs) place → IsAt pairs place
place_at low pairs place rising has =
    let from = map_from (λ pair. pair.value) (filter (λ pair. has_place (tag_in pair.key)) pairs) place has in
    let there = passed (λ pair. has_place (tag_in pair.key)) pairs from.0 from.1 in
    record {
      key = from.0.key;
      small = key_below low (2 ^ 256) pairs from.0 rising there.0;
      tag = there.1;
      at = pair_found low (2 ^ 256) pairs from.0 rising there.0 ∙ ap Some from.2;
    }

pub at_place : (key place : ℕ) (pairs : List Pair) → has_place (tag_in key) ≡ true → lookup key pairs ≡ Some place → Contains (places_in pairs) place
at_place key place pairs tag at =
    map_contains (λ pair. pair.value) (filter (λ pair. has_place (tag_in pair.key)) pairs) (record { key = key; value = place })
    (filter_has (λ pair. has_place (tag_in pair.key)) pairs (record { key = key; value = place }) (pair_there key place pairs at) tag)

-- the tag of a key is that of its number
pub tag_key : (key : List ℕ) → IsKey key → tag_in (key_of key) ≡ tag_of key
tag_key key is =
    let small = key_small key is in
    sym (tag_back (key_of key) small) ∙ ap tag_of (same_key (bytes_of (key_of key)) key (bytes_fit (key_of key)) is (number_back (key_of key) small))

-- ---- places but one

pub but_in : (spot : Option ℕ) (places : List ℕ) (place : ℕ) → Contains places place → ((one : ℕ) → spot ≡ Some one → place ≢ one) → Contains (but_old spot places) place
but_in None places place has differs = has
but_in (Some one) places place has differs = filter_has (λ other. not (other == one)) places place has (ap not (ne_eqb place one (differs one refl)))

pub but_from : (spot : Option ℕ) (places : List ℕ) (place : ℕ) → Contains (but_old spot places) place → Contains places place × ((one : ℕ) → spot ≡ Some one → place ≢ one)
but_from None places place has = (has, λ one is. absurd (none_is_some one is))
but_from (Some one) places place has =
    let was = passed (λ other. not (other == one)) places place has in
    (was.0, λ other is same. false_is_true (sym (ap not (eq-eqb place one (same ∙ sym (some_inj one other is)))) ∙ was.1))

pub new_in : (new : Option (List ℕ)) (place : ℕ) (places : List ℕ) (line : List ℕ) → new ≡ Some line → Contains (with_new new place places) place
new_in None place places line is = absurd (none_is_some line is)
new_in (Some l) place places line is = head_is_in place places

pub old_in : (new : Option (List ℕ)) (place : ℕ) (places : List ℕ) (other : ℕ) → Contains places other → Contains (with_new new place places) other
old_in None place places other has = has
old_in (Some l) place places other has = tail_is_in place places other has

new_from : (new : Option (List ℕ)) (place : ℕ) (places : List ℕ) (other : ℕ) → Contains (with_new new place places) other → ((line : List ℕ) × (new ≡ Some line) × (place ≡ other)) ⊎ Contains places other
new_from None place places other has = inr has
new_from (Some line) place places other has = elim (contained place places other has) [
  | inl is ↦ inl (line, refl, is)
  | inr later ↦ inr later
]

-- where a line stands
spot_from : (slots : Slots) (table : Table) (pairs : List Pair) (old : Option (List ℕ)) (one : ℕ) → place_by slots table pairs old ≡ Some one → (line : List ℕ) × (old ≡ Some line) × (lookup (key_of (line_key slots table line)) pairs ≡ Some one)
spot_from slots table pairs None one is = absurd (none_is_some one is)
spot_from slots table pairs (Some line) one is = (line, refl, is)

-- ---- keys rise still

pub rising_put : (key : List ℕ) (value : ℕ) (pairs : List Pair) → IsKey key → Within 0 (2 ^ 256) pairs → Within 0 (2 ^ 256) (put (pair_at key value) pairs)
rising_put key value pairs is rising = Within-put 0 (2 ^ 256) (pair_at key value) pairs (omega arith) (key_small key is) rising

pub rising_zeros : (keys : List (List ℕ)) (pairs : List Pair) → AllKeys keys → Within 0 (2 ^ 256) pairs → Within 0 (2 ^ 256) (put_zeros keys pairs)
rising_zeros [] pairs all rising = rising
rising_zeros (key ∷ keys) pairs all rising = rising_zeros keys (put (pair_at key 0) pairs) (behind_keys key keys all) (rising_put key 0 pairs (first_key key keys all) rising)

pub rising_after : (slots : Slots) (table : Table) (old new : Option (List ℕ)) (place : ℕ) (pairs : List Pair) → AllKeys (keys_by slots table new) → Within 0 (2 ^ 256) pairs → Within 0 (2 ^ 256) (pairs_after slots table old new place pairs)
rising_after slots table old None place pairs all rising = rising_without_all (keys_by slots table old) 0 (2 ^ 256) pairs rising
rising_after slots table old (Some line) place pairs all rising =
    let key = line_key slots table line in
    let more = more_keys table line in
    let out = missing_in more (more_by table old) in
    rising_zeros (missing_in (more_by table old) more) (put (pair_at key place) (without_all out pairs))
    (λ k has. all k (tail_is_in key more k (missing_had (more_by table old) more k has).0))
    (rising_put key place (without_all out pairs) (all key (head_is_in key more)) (rising_without_all out 0 (2 ^ 256) pairs rising))

-- ---- the places of the lines

module _ (slots : Slots) (gaz : Gazetteer) (pairs : List Pair) (bytes : ℕ → Option (List ℕ)) (held : IsIndexed slots gaz (value_in [] pairs) bytes) (rising : Within 0 (2 ^ 256) pairs) (fit : LineKeysFit slots gaz) where
  line_fits : (table : Table) (line : List ℕ) → Contains (lines_in gaz table) line → IsKey (line_key slots table line)
  line_fits table line there = fit table line (line_key slots table line) there (head_is_in (line_key slots table line) (more_keys table line))

  line_tag : (table : Table) (line : List ℕ) → IsKey (line_key slots table line) → has_place (tag_in (key_of (line_key slots table line))) ≡ true
  line_tag table line is = ap has_place (tag_key (line_key slots table line) is) ∙ place_tag slots table line

  -- the line of a place
  line_at : (key place : ℕ) → has_place (tag_in key) ≡ true → lookup key pairs ≡ Some place → IsOfLine slots gaz key
  line_at key place tag at =
      let pair : Pair = record { key = key; value = place } in
      place_of_line [] slots gaz pairs bytes held rising pair (filter_has (λ p. has_place (tag_in p.key)) pairs pair (pair_there key place pairs at) tag)

  -- No place has two keys.
  pub places_apart : (one other place : ℕ) → has_place (tag_in one) ≡ true → has_place (tag_in other) ≡ true → lookup one pairs ≡ Some place → lookup other pairs ≡ Some place → one ≡ other
  places_apart one other place tag tag_too at also =
      let first = line_at one place tag at in
      let second = line_at other place tag_too also in
      let value_one : lookup (key_of (line_key slots first.table first.line)) pairs ≡ Some place = ap (λ k. lookup k pairs) first.is ∙ at in
      let value_two : lookup (key_of (line_key slots second.table second.line)) pairs ≡ Some place = ap (λ k. lookup k pairs) second.is ∙ also in
      let same = held.apart first.table second.table first.line second.line first.there second.there (value_one ∙ sym value_two) in
      sym first.is ∙ ap (λ t. key_of (line_key slots t first.line)) same.0 ∙ ap (λ l. key_of (line_key slots second.table l)) same.1 ∙ second.is

  module _ (next : Gazetteer) (table : Table) (old new : Option (List ℕ)) (place : ℕ) (replaced : AreReplaced gaz next table old new) where
    -- where the old line stands, and the places of the others
    abbrev spot : Option ℕ
    spot = place_by slots table pairs old

    abbrev others : List ℕ
    others = but_old spot (places_in pairs)

    -- a line that isn't the old one stands at one of these
    other_place : (other : Table) (line : List ℕ) (stood : ℕ) → Contains (lines_in gaz other) line → (IsOne table old other line → ⊥) → lookup (key_of (line_key slots other line)) pairs ≡ Some stood → Contains others stood
    other_place other line stood there isnt at =
        but_in spot (places_in pairs) stood (at_place (key_of (line_key slots other line)) stood pairs (line_tag other line (line_fits other line there)) at) differs
      where
        differs : (one : ℕ) → spot ≡ Some one → stood ≢ one
        differs one is same =
            let from = spot_from slots table pairs old one is in
            let both = held.apart other table line from.0 there (replaced.was from.0 from.1) (at ∙ ap Some same ∙ sym from.2) in
            isnt (both.0, from.1 ∙ ap Some (sym both.1))

    -- So what the records leave is what the lines need.
    pub records_stepped : (bytes_now : ℕ → Option (List ℕ)) → RecordsLeft new place others bytes bytes_now → RecordsStepped slots gaz table old new place (value_in [] pairs) bytes bytes_now
    records_stepped bytes_now left = record {
      there = left.there;
      others = λ other line stood there isnt at. left.same stood (other_place other line stood there isnt at);
      alone = λ other line another there isnt is at. left.unlisted another is (other_place other line place there isnt at);
    }

    -- the key with a place of the new line is no other line's
    pub not_another : KeysTell slots next → (line : List ℕ) → new ≡ Some line → (other : Table) (l : List ℕ) → Contains (lines_in gaz other) l → line_key slots other l ≡ line_key slots table line → IsOne table old other l
    not_another tell_now line is other l there same = elim (replaced.after other l there) [
      | inl one ↦ one
      | inr still ↦
          let told = tell_now other table l line (line_key slots other l) still (replaced.came line is) (head_is_in (line_key slots other l) (more_keys other l))
          (subst (Contains (line_keys slots table line)) (sym same) (head_is_in (line_key slots table line) (more_keys table line))) in
          let here : Contains (lines_in gaz table) line = subst (λ m. Contains (lines_in gaz table) m) told.1 (subst (λ t. Contains (lines_in gaz t) l) told.0 there) in
          (told.0, replaced.fresh line is here ∙ ap Some (sym told.1))
    ]

    -- ---- the places after a step

    module _ (now : List Pair) (keys : KeysStepped slots table old new place (value_in [] pairs) (value_in [] now)) (rising_now : Within 0 (2 ^ 256) now) (tell_now : KeysTell slots next) (fit_now : LineKeysFit slots next) where
      number : (key : ℕ) → key < 2 ^ 256 → key_of (bytes_of key) ≡ key
      number = number_back

      -- a key with a place, of a line, is the one by which it stands there
      is_place : (one : Option (List ℕ)) (line key : List ℕ) → one ≡ Some line → has_place (tag_of key) ≡ true → Contains (line_keys slots table line) key → line_key slots table line ≡ key
      is_place one line key is tag among = elim (contained (line_key slots table line) (more_keys table line) key among) [
        | inl same ↦ same
        | inr more ↦ absurd (false_is_true (sym (more_placeless table line key more) ∙ tag))
      ]

      bytes_tag : (key : ℕ) → key < 2 ^ 256 → has_place (tag_in key) ≡ true → has_place (tag_of (bytes_of key)) ≡ true
      bytes_tag key small tag = ap has_place (tag_back key small) ∙ tag

      -- by a key of the old line stands the old line
      old_spot : (key one : ℕ) → key < 2 ^ 256 → has_place (tag_in key) ≡ true → lookup key pairs ≡ Some one → Contains (keys_by slots table old) (bytes_of key) → spot ≡ Some one
      old_spot key one small tag at has =
          let of = by_line slots table old (bytes_of key) has in
          let same = is_place old of.0 (bytes_of key) of.1 (bytes_tag key small tag) of.2 in
          ap (place_by slots table pairs) of.1 ∙ ap (λ k. lookup (key_of k) pairs) same ∙ ap (λ k. lookup k pairs) (number key small) ∙ at

      to : (p : ℕ) → Contains (places_in now) p → Contains (with_new new place others) p
      to p has = elim (is_in (keys_by slots table new) key) [
        | inl in_new ↦
            let of = by_line slots table new key in_new in
            let same = is_place new of.0 key of.1 tag of.2 in
            let is : Some place ≡ Some p = sym (keys.at of.0 of.1) ∙ ap (λ k. lookup (key_of k) now) same ∙ at in
            subst (Contains (with_new new place others)) (some_inj place p is) (new_in new place others of.0 of.1)
        | inr not_new ↦ elim (is_in (keys_by slots table old) key) [
          | inl in_old ↦ absurd (none_is_some p (sym (keys.gone key in_old not_new) ∙ at))
          | inr not_old ↦ old_in new place others p (kept not_old (sym (keys.others key (bytes_fit found.key) not_old not_new) ∙ at))
        ]
      ]
        where
          found : IsAt now p
          found = place_at 0 now p rising_now has

          key : List ℕ
          key = bytes_of found.key

          tag : has_place (tag_of key) ≡ true
          tag = bytes_tag found.key found.small found.tag

          at : lookup (key_of key) now ≡ Some p
          at = ap (λ k. lookup k now) (number found.key found.small) ∙ found.at

          kept : (Contains (keys_by slots table old) key → ⊥) → lookup (key_of key) pairs ≡ Some p → Contains others p
          kept not_old was = but_in spot (places_in pairs) p (at_place found.key p pairs found.tag here) differs
            where
              here : lookup found.key pairs ≡ Some p
              here = ap (λ k. lookup k pairs) (sym (number found.key found.small)) ∙ was

              differs : (one : ℕ) → spot ≡ Some one → p ≢ one
              differs one is same =
                  let from = spot_from slots table pairs old one is in
                  let old_fits = line_fits table from.0 (replaced.was from.0 from.1) in
                  let keys_same = places_apart found.key (key_of (line_key slots table from.0)) p found.tag (line_tag table from.0 old_fits) here (from.2 ∙ ap Some (sym same)) in
                  let lists_same : line_key slots table from.0 ≡ key = same_key (line_key slots table from.0) key old_fits (bytes_fit found.key) (sym keys_same ∙ sym (number found.key found.small)) in
                  not_old (of_line slots table old from.0 key from.1 (subst (Contains (line_keys slots table from.0)) lists_same (head_is_in (line_key slots table from.0) (more_keys table from.0))))

      from : (p : ℕ) → Contains (with_new new place others) p → Contains (places_in now) p
      from p has = elim (new_from new place others p has) [
        | inl one ↦
            let there = replaced.came one.0 one.1 in
            let fits = fit_now table one.0 (line_key slots table one.0) there (head_is_in (line_key slots table one.0) (more_keys table one.0)) in
            subst (Contains (places_in now)) one.2 (at_place (key_of (line_key slots table one.0)) place now (line_tag table one.0 fits) (keys.at one.0 one.1))
        | inr other ↦ stays (but_from spot (places_in pairs) p other)
      ]
        where
          stays : Contains (places_in pairs) p × ((one : ℕ) → spot ≡ Some one → p ≢ one) → Contains (places_in now) p
          stays was = at_place found.key p now found.tag (ap (λ k. lookup k now) (sym (number found.key found.small)) ∙ keys.others key (bytes_fit found.key) not_old not_new ∙ at)
            where
              found : IsAt pairs p
              found = place_at 0 pairs p rising was.0

              key : List ℕ
              key = bytes_of found.key

              at : lookup (key_of key) pairs ≡ Some p
              at = ap (λ k. lookup k pairs) (number found.key found.small) ∙ found.at

              not_old : Contains (keys_by slots table old) key → ⊥
              not_old in_old = was.1 p (old_spot found.key p found.small found.tag found.at in_old) refl

              not_new : Contains (keys_by slots table new) key → ⊥
              not_new in_new =
                  let of = by_line slots table new key in_new in
                  let same = is_place new of.0 key of.1 (bytes_tag found.key found.small found.tag) of.2 in
                  let line = line_at found.key p found.tag found.at in
                  let line_same : line_key slots line.table line.line ≡ key = same_key (line_key slots line.table line.line) key (line_fits line.table line.line line.there) (bytes_fit found.key) (line.is ∙ sym (number found.key found.small)) in
                  let one = not_another tell_now of.0 of.1 line.table line.line line.there (line_same ∙ sym same) in
                  not_old (of_line slots table old line.line key one.1 (subst (λ t. Contains (line_keys slots t line.line) key) one.0 (subst (Contains (line_keys slots line.table line.line)) line_same (head_is_in (line_key slots line.table line.line) (more_keys line.table line.line)))))

      -- The places then are those of the other lines, and that of the new one.
      pub places_stepped : SameMembers (places_in now) (with_new new place others)
      places_stepped = record { to = to; from = from }
