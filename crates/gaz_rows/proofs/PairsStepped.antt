-- What a look-up finds among the pairs after a step.
use Rattle.std.proofs.Common.{◌≡◌, ◌≢◌, ℕ, List, [], refl, sym, ◌∙◌, ap, subst, inl, inr, true, false, Option, Some, None}
use Rattle.std.specs.Prelude.{Contains}
use Rattle.gaz_num.specs.Pieces.{column}
use Rattle.gaz_num.specs.declared.words.Table.{Table}
use Rattle.gaz_leaf.specs.Node.{Pair, key_of}
use Rattle.gaz_tree.specs.Pairs.{Within, lookup, put}
use Rattle.gaz_keys.specs.Keys.{IsKey}
use Rattle.gaz_keys.specs.Parts.{tag_of, has_place}
use Rattle.gaz_keys.specs.Lines.{more_keys}
use Rattle.gaz_keys.proofs.Tags.{contained_none, tag_at, tag_has_place, more_placeless}
use Rattle.gaz_rows.specs.Index.{Slots, line_key, line_keys}
use Rattle.gaz_rows.specs.Stands.{value_in}
use Rattle.gaz_rows.specs.Work.{put_zeros, without_all, missing_in}
use Rattle.gaz_rows.specs.Steps.{keys_by, more_by, pair_at, pairs_after, KeysStepped}
use Rattle.gaz_rows.proofs.Members.{head_is_in, tail_is_in}
use Rattle.gaz_rows.proofs.Keyed.{some_inj}
use Rattle.gaz_rows.proofs.Settled.{put_there, put_elsewhere}
use Rattle.gaz_rows.proofs.Reindexed.{is_in, more_of_line, more_but_line}
use Rattle.gaz_rows.proofs.Pairs.{AllKeys, numbers_differ, all_out_there, all_out_elsewhere, zeros_there, zeros_elsewhere, missing_has, missing_had}
use Rattle.gaz_rows.proofs.ReindexedLines.{false_is_true, none_is_some}

-- a key with a place
pub place_tag : (slots : Slots) (table : Table) (line : List ℕ) → has_place (tag_of (line_key slots table line)) ≡ true
place_tag slots table line = ap has_place (tag_at table (slots (column 1 line)) line) ∙ tag_has_place table

-- other keys have none
pub more_tag : (table : Table) (one : Option (List ℕ)) (key : List ℕ) → Contains (more_by table one) key → has_place (tag_of key) ≡ false
more_tag table None key has = absurd (contained_none key has)
more_tag table (Some line) key has = more_placeless table line key has

pub more_differ : (slots : Slots) (table : Table) (one : Option (List ℕ)) (line key : List ℕ) → Contains (more_by table one) key → key ≢ line_key slots table line
more_differ slots table one line key has is = false_is_true (sym (more_tag table one key has) ∙ ap (λ k. has_place (tag_of k)) is ∙ place_tag slots table line)

module _ (slots : Slots) (table : Table) (old : Option (List ℕ)) (place high : ℕ) (pairs : List Pair) (rising : Within 0 high pairs) (all_old : AllKeys (keys_by slots table old)) where
  -- where no line is put
  pub keys_out : KeysStepped slots table old None place (value_in [] pairs) (value_in [] (pairs_after slots table old None place pairs))
  keys_out = record {
    at = λ line is. absurd (none_is_some line is);
    zeros = λ key has. absurd (contained_none key has);
    gone = λ key has lacks. all_out_there (keys_by slots table old) key 0 high pairs rising all_old (all_old key has) has;
    others = λ key fits not_old not_new. all_out_elsewhere (keys_by slots table old) key pairs all_old fits not_old;
  }

  module _ (line : List ℕ) (all_new : AllKeys (line_keys slots table line)) (same_place : (was : List ℕ) → old ≡ Some was → line_key slots table was ≡ line_key slots table line) (zeros_old : (key : List ℕ) → Contains (more_by table old) key → lookup (key_of key) pairs ≡ Some 0) where
    -- the key with the place, and the other keys that only the old line has, and only the new one
    abbrev Key : List ℕ
    Key = line_key slots table line

    abbrev out : List (List ℕ)
    out = missing_in (more_keys table line) (more_by table old)

    abbrev come : List (List ℕ)
    come = missing_in (more_by table old) (more_keys table line)

    abbrev base : List Pair
    base = without_all out pairs

    abbrev now : List Pair
    now = put_zeros come (put (pair_at Key place) base)

    has_key : Contains (line_keys slots table line) Key
    has_key = head_is_in Key (more_keys table line)

    has_more : (key : List ℕ) → Contains (more_keys table line) key → Contains (line_keys slots table line) key
    has_more key more = tail_is_in Key (more_keys table line) key more

    all_out : AllKeys out
    all_out key has = all_old key (more_of_line slots table old key (missing_had (more_keys table line) (more_by table old) key has).0)

    all_come : AllKeys come
    all_come key has = all_new key (has_more key (missing_had (more_by table old) (more_keys table line) key has).0)

    key_fits : IsKey Key
    key_fits = all_new Key has_key

    not_come : Contains come Key → ⊥
    not_come has = more_differ slots table (Some line) line Key (missing_had (more_by table old) (more_keys table line) Key has).0 refl

    -- another key that doesn't come has the value that it had once keys were taken out
    past : (key : List ℕ) → IsKey key → key ≢ Key → (Contains come key → ⊥) → lookup (key_of key) now ≡ lookup (key_of key) base
    past key fits differs lacks =
        zeros_elsewhere come key (put (pair_at Key place) base) all_come fits lacks
        ∙ put_elsewhere (key_of key) (pair_at Key place) base (numbers_differ Key key key_fits fits (λ is. differs (sym is)))

    at_key : lookup (key_of Key) now ≡ Some place
    at_key = zeros_elsewhere come Key (put (pair_at Key place) base) all_come key_fits not_come ∙ put_there (pair_at Key place) base

    zeros_now : (key : List ℕ) → Contains (more_keys table line) key → lookup (key_of key) now ≡ Some 0
    zeros_now key has = elim (is_in (more_by table old) key) [
      | inl also ↦
          past key (all_new key (has_more key has)) (more_differ slots table (Some line) line key has) (λ c. (missing_had (more_by table old) (more_keys table line) key c).1 also)
          ∙ all_out_elsewhere out key pairs all_out (all_new key (has_more key has)) (λ o. (missing_had (more_keys table line) (more_by table old) key o).1 has)
          ∙ zeros_old key also
      | inr lacks ↦ zeros_there come key (put (pair_at Key place) base) all_come (all_new key (has_more key has)) (missing_has (more_by table old) (more_keys table line) key has lacks)
    ]

    gone_now : (key : List ℕ) → Contains (keys_by slots table old) key → (Contains (line_keys slots table line) key → ⊥) → lookup (key_of key) now ≡ None
    gone_now key has lacks =
        let differs : key ≢ Key = λ is. lacks (subst (Contains (line_keys slots table line)) (sym is) has_key) in
        let more = more_but_line slots table old key has (λ was is same. differs (sym same ∙ same_place was is)) in
        past key (all_old key has) differs (λ c. lacks (has_more key (missing_had (more_by table old) (more_keys table line) key c).0))
        ∙ all_out_there out key 0 high pairs rising all_out (all_old key has) (missing_has (more_keys table line) (more_by table old) key more (λ m. lacks (has_more key m)))

    others_now : (key : List ℕ) → IsKey key → (Contains (keys_by slots table old) key → ⊥) → (Contains (line_keys slots table line) key → ⊥) → lookup (key_of key) now ≡ lookup (key_of key) pairs
    others_now key fits not_old not_new =
        past key fits (λ is. not_new (subst (Contains (line_keys slots table line)) (sym is) has_key)) (λ c. not_new (has_more key (missing_had (more_by table old) (more_keys table line) key c).0))
        ∙ all_out_elsewhere out key pairs all_out fits (λ o. not_old (more_of_line slots table old key (missing_had (more_keys table line) (more_by table old) key o).0))

    -- where a line is put
    pub keys_in : KeysStepped slots table old (Some line) place (value_in [] pairs) (value_in [] (pairs_after slots table old (Some line) place pairs))
    keys_in = record {
      at = λ l is. subst (λ m. lookup (key_of (line_key slots table m)) now ≡ Some place) (some_inj line l is) at_key;
      zeros = zeros_now;
      gone = gone_now;
      others = others_now;
    }

  -- The keys of a step stand as they should.
  pub keys_stepped : (new : Option (List ℕ)) → AllKeys (keys_by slots table new) → ((was line : List ℕ) → old ≡ Some was → new ≡ Some line → line_key slots table was ≡ line_key slots table line)
      → ((key : List ℕ) → Contains (more_by table old) key → lookup (key_of key) pairs ≡ Some 0) → KeysStepped slots table old new place (value_in [] pairs) (value_in [] (pairs_after slots table old new place pairs))
  keys_stepped None all_new same_place zeros_old = keys_out
  keys_stepped (Some line) all_new same_place zeros_old = keys_in line all_new (λ was is. same_place was line is refl) zeros_old
