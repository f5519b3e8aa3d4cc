-- What a step makes of the two functions holds the gazetteer after it.
use Rattle.std.proofs.Common.{◌≡◌, ◌≢◌, ◌<◌, ◌^◌, ℕ, List, [], ◌∷◌, refl, sym, ◌∙◌, ap, subst, inl, inr, true, false, Bool, Option, Some, None}
use Rattle.std.specs.Prelude.{◌⊎◌, Contains, option_and_then, IsSome, is_some, bytes_eq}
use Rattle.std.proofs.lemmas.Slice.Eq.{bytes_eq-Decides}
use Rattle.gaz_num.specs.Pieces.{column}
use Rattle.gaz_num.specs.declared.words.Table.{Table}
use Rattle.gaz_plain.specs.Gazetteer.{Gazetteer, lines_in}
use Rattle.gaz_keys.specs.Keys.{IsKey}
use Rattle.gaz_keys.specs.Lines.{more_keys}
use Rattle.gaz_keys.proofs.Tags.{contained, contained_none}
use Rattle.gaz_keys.proofs.Alike.{one_slot}
use Rattle.gaz_rows.specs.Index.{Slots, line_key, line_keys, IsKeyOf, IsIndexed, SlotsDiffer}
use Rattle.gaz_rows.specs.Steps.{keys_by, more_by, IsOne, AreReplaced, SameSlots, KeysTell, LineKeysFit, KeysStepped, RecordsStepped}
use Rattle.gaz_rows.proofs.Members.{head_is_in, tail_is_in}
use Rattle.gaz_rows.proofs.Keyed.{some_inj}
use Rattle.gaz_rows.proofs.ReindexedLines.{false_is_true, none_is_some}

-- a key is in a list or not
pub is_in : (keys : List (List ℕ)) (key : List ℕ) → Contains keys key ⊎ (Contains keys key → ⊥)
is_in [] key = inr (contained_none key)
is_in (first ∷ keys) key = by (bytes_eq first key) refl (is_in keys key)
  where
    by : (b : Bool) → bytes_eq first key ≡ b → Contains keys key ⊎ (Contains keys key → ⊥) → Contains (first ∷ keys) key ⊎ (Contains (first ∷ keys) key → ⊥)
    by true is rest = inl (subst (Contains (first ∷ keys)) ((bytes_eq-Decides first key).0 is) (head_is_in first keys))
    by false is (inl has) = inl (tail_is_in first keys key has)
    by false is (inr lacks) = inr (λ has. elim (contained first keys key has) [
      | inl same ↦ false_is_true (sym is ∙ (bytes_eq-Decides first key).1 same)
      | inr later ↦ lacks later
    ])

module _ (slots : Slots) (table : Table) where
  -- the line of a key
  pub by_line : (one : Option (List ℕ)) (key : List ℕ) → Contains (keys_by slots table one) key → (line : List ℕ) × (one ≡ Some line) × Contains (line_keys slots table line) key
  by_line None key has = absurd (contained_none key has)
  by_line (Some line) key has = (line, refl, has)

  -- the key of a line
  pub of_line : (one : Option (List ℕ)) (line key : List ℕ) → one ≡ Some line → Contains (line_keys slots table line) key → Contains (keys_by slots table one) key
  of_line one line key is has = subst (λ o. Contains (keys_by slots table o) key) (sym is) has

  -- the other keys of a line are keys of it
  pub more_of_line : (one : Option (List ℕ)) (key : List ℕ) → Contains (more_by table one) key → Contains (keys_by slots table one) key
  more_of_line None key has = has
  more_of_line (Some line) key has = tail_is_in (line_key slots table line) (more_keys table line) key has

  -- and a key that isn't that of its place is one of these
  pub more_but_line : (one : Option (List ℕ)) (key : List ℕ) → Contains (keys_by slots table one) key → ((line : List ℕ) → one ≡ Some line → line_key slots table line ≢ key) → Contains (more_by table one) key
  more_but_line None key has differs = has
  more_but_line (Some line) key has differs = elim (contained (line_key slots table line) (more_keys table line) key has) [
    | inl is ↦ absurd (differs line refl is)
    | inr more ↦ more
  ]

-- a line of a table with the value of its key
pub record IsPlaced (value : List ℕ → Option ℕ) (bytes : ℕ → Option (List ℕ)) (key line : List ℕ) : Type 0 where
  pub place : ℕ
  pub at : value key ≡ Some place
  pub stands : bytes place ≡ Some line

pub is_placed : (value : List ℕ → Option ℕ) (bytes : ℕ → Option (List ℕ)) (key line : List ℕ) → option_and_then bytes (value key) ≡ Some line → IsPlaced value bytes key line
is_placed value bytes key line is = by (value key) refl
  where
    by : (found : Option ℕ) → value key ≡ found → IsPlaced value bytes key line
    by None none = absurd (none_is_some line (sym (ap (option_and_then bytes) none) ∙ is))
    by (Some place) some = record { place = place; at = some; stands = sym (ap (option_and_then bytes) some) ∙ is }

module _ (slots : Slots) (gaz next : Gazetteer) (table : Table) (old new : Option (List ℕ)) (place : ℕ) (value value_now : List ℕ → Option ℕ) (bytes bytes_now : ℕ → Option (List ℕ)) where
  module _ (held : IsIndexed slots gaz value bytes) (replaced : AreReplaced gaz next table old new) (keys : KeysStepped slots table old new place value value_now) (records : RecordsStepped slots gaz table old new place value bytes bytes_now) (tell : KeysTell slots gaz) (tell_now : KeysTell slots next) (fit_now : LineKeysFit slots next) (differ : SlotsDiffer slots next) where
    -- the keys of another line than the old one aren't its keys
    not_old : (other : Table) (line key : List ℕ) → Contains (lines_in gaz other) line → (IsOne table old other line → ⊥) → Contains (line_keys slots other line) key → Contains (keys_by slots table old) key → ⊥
    not_old other line key there isnt among has =
        let of = by_line slots table old key has in
        let same = tell other table line of.0 key there (replaced.was of.0 of.1) among of.2 in
        isnt (same.0, of.1 ∙ ap Some (sym same.1))

    -- a line that has a key of the new one is the new one
    is_new : (other : Table) (line key : List ℕ) → Contains (lines_in next other) line → Contains (line_keys slots other line) key → Contains (keys_by slots table new) key → IsOne table new other line
    is_new other line key there among has =
        let of = by_line slots table new key has in
        let same = tell_now other table line of.0 key there (replaced.came of.0 of.1) among of.2 in
        (same.0, of.1 ∙ ap Some (sym same.1))

    new_has : (other : Table) (line : List ℕ) → IsOne table new other line → Contains (keys_by slots table new) (line_key slots other line)
    new_has other line one = subst (λ t. Contains (keys_by slots table new) (line_key slots t line)) (sym one.0) (of_line slots table new line (line_key slots table line) one.1 (head_is_in (line_key slots table line) (more_keys table line)))

    new_at : (other : Table) (line : List ℕ) → IsOne table new other line → value_now (line_key slots other line) ≡ Some place
    new_at other line one = subst (λ t. value_now (line_key slots t line) ≡ Some place) (sym one.0) (keys.at line one.1)

    new_zero : (other : Table) (line key : List ℕ) → IsOne table new other line → Contains (more_keys other line) key → value_now key ≡ Some 0
    new_zero other line key one more =
        keys.zeros key (subst (λ o. Contains (more_by table o) key) (sym one.1) (subst (λ t. Contains (more_keys t line) key) one.0 more))

    -- A line that was there, with keys whose values are what they were.
    record IsKept (other : Table) (line : List ℕ) : Type 0 where
      there : Contains (lines_in gaz other) line
      isnt : IsOne table old other line → ⊥
      same : (key : List ℕ) → Contains (line_keys slots other line) key → value_now key ≡ value key

    -- a line is the new one or was kept
    stands_as : (other : Table) (line : List ℕ) → Contains (lines_in next other) line → IsOne table new other line ⊎ IsKept other line
    stands_as other line has = elim (replaced.before other line has) [
      | inl one ↦ inl one
      | inr kept ↦ elim (is_in (keys_by slots table new) (line_key slots other line)) [
        | inl also ↦ inl (is_new other line (line_key slots other line) has (head_is_in (line_key slots other line) (more_keys other line)) also)
        | inr lacks ↦ inr (record {
          there = kept.0;
          isnt = kept.1;
          same = λ key among. keys.others key (fit_now other line key has among) (not_old other line key kept.0 kept.1 among) (λ in_new. lacks (new_has other line (is_new other line key has among in_new)));
        })
      ]
    ]

    kept_same : (other : Table) (line : List ℕ) → IsKept other line → value_now (line_key slots other line) ≡ value (line_key slots other line)
    kept_same other line kept = kept.same (line_key slots other line) (head_is_in (line_key slots other line) (more_keys other line))

    all_there : (key : List ℕ) → IsKeyOf slots next key → IsSome (value_now key)
    all_there key of = elim (stands_as of.table of.line of.there) [
      | inl one ↦ elim (contained (line_key slots of.table of.line) (more_keys of.table of.line) key of.among) [
        | inl is ↦ ap (λ k. is_some (value_now k)) (sym is) ∙ ap is_some (new_at of.table of.line one)
        | inr more ↦ ap is_some (new_zero of.table of.line key one more)
      ]
      | inr kept ↦ ap is_some (kept.same key of.among) ∙ held.all key (record { table = of.table; line = of.line; there = kept.there; among = of.among })
    ]

    -- a key of a line that isn't the old one is one still
    still : (key : List ℕ) → (Contains (keys_by slots table old) key → ⊥) → IsKeyOf slots gaz key → IsKeyOf slots next key
    still key lacks of = elim (replaced.after of.table of.line of.there) [
      | inl one ↦ absurd (lacks (of_line slots table old of.line key one.1 (subst (λ t. Contains (line_keys slots t of.line) key) one.0 of.among)))
      | inr there ↦ record { table = of.table; line = of.line; there = there; among = of.among }
    ]

    only_there : (key : List ℕ) → IsKey key → IsSome (value_now key) → IsKeyOf slots next key
    only_there key fits some = elim (is_in (keys_by slots table new) key) [
      | inl has ↦
          let of = by_line slots table new key has in
          record { table = table; line = of.0; there = replaced.came of.0 of.1; among = of.2 }
      | inr not_new ↦ elim (is_in (keys_by slots table old) key) [
        | inl has ↦ absurd (false_is_true (sym (ap is_some (keys.gone key has not_new)) ∙ some))
        | inr lacks ↦ still key lacks (held.only key fits (sym (ap is_some (keys.others key fits lacks not_new)) ∙ some))
      ]
    ]

    lines_there : (other : Table) (line : List ℕ) → Contains (lines_in next other) line → option_and_then bytes_now (value_now (line_key slots other line)) ≡ Some line
    lines_there other line has = elim (stands_as other line has) [
      | inl one ↦ ap (option_and_then bytes_now) (new_at other line one) ∙ records.there line one.1
      | inr kept ↦
          let was = is_placed value bytes (line_key slots other line) line (held.lines other line kept.there) in
          ap (option_and_then bytes_now) (kept_same other line kept ∙ was.at) ∙ records.others other line was.place kept.there kept.isnt was.at ∙ was.stands
    ]

    zeros_there : (other : Table) (line key : List ℕ) → Contains (lines_in next other) line → Contains (more_keys other line) key → value_now key ≡ Some 0
    zeros_there other line key has among = elim (stands_as other line has) [
      | inl one ↦ new_zero other line key one among
      | inr kept ↦ kept.same key (tail_is_in (line_key slots other line) (more_keys other line) key among) ∙ held.zeros other line key kept.there among
    ]

    -- the new line has its place alone
    new_alone : (other another : Table) (line new_line : List ℕ) → IsKept other line → IsOne table new another new_line → value_now (line_key slots other line) ≡ value_now (line_key slots another new_line) → ⊥
    new_alone other another line new_line kept one is =
        records.alone other line new_line kept.there kept.isnt one.1 (sym (kept_same other line kept) ∙ is ∙ new_at another new_line one)

    apart_there : (first other : Table) (line another : List ℕ) → Contains (lines_in next first) line → Contains (lines_in next other) another → value_now (line_key slots first line) ≡ value_now (line_key slots other another) → (first ≡ other) × (line ≡ another)
    apart_there first other line another has also is = elim (stands_as first line has) [
      | inl one ↦ elim (stands_as other another also) [
        | inl two ↦ (one.0 ∙ sym two.0, some_inj line another (sym one.1 ∙ two.1))
        | inr kept ↦ absurd (new_alone other first another line kept one (sym is))
      ]
      | inr kept ↦ elim (stands_as other another also) [
        | inl two ↦ absurd (new_alone first other line another kept two is)
        | inr both ↦ held.apart first other line another kept.there both.there (sym (kept_same first line kept) ∙ is ∙ kept_same other another both)
      ]
    ]

    -- The values and the bytes hold the gazetteer after the step.
    pub reindexed : IsIndexed slots next value_now bytes_now
    reindexed = record {
      all = all_there;
      only = only_there;
      lines = lines_there;
      zeros = zeros_there;
      apart = apart_there;
      slots_differ = differ;
    }

-- ---- other slots for the codes of no line

module _ (slots now : Slots) (gaz : Gazetteer) (value : List ℕ → Option ℕ) (bytes : ℕ → Option (List ℕ)) (same : SameSlots gaz slots now) where
  -- the keys of a line are the same
  pub same_line_key : (table : Table) (line : List ℕ) → Contains (lines_in gaz table) line → line_key now table line ≡ line_key slots table line
  same_line_key table line there = one_slot table (now (column 1 line)) (slots (column 1 line)) line (λ codes. same line (subst (λ t. Contains (lines_in gaz t) line) codes there))

  back : (table : Table) (line key : List ℕ) → Contains (lines_in gaz table) line → Contains (line_keys now table line) key → Contains (line_keys slots table line) key
  back table line key there = subst (λ k. Contains (k ∷ more_keys table line) key) (same_line_key table line there)

  on : (table : Table) (line key : List ℕ) → Contains (lines_in gaz table) line → Contains (line_keys slots table line) key → Contains (line_keys now table line) key
  on table line key there = subst (λ k. Contains (k ∷ more_keys table line) key) (sym (same_line_key table line there))

  differ_now : SlotsDiffer slots gaz → SlotsDiffer now gaz
  differ_now are = record {
    fit = λ line there. subst (λ slot. slot < 2 ^ 32) (sym (same line there)) (are.fit line there);
    differ = λ a b there also first is. are.differ a b there also first (sym (same a there) ∙ is ∙ same b also);
  }

  -- So the index is the same by other slots that agree on its codes.
  pub reslotted : IsIndexed slots gaz value bytes → IsIndexed now gaz value bytes
  reslotted held = record {
    all = λ key of. held.all key (record { table = of.table; line = of.line; there = of.there; among = back of.table of.line key of.there of.among });
    only = λ key fits some. let of = held.only key fits some in record { table = of.table; line = of.line; there = of.there; among = on of.table of.line key of.there of.among };
    lines = λ table line there. ap (λ key. option_and_then bytes (value key)) (same_line_key table line there) ∙ held.lines table line there;
    zeros = held.zeros;
    apart = λ table other line another there also is. held.apart table other line another there also (sym (ap value (same_line_key table line there)) ∙ is ∙ ap value (same_line_key other another also));
    slots_differ = differ_now held.slots_differ;
  }
