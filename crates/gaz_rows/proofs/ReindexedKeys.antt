-- Keys of the lines of a gazetteer have 32 bytes, and each is that of one line.
use Rattle.std.proofs.Common.{◌≡◌, ◌<◌, ◌^◌, ℕ, List, [], ◌∷◌, refl, sym, ◌∙◌, ap, subst, inl, inr, true, Option, Some, None}
use Rattle.std.specs.Prelude.{◌⊎◌, Contains, unwrap_or, IsSome}
use Rattle.std.proofs.lemmas.List.Elements.{All-contains}
use Rattle.gaz_num.specs.Pieces.{column}
use Rattle.gaz_num.specs.Check.{key_in}
use Rattle.gaz_num.specs.declared.words.Kind.{Kind}
use Rattle.gaz_num.specs.declared.words.Kind.TheVariants.{Row, RowDelete, Alt, AltDelete, Link, Country}
use Rattle.gaz_num.specs.declared.words.Kind.TheVariants as kind
use Rattle.gaz_num.specs.declared.words.Table.{Table}
use Rattle.gaz_num.specs.declared.words.Table.TheVariants.{Rows, Alternates, Links, Countries, Codes}
use Rattle.gaz_name.specs.Name.{first_bytes}
use Rattle.gaz_plain.specs.Gazetteer.{Gazetteer, IsGazetteer, IsLine, kind_in, key_of, lines_in, line_at, table_of}
use Rattle.gaz_plain.proofs.KeyOrder.{same_key}
use Rattle.gaz_keys.specs.Lines.{key_at, more_keys, kind_of, IsKeyed}
use Rattle.gaz_keys.specs.Laws.{AreAlike}
use Rattle.gaz_keys.proofs.Apart.{keys_tell_their_line}
use Rattle.gaz_keys.proofs.KeysFit.{keys_fit}
use Rattle.gaz_keys.proofs.Alike.{one_slot, HasSlot, has_slot, alike_are, same_place, same_code}
use Rattle.gaz_rows.specs.Index.{Slots, line_key, line_keys, SlotsDiffer}
use Rattle.gaz_rows.specs.Steps.{KeysTell, LineKeysFit, IsSlotOf}
use Rattle.gaz_rows.proofs.Members.{head_is_in}
use Rattle.gaz_rows.proofs.Fit.{keyed}
use Rattle.gaz_rows.proofs.ReindexedLines.{one_line, find_has}
use Rattle.gaz_rows.proofs.Got.{has_key}

-- the kinds of lines that a table holds, in the words of two crates
kinds : (table : Table) → kind_in table ≡ kind_of table
kinds Rows = refl
kinds Alternates = refl
kinds Links = refl
kinds Countries = refl
kinds Codes = refl

-- a line of a kind has its key in the kind's table
in_table : (k : Kind) (line : List ℕ) → key_in k line ≡ key_in (kind_of (table_of k)) line
in_table Row line = refl
in_table RowDelete line = refl
in_table Alt line = refl
in_table AltDelete line = refl
in_table Link line = refl
in_table Country line = refl
in_table kind.Code line = refl

module _ (slots : Slots) (gaz : Gazetteer) (is : IsGazetteer gaz) where
  line_keyed : (table : Table) (line : List ℕ) → Contains (lines_in gaz table) line → IsKeyed table line
  line_keyed table line there = keyed table line (All-contains (IsLine (kind_in table)) (lines_in gaz table) line (is.tables table).each there)

  pub lines_fit : LineKeysFit slots gaz
  lines_fit table line key there = keys_fit table (slots (column 1 line)) line key (line_keyed table line there)

  module _ (differ : SlotsDiffer slots gaz) where
    small : (table : Table) (line : List ℕ) → Contains (lines_in gaz table) line → table ≡ Codes → slots (column 1 line) < 2 ^ 32
    small table line there codes = differ.fit line (subst (λ t. Contains (lines_in gaz t) line) codes there)

    -- lines that are alike are one
    one_alike : (table : Table) (slot other : ℕ) (line another : List ℕ) → Contains (lines_in gaz table) line → Contains (lines_in gaz table) another
        → (table ≡ Codes → slots (column 1 line) ≡ slot) → (table ≡ Codes → slots (column 1 another) ≡ other) → AreAlike table slot line other another → line ≡ another
    one_alike table slot other line another there also has_one has_other are = elim (alike_are table slot other line another are) [
      | inl same ↦
          let keys : key_of table line ≡ key_of table another = ap (λ k. unwrap_or (key_in k line) []) (kinds table) ∙ ap (λ found. unwrap_or found []) same ∙ sym (ap (λ k. unwrap_or (key_in k another) []) (kinds table)) in
          one_line table (lines_in gaz table) line another (is.tables table).rising there also keys
      | inr codes ↦
          differ.differ line another (subst (λ t. Contains (lines_in gaz t) line) codes.0 there) (subst (λ t. Contains (lines_in gaz t) another) codes.0 also) codes.1.1
          (has_one codes.0 ∙ codes.1.0 ∙ sym (has_other codes.0))
    ]

    pub lines_tell : KeysTell slots gaz
    lines_tell table other line another key there also has has_too =
        let one = has_slot table (slots (column 1 line)) (small table line there) in
        let two = has_slot other (slots (column 1 another)) (small other another also) in
        let told = keys_tell_their_line table other one.other two.other line another key one.small two.small (line_keyed table line there) (line_keyed other another also)
        (subst (λ k. Contains (k ∷ more_keys table line) key) (one_slot table (slots (column 1 line)) one.other line one.is) has)
        (subst (λ k. Contains (k ∷ more_keys other another) key) (one_slot other (slots (column 1 another)) two.other another two.is) has_too)
        in
        (told.0, one_alike table one.other two.other line another there (subst (λ t. Contains (lines_in gaz t) another) (sym told.0) also) one.is (λ codes. two.is (sym told.0 ∙ codes)) told.1)

  -- The line of the table with the key of a line has the same key with a place.
  pub same_line_keys : (k : Kind) (line key found : List ℕ) → key_in k line ≡ Some key → line_at (table_of k) key (lines_in gaz (table_of k)) ≡ Some found → line_key slots (table_of k) found ≡ line_key slots (table_of k) line
  same_line_keys k line key found has at =
      same_place table (slots (column 1 found)) found line keyed_found.keyed same
      ∙ one_slot table (slots (column 1 found)) (slots (column 1 line)) line (λ codes. ap slots (same_code found line (subst (λ t. key_in (kind_of t) found ≡ key_in (kind_of t) line) codes same)))
    where
      table : Table
      table = table_of k

      there : Contains (lines_in gaz (table_of k)) found × (has_key (table_of k) key found ≡ true)
      there = find_has (has_key (table_of k) key) (lines_in gaz (table_of k)) found at

      keyed_found : IsKeyed (table_of k) found
      keyed_found = line_keyed (table_of k) found there.0

      some_of : (o : Option (List ℕ)) → IsSome o → unwrap_or o [] ≡ key → o ≡ Some key
      some_of None some e = absurd (cc)
      some_of (Some x) some e = ap Some e

      same : key_in (kind_of (table_of k)) found ≡ key_in (kind_of (table_of k)) line
      same =
          some_of (key_in (kind_of (table_of k)) found) keyed_found.keyed (sym (ap (λ t. unwrap_or (key_in t found) []) (kinds (table_of k))) ∙ same_key (key_of (table_of k) found) key there.1)
          ∙ sym has ∙ in_table k line

  -- A line that has the key with a place of another one has its key in the table: of codes, where the other's slot is told apart.
  pub key_told : (k : Kind) (line key found : List ℕ) → key_in k line ≡ Some key → IsKeyed (table_of k) line → Contains (lines_in gaz (table_of k)) found → SlotsDiffer slots gaz
      → (table_of k ≡ Codes → IsSlotOf slots gaz (column 1 line)) → line_key slots (table_of k) found ≡ line_key slots (table_of k) line → key_of (table_of k) found ≡ key
  key_told k line key found has is_line there differ slot same =
      ap (λ t. unwrap_or (key_in t found) []) (kinds table) ∙ ap (λ o. unwrap_or o []) (alike (alike_are table one.other two.other found line told.1)) ∙ ap (λ o. unwrap_or o []) (sym (in_table k line) ∙ has)
    where
      table : Table
      table = table_of k

      one : HasSlot (table_of k) (slots (column 1 found))
      one = has_slot (table_of k) (slots (column 1 found)) (small differ (table_of k) found there)

      two : HasSlot (table_of k) (slots (column 1 line))
      two = has_slot (table_of k) (slots (column 1 line)) (λ codes. (slot codes).small)

      place_one : line_key slots (table_of k) found ≡ key_at (table_of k) one.other found
      place_one = one_slot (table_of k) (slots (column 1 found)) one.other found one.is

      place_two : line_key slots (table_of k) line ≡ key_at (table_of k) two.other line
      place_two = one_slot (table_of k) (slots (column 1 line)) two.other line two.is

      told : (table_of k ≡ table_of k) × AreAlike (table_of k) one.other found two.other line
      told = keys_tell_their_line (table_of k) (table_of k) one.other two.other found line (line_key slots (table_of k) line) one.small two.small (line_keyed (table_of k) found there) is_line
          (subst (λ first. Contains (first ∷ more_keys (table_of k) found) (line_key slots (table_of k) line)) place_one (subst (Contains (line_keys slots (table_of k) found)) same (head_is_in (line_key slots (table_of k) found) (more_keys (table_of k) found))))
          (subst (λ first. Contains (first ∷ more_keys (table_of k) line) (line_key slots (table_of k) line)) place_two (head_is_in (line_key slots (table_of k) line) (more_keys (table_of k) line)))

      alike : (key_in (kind_of (table_of k)) found ≡ key_in (kind_of (table_of k)) line) ⊎ ((table_of k ≡ Codes) × ((one.other ≡ two.other) × (first_bytes 23 (column 1 found) ≡ first_bytes 23 (column 1 line))))
          → key_in (kind_of (table_of k)) found ≡ key_in (kind_of (table_of k)) line
      alike (inl is) = is
      alike (inr codes) =
          let text : column 1 found ≡ column 1 line = (slot codes.0).alone found (subst (λ t. Contains (lines_in gaz t) found) codes.0 there) codes.1.1 (one.is codes.0 ∙ codes.1.0 ∙ sym (two.is codes.0)) in
          subst (λ t. key_in (kind_of t) found ≡ key_in (kind_of t) line) (sym codes.0) (ap Some text)
