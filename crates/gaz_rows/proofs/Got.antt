-- What stands at the place of a key is the line of the table that has the key.
use Rattle.std.proofs.Common.{◌≡◌, ℕ, suc, List, [], ◌∷◌, refl, sym, ◌∙◌, ap, arith, true, false, Bool, Option, Some, None}
use Rattle.std.specs.Prelude.{Contains, All, option_and_then, if◌then◌else◌, IsSome, bytes_eq, is_some}
use Rattle.std.specs.List.{list_any}
use Rattle.std.specs.Ordering.{is_eq}
use Rattle.std.proofs.lemmas.Slice.Eq.{bytes_eq-Decides}
use Rattle.std.proofs.lemmas.List.Elements.{All-contains}
use Rattle.std.proofs.lemmas.Map.Entries.{option_filter}
use Rattle.gaz_num.specs.declared.words.Table.{Table}
use Rattle.gaz_plain.specs.Gazetteer.{Gazetteer, IsLine, kind_in, lines_in, line_with, key_of, key_cmp}
use Rattle.gaz_plain.proofs.KeyOrder.{same_key, key_ties}
use Rattle.gaz_page.specs.declared.tree_root.Root.{Root}
use Rattle.gaz_heap.specs.Place.{record_at}
use Rattle.gaz_leaf.specs.Node.{key_of as number_of}
use Rattle.gaz_tree.specs.Pairs.{lookup}
use Rattle.gaz_keys.specs.Keys.{IsKey}
use Rattle.gaz_keys.specs.Parts.{tag_of, has_place}
use Rattle.gaz_keys.proofs.Tags.{tag_for, tag_has_place}
use Rattle.gaz_rows.specs.Index.{Slots, line_key, IsIndexed}
use Rattle.gaz_rows.specs.Stands.{StandsForBut, value_in}
use Rattle.gaz_rows.proofs.Finding.{found_none, found_one}
use Rattle.gaz_rows.proofs.Keyed.{some_inj, that_of, IsThatOf}

-- a key with a place doesn't wait
not_waiting : (waiting : List (List ℕ)) (key : List ℕ) → All (λ k. has_place (tag_of k) ≡ false) waiting → has_place (tag_of key) ≡ true → list_any (bytes_eq key) waiting ≡ false
not_waiting [] key placeless has = refl
not_waiting (k ∷ ks) key placeless has = by (bytes_eq key k) refl (not_waiting ks key (λ i d within. placeless (suc i) d (omega arith)) has)
  where
    by : (b : Bool) → bytes_eq key k ≡ b → list_any (bytes_eq key) ks ≡ false → list_any (bytes_eq key) (k ∷ ks) ≡ false
    by true is rest =
        let same : key ≡ k = (bytes_eq-Decides key k).0 is in
        let none : has_place (tag_of k) ≡ false = placeless 0 [] (omega arith) in
        absurd (false_is_true (sym none ∙ ap (λ x. has_place (tag_of x)) (sym same) ∙ has))
      where
        false_is_true : false ≡ true → ⊥
        false_is_true is = cc
    by false is rest = rw is rest

-- The lines of a table that have this key of the table have this key of the index.
pub record IsKeyFor (slots : Slots) (table : Table) (asked key : List ℕ) : Type 0 where
  pub fits : IsKey key
  pub tag : tag_of key ≡ tag_for table
  pub tells : (line : List ℕ) → IsLine (kind_in table) line → key_of table line ≡ asked → line_key slots table line ≡ key

-- Only these have it.
abbrev pub IsKeyAlone : Slots → Table → List ℕ → List ℕ → Type 0
IsKeyAlone slots table asked key = (line : List ℕ) → IsLine (kind_in table) line → line_key slots table line ≡ key → key_of table line ≡ asked

-- whether a line has the key of the table
abbrev pub has_key : Table → List ℕ → List ℕ → Bool
has_key table asked line = is_eq (key_cmp (key_of table line) asked)

-- A line of the table that has the key stands at the place.
pub record IsLineAt (slots : Slots) (gaz : Gazetteer) (pages : ℕ → List ℕ) (table : Table) (key : List ℕ) (place : ℕ) : Type 0 where
  pub line : List ℕ
  pub there : Contains (lines_in gaz table) line
  pub is : line_key slots table line ≡ key
  pub stands : record_at pages place ≡ Some line

never : false ≡ true → ⊥
never is = cc

module _ (slots : Slots) (gaz : Gazetteer) (value : List ℕ → Option ℕ) (bytes : ℕ → Option (List ℕ)) (held : IsIndexed slots gaz value bytes) (table : Table) (each : All (IsLine (kind_in table)) (lines_in gaz table)) (asked key : List ℕ) (is_for : IsKeyFor slots table asked key) where
  is_line : (line : List ℕ) → Contains (lines_in gaz table) line → IsLine (kind_in table) line
  is_line line there = All-contains (IsLine (kind_in table)) (lines_in gaz table) line each there

  -- the line that has the key is the one at its place
  one_line : (line : List ℕ) → Contains (lines_in gaz table) line → has_key table asked line ≡ true → option_and_then bytes (value key) ≡ Some line
  one_line line there has =
      ap (λ k. option_and_then bytes (value k)) (sym (is_for.tells line (is_line line there) (same_key (key_of table line) asked has))) ∙ held.lines table line there

  none_at : option_and_then bytes (value key) ≡ None → line_with table asked gaz ≡ None
  none_at is = found_none (has_key table asked) (lines_in gaz table) (λ line there. by line there (has_key table asked line) refl)
    where
      none_is_some : (line : List ℕ) → None ≡ Some line → ⊥
      none_is_some line is = cc

      by : (line : List ℕ) → Contains (lines_in gaz table) line → (b : Bool) → has_key table asked line ≡ b → has_key table asked line ≡ false
      by line there true has = absurd (none_is_some line (sym is ∙ one_line line there has))
      by line there false has = has

  -- where a line stands there, it is the answer if it has the key
  line_there : (line : List ℕ) → Contains (lines_in gaz table) line → option_and_then bytes (value key) ≡ Some line → line_with table asked gaz ≡ option_filter (has_key table asked) (Some line)
  line_there line there is = by (has_key table asked line) refl
    where
      same : (y : List ℕ) → Contains (lines_in gaz table) y → has_key table asked y ≡ true → y ≡ line
      same y also has = some_inj y line (sym (one_line y also has) ∙ is)

      other : has_key table asked line ≡ false → (y : List ℕ) → Contains (lines_in gaz table) y → (b : Bool) → has_key table asked y ≡ b → has_key table asked y ≡ false
      other lacks y also true has = absurd (never (sym lacks ∙ ap (has_key table asked) (sym (same y also has)) ∙ has))
      other lacks y also false has = has

      by : (b : Bool) → has_key table asked line ≡ b → line_with table asked gaz ≡ option_filter (has_key table asked) (Some line)
      by true has = rw has (found_one (has_key table asked) (lines_in gaz table) line there has same)
      by false lacks = rw lacks (found_none (has_key table asked) (lines_in gaz table) (λ y also. other lacks y also (has_key table asked y) refl))

  -- the line at the key, where the key has a value
  that_line : (place : ℕ) → value key ≡ Some place → IsThatOf slots gaz table key
  that_line place is = that_of slots gaz table key is_for.tag (held.only key is_for.fits (rw is refl))

  stands_there : (place : ℕ) (is : value key ≡ Some place) → option_and_then bytes (value key) ≡ Some (that_line place is).line
  stands_there place is =
      let that = that_line place is in
      ap (λ k. option_and_then bytes (value k)) (sym that.is) ∙ held.lines table that.line that.there

  -- The line with the key of the table is the one at the key of the index, if that has it.
  pub found_at : (found : Option ℕ) → value key ≡ found → line_with table asked gaz ≡ option_filter (has_key table asked) (option_and_then bytes (value key))
  found_at None is = rw is (none_at (ap (option_and_then bytes) is))
  found_at (Some place) is =
      let that = that_line place is in
      line_there that.line that.there (stands_there place is) ∙ ap (option_filter (has_key table asked)) (sym (stands_there place is))

  -- where only lines with this key of the table have that of the index, it has it
  pub found_alone : IsKeyAlone slots table asked key → (found : Option ℕ) → value key ≡ found → line_with table asked gaz ≡ option_and_then bytes (value key)
  found_alone alone None is = rw is (none_at (ap (option_and_then bytes) is))
  found_alone alone (Some place) is =
      let that = that_line place is in
      let has : has_key table asked that.line ≡ true =
      ap (λ k. is_eq (key_cmp k asked)) (alone that.line (is_line that.line that.there) that.is) ∙ ap is_eq (key_ties asked)
      in
      line_there that.line that.there (stands_there place is) ∙ ap (λ b. if b then Some that.line else None) has ∙ sym (stands_there place is)

module _ (waiting : List (List ℕ)) (gaz : Gazetteer) (pages : ℕ → List ℕ) (root : Root) (stands : StandsForBut waiting gaz pages root) where
  -- what a key with a place has as its value stands in the tree
  pub value_is : (key : List ℕ) → has_place (tag_of key) ≡ true → value_in waiting stands.pairs key ≡ lookup (number_of key) stands.pairs
  value_is key has = ap (λ b. if b then Some 0 else lookup (number_of key) stands.pairs) (not_waiting waiting key stands.placeless has)

  -- Where the tree has a place for a key with the tag of a table, a line of the table stands there.
  pub line_at_tag : (table : Table) (key : List ℕ) → IsKey key → tag_of key ≡ tag_for table → (place : ℕ) → lookup (number_of key) stands.pairs ≡ Some place → IsLineAt stands.slots gaz pages table key place
  line_at_tag table key fits tag place is =
      let here : value_in waiting stands.pairs key ≡ Some place = value_is key (ap has_place tag ∙ tag_has_place table) ∙ is in
      let that : IsThatOf stands.slots gaz table key = that_of stands.slots gaz table key tag (stands.indexed.only key fits (rw here refl)) in
      record {
        line = that.line;
        there = that.there;
        is = that.is;
        stands =
            sym (ap (option_and_then (record_at pages)) here)
            ∙ ap (λ k. option_and_then (record_at pages) (value_in waiting stands.pairs k)) (sym that.is)
            ∙ stands.indexed.lines table that.line that.there;
      }

  module _ (table : Table) (asked key : List ℕ) (is_for : IsKeyFor stands.slots table asked key) where
    has : has_place (tag_of key) ≡ true
    has = ap has_place is_for.tag ∙ tag_has_place table

    each : All (IsLine (kind_in table)) (lines_in gaz table)
    each = (stands.is_gazetteer.tables table).each

    -- What the tree and the records give at the key is the line, if that has the key of the table.
    pub line_found : line_with table asked gaz ≡ option_filter (has_key table asked) (option_and_then (record_at pages) (lookup (number_of key) stands.pairs))
    line_found =
        found_at stands.slots gaz (value_in waiting stands.pairs) (record_at pages) stands.indexed table each asked key is_for (value_in waiting stands.pairs key) refl
        ∙ ap (λ v. option_filter (has_key table asked) (option_and_then (record_at pages) v)) (value_is key has)

    pub line_found_alone : IsKeyAlone stands.slots table asked key → line_with table asked gaz ≡ option_and_then (record_at pages) (lookup (number_of key) stands.pairs)
    line_found_alone alone =
        found_alone stands.slots gaz (value_in waiting stands.pairs) (record_at pages) stands.indexed table each asked key is_for alone (value_in waiting stands.pairs key) refl
        ∙ ap (option_and_then (record_at pages)) (value_is key has)

    pub line_at_key : (place : ℕ) → lookup (number_of key) stands.pairs ≡ Some place → IsLineAt stands.slots gaz pages table key place
    line_at_key = line_at_tag table key is_for.fits is_for.tag

    -- so a record does
    pub record_there : (place : ℕ) → lookup (number_of key) stands.pairs ≡ Some place → IsSome (record_at pages place)
    record_there place is = ap is_some (line_at_key place is).stands
