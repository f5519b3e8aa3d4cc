-- What stands at a key among entries, and what an edit at one leaves.
use Rattle.std.proofs.Common.{◌≡◌, ℕ, zero, suc, ◌+◌, Bool, true, false, List, [], ◌∷◌, ◌++◌, length, map, filter, Some, None, refl, sym, ap, ◌∙◌, arith}
use Rattle.std.specs.Prelude.{is_some, All, option_map, if◌then◌else◌}
use Rattle.std.specs.BTreeMap.{insert_entry, is_at}
use Rattle.std.specs.List.{AllByRecursion}
use Rattle.std.specs.List.Sorted.{IsStrictlySortedBy}
use Rattle.std.specs.Map.{keys_of, lookup, remove_entry}
use Rattle.std.specs.Ordering.{is_lt, is_gt, is_eq, ordering_reverse}
use Rattle.std.specs.declared.cmp.Ordering.{Ordering}
use Rattle.std.specs.declared.cmp.Ordering.TheVariants.{Less, Equal, Greater}
use Rattle.std.proofs.lemmas.Cmp.{nat_list_cmp_total}
use Rattle.std.proofs.lemmas.Map.Keys.{sorted_head, sorted_tail}
use Rattle.gaz_num.specs.declared.words.Table.{Table}
use Rattle.gaz_plain.specs.Gazetteer.{key_of, key_cmp, line_at, replaced}
use Rattle.gaz_plain.specs.Places.{IsKeyOf, EndsBefore}
use Rattle.gaz_plain.proofs.KeyOrder.{same_key, key_of_keyed}

reverse_tied : (r : Ordering) → is_eq (ordering_reverse r) ≡ is_eq r
reverse_tied Less = refl
reverse_tied Equal = refl
reverse_tied Greater = refl

-- two keys tie either way
ties_turned : (a b : List ℕ) → is_eq (key_cmp a b) ≡ is_eq (key_cmp b a)
ties_turned a b = ap is_eq (nat_list_cmp_total.antisymm a b) ∙ reverse_tied (key_cmp b a)

module _ {K X : Type 0} (items : X → List ℕ) (table : Table) (cmp : K → K → Ordering) (numbers : K → List ℕ) (compares : (a b : K) → cmp a b ≡ key_cmp (numbers a) (numbers b)) where
  abbrev lines : List (K × X) → List (List ℕ)
  lines es = map (λ e. items e.1) es

  -- the entry has the key of its line
  abbrev IsKeyed : K × X → Type 0
  IsKeyed e = IsKeyOf table (numbers e.0) (items e.1)

  abbrev AreKeyed : List (K × X) → Type 0
  AreKeyed es = AllByRecursion IsKeyed es

  abbrev AreRising : List (K × X) → Type 0
  AreRising es = IsStrictlySortedBy cmp (keys_of es)

  key_of_entry : (e : K × X) → IsKeyed e → key_of table (items e.1) ≡ numbers e.0
  key_of_entry e keyed = key_of_keyed table (numbers e.0) (items e.1) keyed

  -- an entry's line compares with a key as its own key does
  line_compares : (e : K × X) (k : K) → IsKeyed e → key_cmp (key_of table (items e.1)) (numbers k) ≡ cmp e.0 k
  line_compares e k keyed = ap (λ key. key_cmp key (numbers k)) (key_of_entry e keyed) ∙ sym (compares e.0 k)

  turned : (a b : K) → cmp a b ≡ ordering_reverse (cmp b a)
  turned a b = compares a b ∙ nat_list_cmp_total.antisymm (numbers a) (numbers b) ∙ ap ordering_reverse (sym (compares b a))

  less_on : (a b c : K) → cmp a b ≡ Less → cmp b c ≡ Less → cmp a c ≡ Less
  less_on a b c first second = compares a c ∙ nat_list_cmp_total.trans (numbers a) (numbers b) (numbers c) (sym (compares a b) ∙ first) (sym (compares b c) ∙ second)

  same_numbers : (a b : K) → cmp a b ≡ Equal → numbers a ≡ numbers b
  same_numbers a b tied = same_key (numbers a) (numbers b) (ap is_eq (sym (compares a b) ∙ tied))

  -- all entries have greater keys
  abbrev AllAbove : K → List (K × X) → Type 0
  AllAbove k es = AllByRecursion (λ key. cmp k key ≡ Less) (keys_of es)

  above_lesser : (k j : K) → cmp k j ≡ Less → (es : List (K × X)) → AllAbove j es → AllAbove k es
  above_lesser k j less [] above = tt
  above_lesser k j less (e ∷ es) above = (less_on k j e.0 less above.0, above_lesser k j less es above.1)

  above_same : (k j : K) → cmp k j ≡ Equal → (es : List (K × X)) → AllAbove j es → AllAbove k es
  above_same k j tied [] above = tt
  above_same k j tied (e ∷ es) above =
      (compares k e.0 ∙ ap (λ n. key_cmp n (numbers e.0)) (same_numbers k j tied) ∙ sym (compares j e.0) ∙ above.0, above_same k j tied es above.1)

  length_lines : (es : List (K × X)) → length (lines es) ≡ length es
  length_lines [] = refl
  length_lines (e ∷ es) = omega (arith, length_lines es)

  module _ (k : K) where
    abbrev lesser : List ℕ → Bool
    lesser line = is_lt (key_cmp (key_of table line) (numbers k))

    abbrev greater : List ℕ → Bool
    greater line = is_gt (key_cmp (key_of table line) (numbers k))

    -- how the line of an entry compares, by how the key does
    line_by : (e : K × X) → IsKeyed e → (r : Ordering) → cmp k e.0 ≡ r → key_cmp (key_of table (items e.1)) (numbers k) ≡ ordering_reverse r
    line_by e keyed r is = line_compares e k keyed ∙ turned e.0 k ∙ ap ordering_reverse is

    none_lesser : (es : List (K × X)) → AreKeyed es → AllAbove k es → filter lesser (lines es) ≡ []
    none_lesser [] keyed above = refl
    none_lesser (e ∷ es) keyed above =
        let head : lesser (items e.1) ≡ false = ap is_lt (line_by e keyed.0 Less above.0) in
        rw head (none_lesser es keyed.1 above.1)

    all_greater : (es : List (K × X)) → AreKeyed es → AllAbove k es → filter greater (lines es) ≡ lines es
    all_greater [] keyed above = refl
    all_greater (e ∷ es) keyed above =
        let head : greater (items e.1) ≡ true = ap is_gt (line_by e keyed.0 Less above.0) in
        rw head (ap (λ more. items e.1 ∷ more) (all_greater es keyed.1 above.1))

    -- an edit at the key, by how the key of the first entry compares
    module _ (put : List (List ℕ)) (e : K × X) (es : List (K × X)) (keyed : AreKeyed (e ∷ es)) (rising : AreRising (e ∷ es)) where
      edit_before : cmp k e.0 ≡ Less → replaced table (numbers k) put (lines (e ∷ es)) ≡ put ++ lines (e ∷ es)
      edit_before is =
          let above : AllAbove k (e ∷ es) = (is, above_lesser k e.0 is es (sorted_head cmp e.0 (keys_of es) rising)) in
          let low = none_lesser (e ∷ es) keyed above in
          let high = all_greater (e ∷ es) keyed above in
          ap (λ front. (front ++ put) ++ filter greater (lines (e ∷ es))) low ∙ ap (λ back. put ++ back) high

      edit_here : cmp k e.0 ≡ Equal → replaced table (numbers k) put (lines (e ∷ es)) ≡ put ++ lines es
      edit_here is =
          let above = above_same k e.0 is es (sorted_head cmp e.0 (keys_of es) rising) in
          let low : lesser (items e.1) ≡ false = ap is_lt (line_by e keyed.0 Equal is) in
          let high : greater (items e.1) ≡ false = ap is_gt (line_by e keyed.0 Equal is) in
          rw (low, high) (ap (λ front. (front ++ put) ++ filter greater (lines es)) (none_lesser es keyed.1 above) ∙ ap (λ back. put ++ back) (all_greater es keyed.1 above))

      edit_behind : cmp k e.0 ≡ Greater → replaced table (numbers k) put (lines (e ∷ es)) ≡ items e.1 ∷ replaced table (numbers k) put (lines es)
      edit_behind is =
          let low : lesser (items e.1) ≡ true = ap is_lt (line_by e keyed.0 Greater is) in
          let high : greater (items e.1) ≡ false = ap is_gt (line_by e keyed.0 Greater is) in
          rw (low, high) refl

    -- what an insert leaves
    pub put_lines : (v : X) (es : List (K × X)) → AreKeyed es → AreRising es → lines (insert_entry cmp es k v) ≡ replaced table (numbers k) (items v ∷ []) (lines es)
    put_lines v [] keyed rising = refl
    put_lines v (e ∷ es) keyed rising = by (put_lines v es keyed.1 (sorted_tail cmp e.0 (keys_of es) rising)) (cmp k e.0) refl
      where
        by : lines (insert_entry cmp es k v) ≡ replaced table (numbers k) (items v ∷ []) (lines es) → (r : Ordering) → cmp k e.0 ≡ r → lines (insert_entry cmp (e ∷ es) k v) ≡ replaced table (numbers k) (items v ∷ []) (lines (e ∷ es))
        by more Less is = rw is (sym (edit_before (items v ∷ []) e es keyed rising is))
        by more Equal is = rw is (sym (edit_here (items v ∷ []) e es keyed rising is))
        by more Greater is = rw is (ap (λ ls. items e.1 ∷ ls) more ∙ sym (edit_behind (items v ∷ []) e es keyed rising is))

    pub put_keyed : (v : X) (es : List (K × X)) → AreKeyed es → IsKeyOf table (numbers k) (items v) → AreKeyed (insert_entry cmp es k v)
    put_keyed v [] keyed is_key = (is_key, tt)
    put_keyed v (e ∷ es) keyed is_key = by (put_keyed v es keyed.1 is_key) (cmp k e.0) refl
      where
        by : AreKeyed (insert_entry cmp es k v) → (r : Ordering) → cmp k e.0 ≡ r → AreKeyed (insert_entry cmp (e ∷ es) k v)
        by more Less is = rw is (is_key, keyed)
        by more Equal is = rw is (is_key ∙ ap Some (same_numbers k e.0 is), keyed.1)
        by more Greater is = rw is (keyed.0, more)

    none_found : (es : List (K × X)) → AllAbove k es → lookup (is_at (cmp k)) es ≡ None
    none_found [] above = refl
    none_found (e ∷ es) above = let head : is_eq (cmp k e.0) ≡ false = ap is_eq above.0 in rw head (none_found es above.1)

    none_removed : (es : List (K × X)) → AllAbove k es → remove_entry (is_at (cmp k)) es ≡ es
    none_removed [] above = refl
    none_removed (e ∷ es) above = let head : is_eq (cmp k e.0) ≡ false = ap is_eq above.0 in rw head (ap (λ more. e ∷ more) (none_removed es above.1))

    -- what a removal leaves
    pub taken_lines : (es : List (K × X)) → AreKeyed es → AreRising es → lines (remove_entry (is_at (cmp k)) es) ≡ replaced table (numbers k) [] (lines es)
    taken_lines [] keyed rising = refl
    taken_lines (e ∷ es) keyed rising = by (taken_lines es keyed.1 (sorted_tail cmp e.0 (keys_of es) rising)) (cmp k e.0) refl
      where
        by : lines (remove_entry (is_at (cmp k)) es) ≡ replaced table (numbers k) [] (lines es) → (r : Ordering) → cmp k e.0 ≡ r → lines (remove_entry (is_at (cmp k)) (e ∷ es)) ≡ replaced table (numbers k) [] (lines (e ∷ es))
        by more Less is =
            rw is (ap (λ rest. items e.1 ∷ lines rest) (none_removed es (above_lesser k e.0 is es (sorted_head cmp e.0 (keys_of es) rising))) ∙ sym (edit_before [] e es keyed rising is))
        by more Equal is = rw is (sym (edit_here [] e es keyed rising is))
        by more Greater is = rw is (ap (λ ls. items e.1 ∷ ls) more ∙ sym (edit_behind [] e es keyed rising is))

    pub taken_keyed : (es : List (K × X)) → AreKeyed es → AreKeyed (remove_entry (is_at (cmp k)) es)
    taken_keyed [] keyed = tt
    taken_keyed (e ∷ es) keyed = by (taken_keyed es keyed.1) (is_eq (cmp k e.0)) refl
      where
        by : AreKeyed (remove_entry (is_at (cmp k)) es) → (test : Bool) → is_eq (cmp k e.0) ≡ test → AreKeyed (remove_entry (is_at (cmp k)) (e ∷ es))
        by more true is = rw is keyed.1
        by more false is = rw is (keyed.0, more)

    -- how many there are with a line at the key
    pub put_length : (line : List ℕ) (es : List (K × X)) → AreKeyed es → AreRising es → length (replaced table (numbers k) (line ∷ []) (lines es)) ≡ length es + (if is_some (lookup (is_at (cmp k)) es) then 0 else 1)
    put_length line [] keyed rising = refl
    put_length line (e ∷ es) keyed rising = by (put_length line es keyed.1 (sorted_tail cmp e.0 (keys_of es) rising)) (cmp k e.0) refl
      where
        by : length (replaced table (numbers k) (line ∷ []) (lines es)) ≡ length es + (if is_some (lookup (is_at (cmp k)) es) then 0 else 1) → (r : Ordering) → cmp k e.0 ≡ r → length (replaced table (numbers k) (line ∷ []) (lines (e ∷ es))) ≡ length (e ∷ es) + (if is_some (lookup (is_at (cmp k)) (e ∷ es)) then 0 else 1)
        by more Less is =
            let above = above_lesser k e.0 is es (sorted_head cmp e.0 (keys_of es) rising) in
            rw (edit_before (line ∷ []) e es keyed rising is, is, none_found es above) (omega (arith, length_lines es))
        by more Equal is = rw (edit_here (line ∷ []) e es keyed rising is, is) (omega (arith, length_lines es))
        by more Greater is = rw (edit_behind (line ∷ []) e es keyed rising is, is) (omega (arith, more))

  -- ---- keys that are all lesser

  module _ (k : K) where
    -- all entries have lesser keys
    abbrev AllBelow : List (K × X) → Type 0
    AllBelow es = AllByRecursion (λ key. cmp key k ≡ Less) (keys_of es)

    same_below : (a b : K) → cmp a b ≡ Equal → cmp a k ≡ cmp b k
    same_below a b tied = compares a k ∙ ap (λ n. key_cmp n (numbers k)) (same_numbers a b tied) ∙ sym (compares b k)

    -- a key that isn't above one that is below
    below_last : (last key : K) → cmp last k ≡ Less → is_lt (cmp last key) ≡ false → cmp key k ≡ Less
    below_last last key less above = by (cmp last key) refl above
      where
        by : (r : Ordering) → cmp last key ≡ r → is_lt r ≡ false → cmp key k ≡ Less
        by Less is isnt = cc
        by Equal is isnt = sym (same_below last key is) ∙ less
        by Greater is isnt = less_on key last k (turned key last ∙ ap ordering_reverse is) less

    below_all : (last : K) → cmp last k ≡ Less → (es : List (K × X)) → All (λ key. is_lt (cmp last key) ≡ false) (keys_of es) → AllBelow es
    below_all last less [] up_to = tt
    below_all last less (e ∷ es) up_to = (below_last last e.0 less (up_to 0 e.0 (omega arith)), below_all last less es (λ i d below. up_to (suc i) d (omega (arith, below))))

    ends_before : (es : List (K × X)) → AreKeyed es → AllBelow es → EndsBefore table (numbers k) (lines es)
    ends_before [] keyed below i d in_range = absurd (omega (arith, in_range))
    ends_before (e ∷ es) keyed below zero d in_range = line_compares e k keyed.0 ∙ below.0
    ends_before (e ∷ es) keyed below (suc i) d in_range = ends_before es keyed.1 below.1 i d (omega (arith, in_range))

    ends_with : (last : K) (v : X) (es : List (K × X)) → AreKeyed es → EndsBefore table (numbers k) (lines es) → lookup (is_at (cmp last)) es ≡ Some v → cmp last k ≡ Less
    ends_with last v [] keyed ends found = cc
    ends_with last v (e ∷ es) keyed ends found =
        by (ends_with last v es keyed.1 (λ i d below. ends (suc i) d (omega (arith, below)))) (cmp last e.0) refl
      where
        by : (lookup (is_at (cmp last)) es ≡ Some v → cmp last k ≡ Less) → (r : Ordering) → cmp last e.0 ≡ r → cmp last k ≡ Less
        by more Less is = more (rw is at found)
        by more Equal is = same_below last e.0 is ∙ sym (line_compares e k keyed.0) ∙ ends 0 (items e.1) (omega arith)
        by more Greater is = more (rw is at found)

  -- what a look-up by the numbers of a key finds
  pub found_line : (asked : List ℕ) (compare : K → Ordering) → ((key : K) → compare key ≡ key_cmp asked (numbers key)) → (es : List (K × X)) → AreKeyed es → option_map items (lookup (is_at compare) es) ≡ line_at table asked (lines es)
  found_line asked compare compared [] keyed = refl
  found_line asked compare compared (e ∷ es) keyed = by (found_line asked compare compared es keyed.1) (is_eq (compare e.0)) refl
    where
      line_ties : is_eq (key_cmp (key_of table (items e.1)) asked) ≡ is_eq (compare e.0)
      line_ties = ap (λ key. is_eq (key_cmp key asked)) (key_of_entry e keyed.0) ∙ ties_turned (numbers e.0) asked ∙ ap is_eq (sym (compared e.0))

      by : option_map items (lookup (is_at compare) es) ≡ line_at table asked (lines es) → (test : Bool) → is_eq (compare e.0) ≡ test → option_map items (lookup (is_at compare) (e ∷ es)) ≡ line_at table asked (lines (e ∷ es))
      by more true is = let line : is_eq (key_cmp (key_of table (items e.1)) asked) ≡ true = line_ties ∙ is in rw (is, line) refl
      by more false is = let line : is_eq (key_cmp (key_of table (items e.1)) asked) ≡ false = line_ties ∙ is in rw (is, line) more
