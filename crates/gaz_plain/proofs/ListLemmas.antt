-- A list of lines by its entries.
use Rattle.std.proofs.Common.{◌≡◌, ℕ, ◌+◌, ◌<◌, ◌≤◌, Bool, true, false, List, [], ◌∷◌, ◌++◌, length, map, filter, refl, ap, ◌∙◌, arith}
use Rattle.std.specs.Prelude.{Vec, vec_items, is_some, option_map, if◌then◌else◌}
use Rattle.std.specs.BTreeMap.{insert_entry, is_at}
use Rattle.std.specs.List.Sorted.{IsStrictlySortedBy}
use Rattle.std.specs.Map.{keys_of, values_of, lookup, remove_entry}
use Rattle.std.specs.Ordering.{is_lt, is_gt}
use Rattle.std.proofs.lemmas.Bool.Decides.{nat_tests}
use Rattle.std.specs.declared.cmp.Ordering.{Ordering}
use Rattle.std.proofs.lemmas.List.{length-map, length-append}
use Rattle.gaz_num.specs.declared.words.Table.{Table}
use Rattle.gaz_plain.specs.Gazetteer.{key_of, key_cmp, limit_of, line_at}
use Rattle.gaz_plain.specs.Places.{IsKeyOf, has_room, with_line, without_line}
use Rattle.gaz_plain.specs.Entries.{lines_of, AreEntries}
use Rattle.gaz_plain.proofs.EntryLemmas.{put_lines, put_keyed, put_length, taken_lines, taken_keyed, found_line}

-- one line or another in its place
pub one_length : (table : Table) (key a b : List ℕ) (lines : List (List ℕ)) → length (with_line table key a lines) ≡ length (with_line table key b lines)
one_length table key a b lines =
    let low = filter (λ line. is_lt (key_cmp (key_of table line) key)) lines in
    let high = filter (λ line. is_gt (key_cmp (key_of table line) key)) lines in
    omega (arith, length-append (low ++ a ∷ []) high, length-append (low ++ b ∷ []) high, length-append low (a ∷ []), length-append low (b ∷ []))

-- with room for a line or without
pub room_for : (table : Table) (key line : List ℕ) (lines : List (List ℕ)) → true ≡ has_room table key lines → length (with_line table key line lines) ≤ limit_of table
room_for table key line lines is = let within : length (with_line table key [] lines) ≤ limit_of table = grind (arith, nat_tests) in omega (arith, within, one_length table key line [] lines)

pub no_room_for : (table : Table) (key line : List ℕ) (lines : List (List ℕ)) → false ≡ has_room table key lines → limit_of table < length (with_line table key line lines)
no_room_for table key line lines isnt = let past : limit_of table < length (with_line table key [] lines) = grind (arith, nat_tests) in omega (arith, past, one_length table key line [] lines)

pub values_seen : {K Z : Type 0} (es : List (K × Vec ℕ Z)) → map (λ line. vec_items line) (values_of es) ≡ lines_of es
values_seen [] = refl
values_seen (e ∷ es) = ap (λ ls. vec_items e.1 ∷ ls) (values_seen es)

module _ {K Z : Type 0} (table : Table) (cmp : K → K → Ordering) (numbers : K → List ℕ) (compares : (a b : K) → cmp a b ≡ key_cmp (numbers a) (numbers b)) (es : List (K × Vec ℕ Z)) (are : AreEntries table cmp numbers es) where
  -- ---- look-ups

  pub found : (asked : List ℕ) (compare : K → Ordering) → ((key : K) → compare key ≡ key_cmp asked (numbers key)) → option_map vec_items (lookup (is_at compare) es) ≡ line_at table asked (lines_of es)
  found asked compare compared = found_line vec_items table cmp numbers compares asked compare compared es are.keyed

  module _ (k : K) (line : List ℕ) where
    -- how many lines there are with one at the key
    pub count_put : length (with_line table (numbers k) line (lines_of es)) ≡ length es + (if is_some (lookup (is_at (cmp k)) es) then 0 else 1)
    count_put = put_length vec_items table cmp numbers compares k line es are.keyed are.rising

    count_new : is_some (lookup (is_at (cmp k)) es) ≡ false → length (with_line table (numbers k) line (lines_of es)) ≡ length es + 1
    count_new absent = count_put ∙ ap (λ (test : Bool). length es + (if test then 0 else 1)) absent

    -- a table that is full, where no line has the key
    overflows : limit_of table ≤ length es → is_some (lookup (is_at (cmp k)) es) ≡ false → limit_of table < length (with_line table (numbers k) line (lines_of es))
    overflows full absent = omega (arith, full, count_new absent)

    -- one in which a line has it, or that isn't full
    fits_over : is_some (lookup (is_at (cmp k)) es) ≡ true → length (with_line table (numbers k) line (lines_of es)) ≤ limit_of table
    fits_over there = omega (arith, are.within, count_put ∙ ap (λ (test : Bool). length es + (if test then 0 else 1)) there)

    fits_in : length es < limit_of table → length (with_line table (numbers k) line (lines_of es)) ≤ limit_of table
    fits_in room = by (is_some (lookup (is_at (cmp k)) es)) refl
      where
        by : (test : Bool) → is_some (lookup (is_at (cmp k)) es) ≡ test → length (with_line table (numbers k) line (lines_of es)) ≤ limit_of table
        by true there = fits_over there
        by false absent = omega (arith, room, count_new absent)

    -- ---- what an insert leaves

    module _ (v : Vec ℕ Z) (is : vec_items v ≡ line) (new : List (K × Vec ℕ Z)) (inserted : new ≡ insert_entry cmp es k v) where
      pub put_seen : lines_of new ≡ with_line table (numbers k) line (lines_of es)
      put_seen = ap lines_of inserted ∙ put_lines vec_items table cmp numbers compares k v es are.keyed are.rising ∙ ap (λ l. with_line table (numbers k) l (lines_of es)) is

      pub put_are : IsKeyOf table (numbers k) line → length (with_line table (numbers k) line (lines_of es)) ≤ limit_of table → IsStrictlySortedBy cmp (keys_of new) → AreEntries table cmp numbers new
      put_are keyed within rising = record {
        keyed = rw inserted (put_keyed vec_items table cmp numbers compares k v es are.keyed (rw is keyed));
        rising = rising;
        within = omega (arith, within, ap length put_seen, length-map new (λ entry. vec_items entry.1));
      }

  -- ---- whether there is room

  module _ (k : K) where
    pub room_in : length es < limit_of table → true ≡ has_room table (numbers k) (lines_of es)
    room_in room = let within = fits_in k [] room in grind (arith, nat_tests)

    pub room_at : limit_of table ≤ length es → is_some (lookup (is_at (cmp k)) es) ≡ has_room table (numbers k) (lines_of es)
    room_at full = by (is_some (lookup (is_at (cmp k)) es)) refl
      where
        by : (test : Bool) → is_some (lookup (is_at (cmp k)) es) ≡ test → test ≡ has_room table (numbers k) (lines_of es)
        by true there = let within = fits_over k [] there in grind (arith, nat_tests)
        by false absent = let past = overflows k [] full absent in grind (arith, nat_tests)

  -- ---- what a removal leaves

  module _ (k : K) (new : List (K × Vec ℕ Z)) (removed : new ≡ remove_entry (is_at (cmp k)) es) where
    pub taken_seen : lines_of new ≡ without_line table (numbers k) (lines_of es)
    taken_seen = ap lines_of removed ∙ taken_lines vec_items table cmp numbers compares k es are.keyed are.rising

    pub taken_are : length new ≤ length es → IsStrictlySortedBy cmp (keys_of new) → AreEntries table cmp numbers new
    taken_are fewer rising = record {
      keyed = rw removed (taken_keyed vec_items table cmp numbers compares k es are.keyed);
      rising = rising;
      within = omega (arith, are.within, fewer);
    }
