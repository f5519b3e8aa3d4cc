-- The first of the rows of a table has the least id, and what is found by a key is what the rules go through.
use Rattle.std.proofs.Common.{◌≡◌, ℕ, suc, ◌<◌, min, Bool, true, false, true≢false, List, [], ◌∷◌, length, get_or, map, filter, refl, sym, ap, ap₂, ◌∙◌, arith, Option, Some, None, eq-eqb, Bor}
use Rattle.std.specs.Prelude.{◌&&◌, ◌||◌, not, is_some, unwrap_or, option_map, option_and_then, option_copied, All, AllPairs, ◌==◌, if◌then◌else◌}
use Rattle.std.specs.List.{list_any, find}
use Rattle.std.specs.Str.{bytes_eq}
use Rattle.std.specs.Ordering.{is_eq}
use Rattle.std.specs.declared.cmp.Ordering.TheVariants.{Less, Equal}
use Rattle.std.proofs.lemmas.Cmp.{ranked}
use Rattle.std.proofs.lemmas.Map.Text.{is_eq-slice_cmp}
use Rattle.std.proofs.lemmas.Slice.Eq.{bytes_eq-Decides}
use Rattle.std.proofs.lemmas.Bool.Decides.{Decides-eqb}
use Rattle.gaz_num.specs.declared.words.Kind.TheVariants.{Row, Link, Country}
use Rattle.gaz_num.specs.declared.words.Table.TheVariants.{Rows, Links, Countries}
use Rattle.gaz_num.specs.Numbers.{id_in}
use Rattle.gaz_num.specs.Pieces.{column}
use Rattle.gaz_num.specs.Check.{link_key, class_in, is_comment}
use Rattle.gaz_row.specs.Row.{id_of}
use Rattle.gaz_tables.specs.declared.link.LinkClass.{LinkClass}
use Rattle.gaz_tables.specs.Keys.{class_number}
use Rattle.gaz_parent.specs.Parent.{is_this, first_some, least, may_be, is_link, names}
use Rattle.gaz_pick.proofs.OrderLemmas.{by_test}
use Rattle.gaz_plain.specs.Gazetteer.{IsLine, KeysRise, key_of, key_cmp, line_at}
use Rattle.gaz_plain.specs.Keys.{compares_alone}
use Rattle.gaz_plain.proofs.KeyOrder.{key_ties, All-rest}
use Rattle.gaz_plain.proofs.Selected.{key_is_id}

-- ---- rows

-- of two rows, the one with the lesser key has the lesser id
ids_rise : (a b : List ℕ) → IsLine Row a → IsLine Row b → KeysRise Rows a b → id_of a < id_of b
ids_rise a b is_a is_b rise =
    ranked (id_of a) (id_of b) Less (sym rise ∙ ap₂ key_cmp (key_is_id a is_a) (key_is_id b is_b) ∙ sym (compares_alone (id_of a) (id_of b)))

lesser : (m n : ℕ) → m < n → min m n ≡ m
lesser m n less = omega (arith, less)

module _ (may : List ℕ → Bool) where
  min_first : (n : ℕ) (rows : List (List ℕ)) → ((k : ℕ) (d : List ℕ) → k < length rows → n < id_of (get_or rows k d)) → unwrap_or (option_map (min n) (option_map id_of (find may rows))) n ≡ n
  min_first n [] above = refl
  min_first n (row ∷ rows) above =
      by_test (may row)
      (λ is. rw is (lesser n (id_of row) (above 0 row (omega arith))))
      (λ isnt. rw isnt (min_first n rows (λ k d below. above (suc k) d (omega (arith, below)))))

  -- the first that may be taken has the least id
  pub least_first : (rows : List (List ℕ)) → All (IsLine Row) rows → AllPairs (KeysRise Rows) rows → least (map id_of (filter may rows)) ≡ option_map id_of (find may rows)
  least_first [] lines rise = refl
  least_first (row ∷ rows) lines rise =
      let more = least_first rows (All-rest (IsLine Row) row rows lines) (λ i j d lt within. rise (suc i) (suc j) d (omega (arith, lt)) (omega (arith, within))) in
      by_test (may row)
      (λ is. rw is
      (ap (λ found. Some (unwrap_or (option_map (min (id_of row)) found) (id_of row))) more
      ∙ ap Some (min_first (id_of row) rows (λ k d below. ids_rise row (get_or rows k d) (lines 0 d (omega arith)) (lines (suc k) d (omega (arith, below))) (rise 0 (suc k) d (omega arith) (omega (arith, below)))))))
      (λ isnt. rw isnt more)

-- tests that agree find the same
pub find_same : (p q : List ℕ → Bool) → ((row : List ℕ) → p row ≡ q row) → (rows : List (List ℕ)) → find p rows ≡ find q rows
find_same p q same [] = refl
find_same p q same (row ∷ rows) = rw (same row, find_same p q same rows) refl

and_true : (b : Bool) → (b && true) ≡ b
and_true true = refl
and_true false = refl

-- a row's key ties with an id where it is its own
same_id : (row : List ℕ) (id : ℕ) → IsLine Row row → is_eq (key_cmp (key_of Rows row) (id ∷ [])) ≡ (id_of row == id)
same_id row id is = ap (λ key. is_eq (key_cmp key (id ∷ []))) (key_is_id row is) ∙ is_eq-slice_cmp (id_of row ∷ []) (id ∷ []) ∙ and_true (id_of row == id)

-- the row with an id is the one that is found by it
pub row_at : (id : ℕ) (rows : List (List ℕ)) → All (IsLine Row) rows → find (λ row. id_of row == id) rows ≡ line_at Rows (id ∷ []) rows
row_at id [] lines = refl
row_at id (row ∷ rows) lines =
    let key = same_id row id (lines 0 row (omega arith)) in
    rw (key, row_at id rows (All-rest (IsLine Row) row rows lines)) refl

-- it has that id
pub found_id : (id : ℕ) (rows : List (List ℕ)) (row : List ℕ) → find (λ row. id_of row == id) rows ≡ Some row → id_of row ≡ id
found_id id [] row found = cc
found_id id (first ∷ rows) row found =
    by_test (id_of first == id)
    (λ is. (Decides-eqb (id_of row) id).0 (let same : first ≡ row = ap (λ o. unwrap_or o []) (some_is first row (rw is at found)) in ap (λ r. id_of r == id) (sym same) ∙ is))
    (λ isnt. found_id id rows row (rw isnt at found))
  where
    some_is : (a b : List ℕ) → Some a ≡ Some b → Some a ≡ Some b
    some_is a b same = same

-- numbers that aren't one don't tie
pub differ : (m n : ℕ) → (m ≡ n → ⊥) → (m == n) ≡ false
differ m n apart = by_test (m == n) (λ is. absurd (apart ((Decides-eqb m n).0 is))) (λ isnt. isnt)

-- ---- links

turned : (a b c : Bool) → (a && (b && (c && true))) ≡ ((b && a) && c)
turned true true c = and_true c
turned true false c = refl
turned false true c = refl
turned false false c = refl

by_ids : (class n child parent : ℕ) (c p : Option ℕ) → is_some (link_key c n p) ≡ true → is_eq (key_cmp (unwrap_or (link_key c n p) []) (child ∷ class ∷ parent ∷ [])) ≡ ((n == class) && is_this child c && is_this parent p)
by_ids class n child parent None p some = absurd (true≢false (sym some))
by_ids class n child parent (Some c) None some = absurd (true≢false (sym some))
by_ids class n child parent (Some c) (Some p) some = is_eq-slice_cmp (c ∷ n ∷ p ∷ []) (child ∷ class ∷ parent ∷ []) ∙ turned (c == child) (n == class) (p == parent)

-- a link's key ties with that of a child, a class and a parent where it is a link of these
link_is : (class : LinkClass) (child parent : ℕ) (line : List ℕ) → IsLine Link line → is_eq (key_cmp (key_of Links line) (child ∷ class_number class ∷ parent ∷ [])) ≡ is_link class child parent line
link_is class child parent line is = by_ids (class_number class) (class_in (column 3 line)) child parent (id_in (column 2 line)) (id_in (column 1 line)) is.keyed

-- there is such a link where one is found by its key
pub link_found : (class : LinkClass) (child parent : ℕ) (links : List (List ℕ)) → All (IsLine Link) links → is_some (line_at Links (child ∷ class_number class ∷ parent ∷ []) links) ≡ list_any (is_link class child parent) links
link_found class child parent [] lines = refl
link_found class child parent (link ∷ links) lines =
    let more = link_found class child parent links (All-rest (IsLine Link) link links lines) in
    let same = link_is class child parent link (lines 0 link (omega arith)) in
    by_test (is_link class child parent link)
    (λ is. let key = same ∙ is in rw (is, key) refl)
    (λ isnt. let key = same ∙ isnt in rw (isnt, key) more)

-- what is copied is there
pub some_copied : {A : Type 0} (found : Option (Bor A)) → is_some (option_copied found) ≡ is_some found
some_copied None = refl
some_copied (Some line) = refl

-- ---- countries

coded : (line : List ℕ) (remark : Bool) → is_some (if remark then None else Some (column 1 line)) ≡ true → unwrap_or (if remark then None else Some (column 1 line)) [] ≡ column 1 line
coded line true some = absurd (true≢false (sym some))
coded line false some = refl

-- the key of a line of a country is its code
pub key_is_code : (line : List ℕ) → IsLine Country line → key_of Countries line ≡ column 1 line
key_is_code line is = coded line (is_comment Country line) is.keyed

same_code : (line code : List ℕ) → IsLine Country line → is_eq (key_cmp (key_of Countries line) code) ≡ bytes_eq (column 1 line) code
same_code line code is = ap (λ key. is_eq (key_cmp key code)) (key_is_code line is) ∙ is_eq-slice_cmp (column 1 line) code

-- the place that the line of a country names, if there is one
abbrev pub place_named : Option (List ℕ) → Option ℕ
place_named line = option_and_then (λ line. id_in (column 17 line)) line

none_names : (code : List ℕ) (id : ℕ) (lines : List (List ℕ)) → All (IsLine Country) lines → ((k : ℕ) (d : List ℕ) → k < length lines → key_cmp code (key_of Countries (get_or lines k d)) ≡ Less) → list_any (names code id) lines ≡ false
none_names code id [] are above = refl
none_names code id (line ∷ lines) are above =
    let more = none_names code id lines (All-rest (IsLine Country) line lines are) (λ k d below. above (suc k) d (omega (arith, below))) in
    by_test (bytes_eq (column 1 line) code)
    (λ is.
    let own : key_of Countries line ≡ code = key_is_code line (are 0 line (omega arith)) ∙ (bytes_eq-Decides (column 1 line) code).0 is in
    let tied : Less ≡ Equal = sym (above 0 line (omega arith)) ∙ ap (key_cmp code) own ∙ key_ties code in
    absurd (cc))
    (λ isnt. rw isnt more)

-- a line names the place for the country where the one that is found by the code does
pub named : (code : List ℕ) (id : ℕ) (lines : List (List ℕ)) → All (IsLine Country) lines → AllPairs (KeysRise Countries) lines → list_any (names code id) lines ≡ is_this id (place_named (line_at Countries code lines))
named code id [] are rise = refl
named code id (line ∷ lines) are rise =
    let more = named code id lines (All-rest (IsLine Country) line lines are) (λ i j d lt within. rise (suc i) (suc j) d (omega (arith, lt)) (omega (arith, within))) in
    let same = same_code line code (are 0 line (omega arith)) in
    by_test (bytes_eq (column 1 line) code)
    (λ is.
    let own : key_of Countries line ≡ code = key_is_code line (are 0 line (omega arith)) ∙ (bytes_eq-Decides (column 1 line) code).0 is in
    let rest = none_names code id lines (All-rest (IsLine Country) line lines are) (λ k d below. ap (λ key. key_cmp key (key_of Countries (get_or lines k d))) (sym own) ∙ rise 0 (suc k) d (omega arith) (omega (arith, below))) in
    let key = same ∙ is in
    rw (is, key, rest) (or_false (is_this id (id_in (column 17 line)))))
    (λ isnt. let key = same ∙ isnt in rw (isnt, key) more)
  where
    or_false : (b : Bool) → (b || false) ≡ b
    or_false true = refl
    or_false false = refl

-- ---- the row that is named

module _ (id : ℕ) where
  -- a row that is named and isn't the one with this id
  abbrev pub other_with : Option ℕ → List ℕ → Bool
  other_with place other = may_be id (λ row. is_this (id_of row) place) other

  pub none_with : (rows : List (List ℕ)) → find (other_with None) rows ≡ None
  none_with [] = refl
  none_with (row ∷ rows) = none_with rows

  pub not_itself : (rows : List (List ℕ)) → find (other_with (Some id)) rows ≡ None
  not_itself [] = refl
  not_itself (row ∷ rows) =
      by_test (id_of row == id)
      (λ is. let turned : (id == id_of row) ≡ true = eq-eqb id (id_of row) (sym ((Decides-eqb (id_of row) id).0 is)) in rw (turned, is) (not_itself rows))
      (λ isnt. let turned : (id == id_of row) ≡ false = apart (id_of row) isnt in rw turned (not_itself rows))
    where
      apart : (n : ℕ) → (n == id) ≡ false → (id == n) ≡ false
      apart n isnt = by_test (id == n) (λ is. absurd (true≢false (sym (eq-eqb n id (sym ((Decides-eqb id n).0 is))) ∙ isnt))) (λ other. other)

  pub another_with : (place : ℕ) → (place == id) ≡ false → (rows : List (List ℕ)) → find (other_with (Some place)) rows ≡ find (λ row. id_of row == place) rows
  another_with place differs rows = find_same (other_with (Some place)) (λ row. id_of row == place) same rows
    where
      same : (row : List ℕ) → (place == id_of row && not (id_of row == id)) ≡ (id_of row == place)
      same row =
          by_test (id_of row == place)
          (λ is.
          let own : id_of row ≡ place = (Decides-eqb (id_of row) place).0 is in
          let turned : (place == id_of row) ≡ true = eq-eqb place (id_of row) (sym own) in
          let other : (id_of row == id) ≡ false = ap (λ n. n == id) own ∙ differs in
          rw (turned, other, is) refl)
          (λ isnt.
          let turned : (place == id_of row) ≡ false = apart (id_of row) isnt in
          rw (turned, isnt) refl)
        where
          apart : (n : ℕ) → (n == place) ≡ false → (place == n) ≡ false
          apart n isnt = by_test (place == n) (λ is. absurd (true≢false (sym (eq-eqb n place (sym ((Decides-eqb place n).0 is))) ∙ isnt))) (λ other. other)

-- ---- the first of two

pub this_first : (n : ℕ) (found later : Option ℕ) → Some n ≡ found → Some n ≡ first_some (found ∷ later ∷ [])
this_first n None later is = cc
this_first n (Some m) later is = is

pub then_this : (found later : Option ℕ) → None ≡ found → later ≡ first_some (found ∷ later ∷ [])
then_this None None is = refl
then_this None (Some n) is = refl
then_this (Some m) later is = cc
