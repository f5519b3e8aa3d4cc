-- The rows of an answer are found by their ids.
use Rattle.std.proofs.Common.{◌≡◌, ℕ, zero, suc, ◌<◌, Bool, true, false, true≢false, List, [], ◌∷◌, length, get_or, take, drop, map, filter, refl, sym, ap, ap₂, subst, ◌∙◌, arith, Option, Some, None}
use Rattle.std.specs.Prelude.{◌||◌, is_some, unwrap_or, option_map, AllPairs}
use Rattle.std.specs.List.{filter_map}
use Rattle.std.specs.Ordering.{is_eq}
use Rattle.std.specs.declared.cmp.Ordering.TheVariants.{Less}
use Rattle.gaz_num.specs.declared.words.Kind.TheVariants.{Row}
use Rattle.gaz_num.specs.declared.words.Table.{Table}
use Rattle.gaz_num.specs.declared.words.Table.TheVariants.{Rows}
use Rattle.gaz_num.specs.Numbers.{id_in}
use Rattle.gaz_num.specs.Pieces.{column}
use Rattle.gaz_row.proofs.AcceptedLemmas.{accepted}
use Rattle.gaz_pick.specs.Order.{Pair, is_same, holds, in_order, cut}
use Rattle.gaz_pick.specs.Asked.{Asked}
use Rattle.gaz_pick.specs.Match.{id_of, pair_of}
use Rattle.gaz_pick.proofs.OrderLemmas.{by_test, same_is, same_itself, holds-in_order}
use Rattle.gaz_plain.specs.Gazetteer.{Gazetteer, IsGazetteer, IsLine, KeysRise, key_of, key_cmp, line_at}
use Rattle.gaz_plain.specs.Search.{matches, rows_at, answer_pairs, search_of}
use Rattle.gaz_plain.proofs.KeyOrder.{key_ties}

-- ---- a row is found by its id

pub keyed : (id : Option ℕ) → is_some id ≡ true → unwrap_or (option_map (λ id. id ∷ []) id) [] ≡ unwrap_or id 0 ∷ []
keyed None some = absurd (true≢false (sym some))
keyed (Some id) some = refl

pub key_is_id : (row : List ℕ) → IsLine Row row → key_of Rows row ≡ id_of row ∷ []
key_is_id row line = keyed (id_in (column 1 row)) (accepted row line.accepted).id

-- each line of a table is found by its key
pub found_by_key : (table : Table) (lines : List (List ℕ)) (k : ℕ) (d : List ℕ) → AllPairs (KeysRise table) lines → k < length lines → line_at table (key_of table (get_or lines k d)) lines ≡ Some (get_or lines k d)
found_by_key table [] k d rising in_range = absurd (omega arith)
found_by_key table (line ∷ lines) zero d rising in_range =
    let here : is_eq (key_cmp (key_of table line) (key_of table line)) ≡ true = ap is_eq (key_ties (key_of table line)) in
    rw here refl
found_by_key table (line ∷ lines) (suc k) d rising in_range =
    let less : key_cmp (key_of table line) (key_of table (get_or lines k d)) ≡ Less = rising 0 (suc k) d (omega arith) (omega arith) in
    let later : is_eq (key_cmp (key_of table line) (key_of table (get_or lines k d))) ≡ false = ap is_eq less in
    rw later (found_by_key table lines k d (λ i j e lt within. rising (suc i) (suc j) e (omega arith) (omega arith)) (omega arith))

-- ---- a pair of rows that match has its row

-- The row of a pair is found by its id.
record HasRow (all : List (List ℕ)) (pair : Pair) : Type 0 where
  row : List ℕ
  found : line_at Rows (pair.1 ∷ []) all ≡ Some row
  is : pair_of row ≡ pair

-- each of these rows is found by its id
abbrev AreFound : List (List ℕ) → List (List ℕ) → Type 0
AreFound all rows = (k : ℕ) (d : List ℕ) → k < length rows → line_at Rows (id_of (get_or rows k d) ∷ []) all ≡ Some (get_or rows k d)

module _ (all : List (List ℕ)) (test : List ℕ → Bool) (pair : Pair) where
  has_row : (rows : List (List ℕ)) → AreFound all rows → holds (map pair_of (filter test rows)) pair ≡ true → HasRow all pair
  has_row [] found held = absurd (true≢false (sym held))
  has_row (row ∷ rows) found held =
      let more = has_row rows (λ k d below. found (suc k) d (omega arith)) in
      by_test (test row)
      (λ taken. let here : (is_same pair (pair_of row) || holds (map pair_of (filter test rows)) pair) ≡ true = rw taken at held in
      by_test (is_same pair (pair_of row))
      (λ same. let is = same_is pair (pair_of row) same in record {
        row = row;
        found = ap (λ (p : Pair). line_at Rows (p.1 ∷ []) all) is ∙ found 0 row (omega arith);
        is = sym is;
      })
      (λ other. more (rw other at here)))
      (λ left. more (rw left at held))

-- ---- the pairs of an answer are of those

holds-take : (n : ℕ) (xs : List Pair) (p : Pair) → holds (take n xs) p ≡ true → holds xs p ≡ true
holds-take zero xs p held = absurd (true≢false (sym held))
holds-take (suc n) [] p held = held
holds-take (suc n) (x ∷ xs) p held =
    by_test (is_same p x)
    (λ same. rw same refl)
    (λ other. let rest : holds (take n xs) p ≡ true = rw other at held in rw other (holds-take n xs p rest))

holds-drop : (n : ℕ) (xs : List Pair) (p : Pair) → holds (drop n xs) p ≡ true → holds xs p ≡ true
holds-drop zero xs p held = held
holds-drop (suc n) [] p held = held
holds-drop (suc n) (x ∷ xs) p held =
    let rest = holds-drop n xs p held in
    by_test (is_same p x) (λ same. rw same refl) (λ other. rw other rest)

-- ---- no pair is lost

or_right : (a b : Bool) → b ≡ true → (a || b) ≡ true
or_right true b is = refl
or_right false b is = is

pairs_of_rows : (all : List (List ℕ)) (pairs : List Pair) → ((p : Pair) → holds pairs p ≡ true → HasRow all p) → map pair_of (filter_map (λ pair. line_at Rows (pair.1 ∷ []) all) pairs) ≡ pairs
pairs_of_rows all [] have = refl
pairs_of_rows all (p ∷ ps) have =
    let first = have p (ap (λ b. b || holds ps p) (same_itself p)) in
    rw first.found (ap₂ ◌∷◌ first.is (pairs_of_rows all ps (λ q held. have q (or_right (is_same q p) (holds ps q) held))))

-- a cut of the pairs of rows that pass a test
pub cut_has_rows : (gaz : Gazetteer) (test : List ℕ → Bool) (start max : ℕ) → IsGazetteer gaz → map pair_of (rows_at gaz (cut (map pair_of (filter test gaz.rows)) start max)) ≡ cut (map pair_of (filter test gaz.rows)) start max
cut_has_rows gaz test start max is =
    let table = is.tables Rows in
    let found : AreFound gaz.rows gaz.rows = λ k d below. subst (λ key. line_at Rows key gaz.rows ≡ Some (get_or gaz.rows k d)) (key_is_id (get_or gaz.rows k d) (table.each k d below)) (found_by_key Rows gaz.rows k d table.rising below) in
    let pairs = map pair_of (filter test gaz.rows) in
    pairs_of_rows gaz.rows (cut pairs start max)
    (λ p held. has_row gaz.rows test p gaz.rows found
    (sym (holds-in_order pairs p) ∙ holds-drop start (in_order pairs) p (holds-take max (drop start (in_order pairs)) p held)))

pub answers_have_rows : (gaz : Gazetteer) (asked : Asked) → IsGazetteer gaz → map pair_of (search_of gaz asked) ≡ answer_pairs gaz asked
answers_have_rows gaz asked is = cut_has_rows gaz (matches gaz asked) asked.start asked.max is
