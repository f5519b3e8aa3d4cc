-- Which lines a gazetteer has after a step, and how many.
use Rattle.std.proofs.Common.{◌≡◌, ◌≢◌, ◌≤◌, ◌+◌, ℕ, suc, Bool, true, false, List, [], ◌∷◌, ◌++◌, length, filter, refl, sym, ◌∙◌, ap, subst, inl, inr, arith, Option, Some, None, Result, Ok, Err, IsTrue, length-append}
use Rattle.std.specs.Prelude.{◌⊎◌, Contains, AllPairs, find, IsSome, is_some, if◌then◌else◌, nat_lt, IfOk}
use Rattle.std.specs.Ordering.{is_lt, is_gt, is_eq}
use Rattle.std.specs.declared.cmp.Ordering.{Ordering}
use Rattle.std.specs.declared.cmp.Ordering.TheVariants.{Less, Equal, Greater}
use Rattle.std.proofs.lemmas.Bool.Decides.{nat_tests}
use Rattle.std.proofs.lemmas.List.Elements.{Contains-append_left, Contains-append_right, Contains-append_cases}
use Rattle.gaz_num.specs.declared.words.Kind.{Kind}
use Rattle.gaz_num.specs.declared.words.Table.{Table}
use Rattle.gaz_num.specs.declared.words.Reason.{Reason}
use Rattle.gaz_num.specs.Check.{reason_against, key_in}
use Rattle.gaz_plain.specs.Gazetteer.{Gazetteer, IsGazetteer, KeysRise, full, key_of, key_cmp, lines_in, with_lines, limit_of, table_of, is_delete, is_one_line, put_by, line_at, line_with, replaced, step, step_at, after_check, after_line}
use Rattle.gaz_plain.specs.Laws.{IsGazetteerOf}
use Rattle.gaz_plain.proofs.KeyOrder.{same_key, key_ties}
use Rattle.gaz_plain.proofs.Steps.{own_lines, one_or_other, key_of_put}
use Rattle.gaz_plain.proofs.Selected.{found_by_key}
use Rattle.gaz_plain.proofs.Kept.{line_keeps}
use Rattle.gaz_keys.proofs.Tags.{contained, contained_none}
use Rattle.gaz_keys.proofs.Alike.{one_table}
use Rattle.gaz_rows.specs.Steps.{line_put, IsOne, AreReplaced}
use Rattle.gaz_rows.proofs.Members.{head_is_in, tail_is_in}
use Rattle.gaz_rows.proofs.Keyed.{some_inj}
use Rattle.gaz_rows.proofs.Counting.{passed}
use Rattle.gaz_rows.proofs.Got.{has_key}

-- ---- lists

pub false_is_true : false ≡ true → ⊥
false_is_true is = cc

pub none_is_some : {X : Type 0} (x : X) → None ≡ Some x → ⊥
none_is_some x is = cc

module _ {X : Type 0} (p : X → Bool) where
  -- what is found is there and passes
  pub find_has : (xs : List X) (x : X) → find p xs ≡ Some x → Contains xs x × (p x ≡ true)
  find_has [] x is = absurd (cc)
  find_has (y ∷ ys) x is = by (p y) refl is (find_has ys x)
    where
      by : (b : Bool) → p y ≡ b → (if b then Some y else find p ys) ≡ Some x → (find p ys ≡ Some x → Contains ys x × (p x ≡ true)) → Contains (y ∷ ys) x × (p x ≡ true)
      by true passes found rest = let same = some_inj y x found in (subst (Contains (y ∷ ys)) same (head_is_in y ys), ap p (sym same) ∙ passes)
      by false fails found rest = let later = rest found in (tail_is_in y ys x later.0, later.1)

  -- what a filter leaves
  pub filter_has : (xs : List X) (x : X) → Contains xs x → p x ≡ true → Contains (filter p xs) x
  filter_has [] x has passes = absurd (contained_none x has)
  filter_has (y ∷ ys) x has passes = by (p y) refl (contained y ys x has) (λ later. filter_has ys x later passes)
    where
      by : (b : Bool) → p y ≡ b → (y ≡ x) ⊎ Contains ys x → (Contains ys x → Contains (filter p ys) x) → Contains (filter p (y ∷ ys)) x
      by true is (inl same) rest = rw is (subst (Contains (y ∷ filter p ys)) same (head_is_in y (filter p ys)))
      by true is (inr later) rest = rw is (tail_is_in y (filter p ys) x (rest later))
      by false is (inl same) rest = absurd (false_is_true (sym is ∙ ap p same ∙ passes))
      by false is (inr later) rest = rw is (rest later)

  pub filter_none : (xs : List X) → ((x : X) → Contains xs x → p x ≡ false) → filter p xs ≡ []
  filter_none [] none = refl
  filter_none (x ∷ xs) none = rw (none x (head_is_in x xs)) (filter_none xs (λ y has. none y (tail_is_in x xs y has)))

-- ---- the lines of a table

-- a line is found by its key
pub found_itself : (table : Table) (lines : List (List ℕ)) (line : List ℕ) → AllPairs (KeysRise table) lines → Contains lines line → line_at table (key_of table line) lines ≡ Some line
found_itself table lines line rising has =
    subst (λ l. line_at table (key_of table l) lines ≡ Some l) has.2 (found_by_key table lines has.0 line rising has.1)

-- so lines with one key are one
pub one_line : (table : Table) (lines : List (List ℕ)) (a b : List ℕ) → AllPairs (KeysRise table) lines → Contains lines a → Contains lines b → key_of table a ≡ key_of table b → a ≡ b
one_line table lines a b rising has also same =
    some_inj a b (sym (found_itself table lines a rising has) ∙ ap (λ key. line_at table key lines) same ∙ found_itself table lines b rising also)

module _ (table : Table) (key : List ℕ) (put lines : List (List ℕ)) where
  abbrev lesser : List (List ℕ)
  lesser = filter (λ line. is_lt (key_cmp (key_of table line) key)) lines

  abbrev greater : List (List ℕ)
  greater = filter (λ line. is_gt (key_cmp (key_of table line) key)) lines

  -- a line with the key is neither before it nor behind it
  at_key : (line : List ℕ) (test : Ordering → Bool) → test Equal ≡ false → test (key_cmp (key_of table line) key) ≡ true → key_of table line ≢ key
  at_key line test fails passes is = false_is_true (sym (ap (λ k. test (key_cmp k key)) is ∙ ap test (key_ties key) ∙ fails) ∙ passes)

  put_in : (line : List ℕ) → Contains put line → Contains (replaced table key put lines) line
  put_in line has = Contains-append_left (lesser ++ put) greater line (Contains-append_right lesser put line has)

  other_in : (line : List ℕ) → Contains lines line → key_of table line ≢ key → Contains (replaced table key put lines) line
  other_in line has differs = by (key_cmp (key_of table line) key) refl
    where
      by : (r : Ordering) → key_cmp (key_of table line) key ≡ r → Contains (replaced table key put lines) line
      by Less is = Contains-append_left (lesser ++ put) greater line (Contains-append_left lesser put line (filter_has (λ l. is_lt (key_cmp (key_of table l) key)) lines line has (ap is_lt is)))
      by Equal is = absurd (differs (same_key (key_of table line) key (ap is_eq is)))
      by Greater is = Contains-append_right (lesser ++ put) greater line (filter_has (λ l. is_gt (key_cmp (key_of table l) key)) lines line has (ap is_gt is))

  was_in : (line : List ℕ) → Contains (replaced table key put lines) line → Contains put line ⊎ (Contains lines line × (key_of table line ≢ key))
  was_in line has = elim (Contains-append_cases (lesser ++ put) greater line has) [
    | inl front ↦ elim (Contains-append_cases lesser put line front) [
      | inl less ↦ let was = passed (λ l. is_lt (key_cmp (key_of table l) key)) lines line less in inr (was.0, at_key line is_lt refl was.1)
      | inr new ↦ inl new
    ]
    | inr more ↦ let was = passed (λ l. is_gt (key_cmp (key_of table l) key)) lines line more in inr (was.0, at_key line is_gt refl was.1)
  ]

  -- ---- how many there are

  abbrev equal : List (List ℕ) → List (List ℕ)
  equal all = filter (λ line. is_eq (key_cmp (key_of table line) key)) all

  parts : (all : List (List ℕ)) → length (filter (λ line. is_lt (key_cmp (key_of table line) key)) all) + length (equal all) + length (filter (λ line. is_gt (key_cmp (key_of table line) key)) all) ≡ length all
  parts [] = refl
  parts (line ∷ all) = by (key_cmp (key_of table line) key) refl (parts all)
    where
      by : (r : Ordering) → key_cmp (key_of table line) key ≡ r
          → length (filter (λ l. is_lt (key_cmp (key_of table l) key)) all) + length (equal all) + length (filter (λ l. is_gt (key_cmp (key_of table l) key)) all) ≡ length all
          → length (filter (λ l. is_lt (key_cmp (key_of table l) key)) (line ∷ all)) + length (equal (line ∷ all)) + length (filter (λ l. is_gt (key_cmp (key_of table l) key)) (line ∷ all)) ≡ suc (length all)
      by Less is rest = rw is (omega (arith, rest))
      by Equal is rest = rw is (omega (arith, rest))
      by Greater is rest = rw is (omega (arith, rest))

  alone : (all : List (List ℕ)) → AllPairs (KeysRise table) all → length (equal all) ≡ (if is_some (line_at table key all) then 1 else 0)
  alone [] rising = refl
  alone (line ∷ all) rising = by (has_key table key line) refl (alone all (λ i j d less within. rising (suc i) (suc j) d (omega (arith, less)) (omega (arith, within))))
    where
      behind : has_key table key line ≡ true → (y : List ℕ) → Contains all y → has_key table key y ≡ false
      behind is y has = by_test (has_key table key y) refl
        where
          rises : KeysRise table line y
          rises = subst (KeysRise table line) has.2 (rising 0 (suc has.0) y (omega arith) (let below = has.1 in omega (arith, below)))

          never : Less ≡ Equal → ⊥
          never e = cc

          by_test : (b : Bool) → has_key table key y ≡ b → has_key table key y ≡ false
          by_test true also =
              absurd (never (sym rises ∙ ap (λ k. key_cmp k (key_of table y)) (same_key (key_of table line) key is ∙ sym (same_key (key_of table y) key also)) ∙ key_ties (key_of table y)))
          by_test false lacks = lacks

      by : (b : Bool) → has_key table key line ≡ b → length (equal all) ≡ (if is_some (line_at table key all) then 1 else 0) → length (equal (line ∷ all)) ≡ (if is_some (line_at table key (line ∷ all)) then 1 else 0)
      by true is rest = rw is (ap (λ ls. suc (length ls)) (filter_none (has_key table key) all (behind is)))
      by false is rest = rw is rest

  -- one more by each line that is put, one less where a line had the key
  pub count_replaced : AllPairs (KeysRise table) lines → length (replaced table key put lines) + (if is_some (line_at table key lines) then 1 else 0) ≡ length lines + length put
  count_replaced rising =
      omega (arith, parts lines, alone lines rising, length-append (lesser ++ put) greater, length-append lesser put)

-- ---- a gazetteer with other lines in a table

other_lines : (gaz : Gazetteer) (table other : Table) (lines : List (List ℕ)) → other ≢ table → lines_in (with_lines gaz table lines) other ≡ lines_in gaz other
other_lines gaz table other lines differs = elim (one_or_other gaz table lines other) [
  | inl same ↦ absurd (differs same)
  | inr apart ↦ apart
]

module _ (gaz : Gazetteer) (kind : Kind) (line key : List ℕ) (keyed : key_in kind line ≡ Some key) where
  abbrev pub table : Table
  table = table_of kind

  abbrev pub old : Option (List ℕ)
  old = line_with table key gaz

  abbrev pub new : Option (List ℕ)
  new = line_put kind line

  -- what is put is the new line
  put_is : (l : List ℕ) → Contains (put_by kind line) l → new ≡ Some l
  put_is l = by (is_delete kind)
    where
      by : (b : Bool) → Contains (if b then [] else line ∷ []) l → (if b then None else Some line) ≡ Some l
      by true has = absurd (contained_none l has)
      by false has = elim (contained line [] l has) [
        | inl same ↦ ap Some same
        | inr none ↦ absurd (contained_none l none)
      ]

  new_is : (l : List ℕ) → new ≡ Some l → Contains (put_by kind line) l
  new_is l = by (is_delete kind)
    where
      by : (b : Bool) → (if b then None else Some line) ≡ Some l → Contains (if b then [] else line ∷ []) l
      by true is = absurd (cc)
      by false is = subst (Contains (line ∷ [])) (some_inj line l is) (head_is_in line [])

  -- it has the key
  new_key : (l : List ℕ) → new ≡ Some l → key_of table l ≡ key
  new_key l = by (is_delete kind) refl
    where
      by : (b : Bool) → is_delete kind ≡ b → (if b then None else Some line) ≡ Some l → key_of table l ≡ key
      by true deletes is = absurd (cc)
      by false puts is = ap (key_of table) (sym (some_inj line l is)) ∙ key_of_put kind line key puts keyed

  abbrev edit : Gazetteer
  edit = with_lines gaz table (replaced table key (put_by kind line) (lines_in gaz table))

  step_is : step gaz kind line ≡ edit
  step_is = ap (step_at gaz kind line) keyed

  module _ (is : IsGazetteer gaz) where
    are : AreReplaced gaz edit table old new
    are = record {
      was = λ l found. (find_has (has_key table key) (lines_in gaz table) l found).0;
      came = λ l here. subst (λ ls. Contains ls l) (sym (own_lines gaz table lines)) (put_in table key (put_by kind line) (lines_in gaz table) l (new_is l here));
      before = before;
      after = after;
      fresh = fresh;
    }
      where
        lines : List (List ℕ)
        lines = replaced table key (put_by kind line) (lines_in gaz table)

        fresh : (l : List ℕ) → new ≡ Some l → Contains (lines_in gaz table) l → old ≡ Some l
        fresh l here has = ap (λ k. line_at table k (lines_in gaz table)) (sym (new_key l here)) ∙ found_itself table (lines_in gaz table) l (is.tables table).rising has

        before : (other : Table) (l : List ℕ) → Contains (lines_in edit other) l → IsOne table new other l ⊎ (Contains (lines_in gaz other) l × (IsOne table old other l → ⊥))
        before other l has = elim (one_table other table) [
          | inl same ↦
              let here : Contains lines l = subst (λ ls. Contains ls l) (own_lines gaz table lines) (subst (λ t. Contains (lines_in edit t) l) same has) in
              elim (was_in table key (put_by kind line) (lines_in gaz table) l here) [
                | inl put ↦ inl (same, put_is l put)
                | inr kept ↦ inr (subst (λ t. Contains (lines_in gaz t) l) (sym same) kept.0, λ one. kept.1 (same_key (key_of table l) key (find_has (has_key table key) (lines_in gaz table) l one.1).1))
              ]
          | inr differs ↦ inr (subst (λ ls. Contains ls l) (other_lines gaz table other lines differs) has, λ one. differs one.0)
        ]

        after : (other : Table) (l : List ℕ) → Contains (lines_in gaz other) l → IsOne table old other l ⊎ Contains (lines_in edit other) l
        after other l has = elim (one_table other table) [
          | inl same ↦ in_table same (subst (λ t. Contains (lines_in gaz t) l) same has)
          | inr differs ↦ inr (subst (λ ls. Contains ls l) (sym (other_lines gaz table other lines differs)) has)
        ]
          where
            in_table : other ≡ table → Contains (lines_in gaz table) l → IsOne table old other l ⊎ Contains (lines_in edit other) l
            in_table same here = by (has_key table key l) refl
              where
                by : (b : Bool) → has_key table key l ≡ b → IsOne table old other l ⊎ Contains (lines_in edit other) l
                by true at = inl (same, ap (λ k. line_at table k (lines_in gaz table)) (sym (same_key (key_of table l) key at)) ∙ found_itself table (lines_in gaz table) l (is.tables table).rising here)
                by false lacks =
                    let differs : key_of table l ≢ key = λ e. false_is_true (sym lacks ∙ ap (λ k. is_eq (key_cmp k key)) e ∙ ap is_eq (key_ties key)) in
                    inr (subst (λ t. Contains (lines_in edit t) l) (sym same) (subst (λ ls. Contains ls l) (sym (own_lines gaz table lines)) (other_in table key (put_by kind line) (lines_in gaz table) l here differs)))

    -- A step replaces the line that has its key, if there is one, by its own, if it puts one.
    pub step_replaces : AreReplaced gaz (step gaz kind line) table old new
    step_replaces = subst (λ next. AreReplaced gaz next table old new) (sym step_is) are

    put_count : length (put_by kind line) ≡ (if is_some new then 1 else 0)
    put_count = by (is_delete kind)
      where
        by : (b : Bool) → length {A = List ℕ} (if b then [] else line ∷ []) ≡ (if is_some {T = List ℕ} (if b then None else Some line) then 1 else 0)
        by true = refl
        by false = refl

    -- Its table has one line more for the new one, and one less for the old one.
    pub step_counts : length (lines_in (step gaz kind line) table) + (if is_some old then 1 else 0) ≡ length (lines_in gaz table) + (if is_some new then 1 else 0)
    step_counts =
        let count = count_replaced table key (put_by kind line) (lines_in gaz table) (is.tables table).rising in
        ap (λ g. length (lines_in g table) + (if is_some old then 1 else 0)) step_is
        ∙ ap (λ ls. length ls + (if is_some old then 1 else 0)) (own_lines gaz table (replaced table key (put_by kind line) (lines_in gaz table)))
        ∙ count ∙ ap (λ n. length (lines_in gaz table) + n) put_count

  -- The other tables are what they were.
  pub step_leaves : (other : Table) → other ≢ table → lines_in (step gaz kind line) other ≡ lines_in gaz other
  step_leaves other differs = ap (λ g. lines_in g other) step_is ∙ other_lines gaz table other (replaced table key (put_by kind line) (lines_in gaz table)) differs

-- ---- a line that is taken

-- What is said of a line by its being taken.
pub record IsTaken (gaz : Gazetteer) (kind : Kind) (line : List ℕ) (next : Gazetteer) : Type 0 where
  pub accepted : reason_against kind line ≡ None
  pub is : next ≡ step gaz kind line
  pub within : length (lines_in next (table_of kind)) ≤ limit_of (table_of kind)

pub is_taken : (gaz : Gazetteer) (kind : Kind) (line : List ℕ) (next : Gazetteer) → after_line gaz kind line ≡ Ok next → IsTaken gaz kind line next
unfolding after_line
is_taken gaz kind line next taken = by (reason_against kind line) refl taken
  where
    ok_inj : {A E : Type 0} (x y : A) (r : Result A E) → r ≡ Ok x → r ≡ Ok y → y ≡ x
    ok_inj x y r one other = cc

    within : (b : Bool) → nat_lt (limit_of (table_of kind)) (length (lines_in (step gaz kind line) (table_of kind))) ≡ b
        → (if b then Err (full (table_of kind)) else Ok (step gaz kind line)) ≡ Ok next → reason_against kind line ≡ None → IsTaken gaz kind line next
    within true past ok accepted = absurd (cc)
    within false fits ok accepted =
        let same : next ≡ step gaz kind line = cc in
        record { accepted = accepted; is = same; within = subst (λ g. length (lines_in g (table_of kind)) ≤ limit_of (table_of kind)) (sym same) (grind (arith, nat_tests, fits)) }

    by : (found : Option Reason) → reason_against kind line ≡ found → after_check gaz kind line found ≡ Ok next → IsTaken gaz kind line next
    by (Some reason) is ok = absurd (cc)
    by None is ok = within (nat_lt (limit_of (table_of kind)) (length (lines_in (step gaz kind line) (table_of kind)))) refl ok is

-- What a line that is taken makes of a gazetteer with a date is a gazetteer with that date.
pub stays_gazetteer : (gaz next : Gazetteer) (kind : Kind) (line : List ℕ) → IsGazetteer gaz → IsSome gaz.date → IsTrue (is_one_line line) → after_line gaz kind line ≡ Ok next → IsGazetteerOf gaz.date next
stays_gazetteer gaz next kind line is some one taken =
    let all = line_keeps gaz.date some gaz kind line one (record { is_gazetteer = is; has_date = refl }) in
    subst (λ r. IfOk r (IsGazetteerOf gaz.date)) taken all
