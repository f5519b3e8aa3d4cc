-- Candidates that are gathered from the pairs of a scan.
use Rattle.std.proofs.Common.{◌≡◌, ◌≤◌, ◌+◌, ◌*◌, ℕ, Bool, true, false, true≢false, List, [], ◌∷◌, ◌++◌, length, take, map, filter, refl, sym, ◌∙◌, ap, ap₂, subst, arith, inl, inr, Option, Some, None, append_assoc, append-nil, length-append}
use Rattle.std.specs.Prelude.{Contains, ◌||◌, unwrap_or, if◌then◌else◌}
use Rattle.std.specs.List.{flat_map}
use Rattle.std.proofs.lemmas.List.Concat.{flat_map-append}
use Rattle.std.proofs.lemmas.List.Elements.{Contains-append_right, Contains-append_cases, filter-append}
use Rattle.std.proofs.lemmas.List.Folds.{list_any-append}
use Rattle.gaz_num.specs.declared.words.Table.TheVariants.{Alternates}
use Rattle.gaz_pick.specs.Asked.{Asked}
use Rattle.gaz_pick.specs.Order.{Pair as Picked}
use Rattle.gaz_pick.proofs.OrderLemmas.{by_test}
use Rattle.gaz_plain.specs.Gazetteer.{Gazetteer, IsGazetteer, line_with}
use Rattle.gaz_leaf.specs.Node.{Pair}
use Rattle.gaz_scan.specs.declared.scan.Scan.{Scan}
use Rattle.gaz_scan.specs.Scan.{Comes}
use Rattle.gaz_keys.proofs.Tags.{contained, contained_none}
use Rattle.gaz_rows.proofs.Counting.{flat_contains, flat_most, map_contains}
use Rattle.gaz_rows.proofs.Members.{head_is_in, tail_is_in}
use Rattle.gaz_plan.specs.declared.gather.Candidate.{Candidate}
use Rattle.gaz_plan.specs.Wanted.{wanted_of}
use Rattle.gaz_plan.specs.Seen.{SeesMore}
use Rattle.gaz_plan.specs.Searched.{AreOf, place_named}
use Rattle.gaz_plan.specs.Ways.{number_at}
use Rattle.gaz_plan.specs.Gathered.{AreLedTo, GathersNext, HasGathered, HavePlaces, IsLedTo, JoinsIf, alternates_among, by_alternate, candidate_by, candidates_of, is_alternate, is_gathered, is_sought, listed}
use Rattle.gaz_plan.proofs.Bools.{has_any}
use Rattle.gaz_plan.proofs.Offering.{sees, sees_both}
use Rattle.gaz_plan.proofs.Tested.{led_to}

-- ---- what a key leads to

pub none_some : {X : Type 0} (x : X) → None ≡ Some x → ⊥
none_some x is = cc

pub some_is : {X : Type 0} (a b : X) → Some a ≡ Some b → a ≡ b
some_is a b same = ap (λ o. unwrap_or o a) same

flat_from : {X Y : Type 0} (f : X → List Y) (xs : List X) (y : Y) → Contains (flat_map f xs) y → (x : X) × Contains xs x × Contains (f x) y
flat_from f [] y has = absurd (contained_none y has)
flat_from f (x ∷ xs) y has = elim (Contains-append_cases (f x) (flat_map f xs) y has) [
  | inl here ↦ (x, head_is_in x xs, here)
  | inr later ↦ let rest = flat_from f xs y later in (rest.0, tail_is_in x xs rest.0 rest.1, rest.2)
]

module _ (gaz : Gazetteer) (asked : Asked) where
  pub led_by : (key : ℕ) (c : Candidate) → candidate_by gaz asked key ≡ Some c → IsLedTo gaz asked c
  led_by key c some other =
      by_test (is_alternate key)
      (λ of. by (place_named (wanted_of asked.name) asked.lang (line_with Alternates (number_at 28 key ∷ []) gaz)) refl (rw of at some) other)
      (λ own.
      let same = some_is (record { place = number_at 24 key; by_own = true }) c (rw own at some) in
      absurd (true≢false (ap (λ (e : Candidate). e.by_own) same ∙ other)))
    where
      by : (found : Option ℕ) → place_named (wanted_of asked.name) asked.lang (line_with Alternates (number_at 28 key ∷ []) gaz) ≡ found → by_alternate found ≡ Some c → IsLedTo gaz asked c
      by None at some = absurd (none_some c some)
      by (Some place) at some =
          let same = some_is (record { place = place; by_own = false }) c some in
          subst (λ (e : Candidate). IsLedTo gaz asked e) same (λ is_other. led_to gaz asked (number_at 28 key) place (sym at))

  -- a key of a row's own name
  pub candidate_own : (key : ℕ) → is_alternate key ≡ false → candidate_by gaz asked key ≡ Some (record { place = number_at 24 key; by_own = true })
  candidate_own key own = rw own refl

  -- a key of an alternate name
  pub candidate_other : (key : ℕ) → is_alternate key ≡ true → candidate_by gaz asked key ≡ by_alternate (place_named (wanted_of asked.name) asked.lang (line_with Alternates (number_at 28 key ∷ []) gaz))
  candidate_other key of = rw of refl

  -- a row that is sought by what one of the keys leads to
  pub gathered_from : (pairs : List Pair) (p : Pair) (c : Candidate) (row : List ℕ) → Contains pairs p → candidate_by gaz asked p.key ≡ Some c → is_sought asked c row ≡ true → is_gathered asked (candidates_of gaz asked pairs) row ≡ true
  gathered_from pairs p c row has leads sought =
      has_any (λ e. is_sought asked e row) (candidates_of gaz asked pairs) c
      (flat_contains (λ (q : Pair). listed (candidate_by gaz asked q.key)) pairs p c has (subst (λ led. Contains (listed led) c) (sym leads) (head_is_in c [])))
      sought

  -- the key that led to a candidate
  pub led_from : (pairs : List Pair) (c : Candidate) → Contains (candidates_of gaz asked pairs) c → (p : Pair) × Contains pairs p × (candidate_by gaz asked p.key ≡ Some c)
  led_from pairs c has =
      let from = flat_from (λ (q : Pair). listed (candidate_by gaz asked q.key)) pairs c has in
      (from.0, from.1, by (candidate_by gaz asked from.0.key) from.2)
    where
      by : (led : Option Candidate) → Contains (listed led) c → led ≡ Some c
      by None in_none = absurd (contained_none c in_none)
      by (Some e) in_one = elim (contained e [] c in_one) [
        | inl same ↦ ap (λ (x : Candidate). Some x) same
        | inr none ↦ absurd (contained_none c none)
      ]

-- at most so many pages are read for a key
pub line_most : (of : Bool) (height : ℕ) → height ≤ 6 → (if of then height + 17 else 0) ≤ 23
line_most true height low = omega (arith, low)
line_most false height low = omega arith

-- at most one for each key
pub candidates_few : (gaz : Gazetteer) (asked : Asked) (pairs : List Pair) → length (candidates_of gaz asked pairs) ≤ length pairs
candidates_few gaz asked pairs =
    let most = flat_most 1 (λ (p : Pair). listed (candidate_by gaz asked p.key)) pairs (λ p. by (candidate_by gaz asked p.key)) in
    omega (arith, most)
  where
    by : (found : Option Candidate) → length (listed found) ≤ 1
    by None = omega arith
    by (Some c) = omega arith

-- those of alternate names among the first pairs and the rest
pub alternates_both : (xs ys : List Pair) → alternates_among (xs ++ ys) ≡ alternates_among xs + alternates_among ys
alternates_both xs ys =
    ap length (filter-append (λ (p : Pair). is_alternate p.key) xs ys) ∙ length-append (filter (λ (p : Pair). is_alternate p.key) xs) (filter (λ (p : Pair). is_alternate p.key) ys)

alternates_first : (pairs : List Pair) → alternates_among (take 1 pairs) ≤ alternates_among pairs
alternates_first [] = omega arith
alternates_first (p ∷ rest) =
    let both = alternates_both (p ∷ []) rest in
    omega (arith, both)

-- at most so many pages are read for the first key
pub first_most : (left : List Pair) (p : Pair) (rest : List Pair) → left ≡ p ∷ rest → (height : ℕ) → height ≤ 6 → (if is_alternate p.key then height + 17 else 0) ≤ 23 * alternates_among (take 1 left)
first_most left p rest is height low =
    let same : alternates_among (take 1 left) ≡ alternates_among (p ∷ []) = ap (λ pairs. alternates_among (take 1 pairs)) is in
    by_test (is_alternate p.key)
    (λ of. let one : alternates_among (p ∷ []) ≡ 1 = rw of refl in rw of (omega (arith, same, one, low)))
    (λ own. rw own (omega arith))

first_few : (pairs : List Pair) → length (take 1 pairs) ≤ length pairs
first_few [] = omega arith
first_few (p ∷ rest) = omega arith

-- their own places
pub own_places : (candidates : List Candidate) → HavePlaces (map (λ (c : Candidate). c.place) candidates) candidates
own_places candidates c has = map_contains (λ (e : Candidate). e.place) candidates c has

-- ---- a walk over pairs

module _ (gaz : Gazetteer) (is : IsGazetteer gaz) (asked : Asked) (keep : ℕ) where
  -- So many pairs came. Once the rows of what was gathered and of what the others lead to are seen, those of all are. While no more came than
  -- are gathered together, all that they led to is still there, and no row was read.
  pub record IsGathering (turns : ℕ) (pages : ℕ → List ℕ) (scan : Scan) (left : List Pair) (gathered : List Candidate) (start now : List Picked) (before after : ℕ) : Type 0 where
    pub given : List Pair
    pub rest : List Pair
    pub split : left ≡ given ++ rest
    pub count : length given ≡ turns
    pub comes : Comes pages scan rest
    pub led : AreLedTo gaz asked gathered
    pub goes_on : (new : List Picked) → SeesMore gaz asked keep (is_gathered asked (gathered ++ candidates_of gaz asked rest)) now new → SeesMore gaz asked keep (is_gathered asked (candidates_of gaz asked left)) start new
    pub whole : turns ≤ 512 → gathered ≡ candidates_of gaz asked given
    pub once : turns ≤ 512 → after ≤ before + 12 * turns + 23 * alternates_among given
    pub read : after + 23 * length gathered ≤ before + 58 * turns

  pub gathering_first : (pages : ℕ → List ℕ) (scan : Scan) (left : List Pair) (start : List Picked) (before : ℕ) → Comes pages scan left → IsGathering 0 pages scan left [] start start before before
  gathering_first pages scan left start before comes = record {
    given = [];
    rest = left;
    split = refl;
    count = refl;
    comes = comes;
    led = λ c has. absurd (contained_none c has);
    goes_on = λ new more. more;
    whole = λ few. refl;
    once = λ few. omega arith;
    read = omega arith;
  }

  module _ (turns : ℕ) (old : ℕ → List ℕ) (scan : Scan) (left : List Pair) (gathered : List Candidate) (start now : List Picked) (before after : ℕ) (g : IsGathering turns old scan left gathered start now before after) where
    parts : length left ≡ turns + length g.rest
    parts =
        let split = ap length g.split in
        let count = g.count in
        omega (arith, split, count, length-append g.given g.rest)

    pub turns_few : turns ≤ length left
    turns_few = let all = parts in omega (arith, all)

    -- those to come are of the same kind
    pub rest_of : (tag : ℕ) (all : List Pair) → AreOf tag all left → AreOf tag all g.rest
    rest_of tag all are =
        let some = parts in
        let few = are.few in
        let in_left = λ (q : Pair) (has : Contains g.rest q). subst (λ pairs. Contains pairs q) (sym g.split) (Contains-append_right g.given g.rest q has) in
        record { found = λ q has. are.found q (in_left q has); tagged = λ q has. are.tagged q (in_left q has); few = omega (arith, some, few) }

    -- while few came, there is room
    room_for : turns ≤ 512 → length gathered ≤ turns
    room_for few =
        let same = ap length (g.whole few) in
        let most = candidates_few gaz asked g.given in
        let count = g.count in
        omega (arith, same, most, count)

    pub room_left : length left ≤ 512 → length gathered + length (take 1 g.rest) ≤ 512
    room_left few =
        let all = parts in
        let room = room_for (omega (arith, all, few)) in
        omega (arith, all, few, room, first_few g.rest)

    -- so few pages were read, where few pairs are left
    pub once_now : length left ≤ 512 → (later : ℕ) → (length gathered + length (take 1 g.rest) ≤ 512 → later ≤ after + 12 + 23 * alternates_among (take 1 g.rest)) → later ≤ before + 12 * (length left + 1) + 23 * alternates_among left
    once_now few later read =
        let all = parts in
        let spent = g.once (omega (arith, all, few)) in
        let more = read (room_left few) in
        let both = alternates_both g.given g.rest in
        let same = ap alternates_among g.split in
        omega (arith, all, spent, more, both, same, alternates_first g.rest)

    module _ (new : ℕ → List ℕ) (scan_now : Scan) (gathered_now : List Candidate) (picked : List Picked) (later : ℕ) where
      -- what the next one leads to was gathered
      module _ (h : HasGathered gaz asked keep new scan_now g.rest gathered gathered_now now picked)
          (unread : length gathered + length (take 1 g.rest) ≤ 512 → later ≤ after + 12 + 23 * alternates_among (take 1 g.rest)) (reads : later + 23 * length gathered_now ≤ after + 23 * length gathered + 58) where
        abbrev pair : Pair
        pair = h.next.pair

        abbrev rest_now : List Pair
        rest_now = h.next.rest

        abbrev given_now : List Pair
        given_now = g.given ++ pair ∷ []

        ahead : candidates_of gaz asked g.rest ≡ listed (candidate_by gaz asked pair.key) ++ candidates_of gaz asked rest_now
        ahead = ap (candidates_of gaz asked) h.next.first

        -- the goal of each way to gather it
        abbrev Goes : List Candidate → List Picked → Type 0
        Goes candidates held = (final : List Picked) → SeesMore gaz asked keep (is_gathered asked (candidates ++ candidates_of gaz asked rest_now)) held final → SeesMore gaz asked keep (is_gathered asked (candidates_of gaz asked left)) start final

        behind_all : (added : List Candidate) → listed (candidate_by gaz asked pair.key) ≡ added → Goes (gathered ++ added) now
        behind_all added is_added final more =
            g.goes_on final
            (subst (λ cs. SeesMore gaz asked keep (is_gathered asked cs) now final)
            (append_assoc gathered added (candidates_of gaz asked rest_now) ∙ ap (λ cs. gathered ++ cs) (ap (λ cs. cs ++ candidates_of gaz asked rest_now) (sym is_added) ∙ sym ahead)) more)

        alone : (added : List Candidate) → listed (candidate_by gaz asked pair.key) ≡ added → (held : List Picked) → SeesMore gaz asked keep (is_gathered asked gathered) now held → Goes added held
        alone added is_added held seen final more =
            g.goes_on final
            (sees gaz is asked keep (λ row. is_gathered asked gathered row || is_gathered asked (added ++ candidates_of gaz asked rest_now) row) (is_gathered asked (gathered ++ candidates_of gaz asked g.rest)) now final
            (sees_both gaz is asked keep (is_gathered asked gathered) (is_gathered asked (added ++ candidates_of gaz asked rest_now)) now held final seen more)
            (λ row there matches some.
            sym (list_any-append (λ e. is_sought asked e row) gathered (added ++ candidates_of gaz asked rest_now))
            ∙ ap (λ cs. is_gathered asked (gathered ++ cs) row) (ap (λ cs. cs ++ candidates_of gaz asked rest_now) (sym is_added) ∙ sym ahead)
            ∙ some))

        joined : (led : Option Candidate) → candidate_by gaz asked pair.key ≡ led → JoinsIf gaz asked keep led gathered gathered_now now picked → AreLedTo gaz asked gathered_now × Goes gathered_now picked
        joined None is_led same = (
          subst (AreLedTo gaz asked) (sym same.0) g.led,
          λ final more.
              behind_all [] (ap listed is_led) final
              (subst (λ cs. SeesMore gaz asked keep (is_gathered asked (cs ++ candidates_of gaz asked rest_now)) now final) (same.0 ∙ sym (append-nil gathered))
              (subst (λ held. SeesMore gaz asked keep (is_gathered asked (gathered_now ++ candidates_of gaz asked rest_now)) held final) same.1 more)),
        )
        joined (Some c) is_led (inl behind) = (
          λ e has. elim (Contains-append_cases gathered (c ∷ []) e (subst (λ cs. Contains cs e) behind.0 has)) [
            | inl earlier ↦ g.led e earlier
            | inr last ↦ one_led e last
          ],
          λ final more.
              behind_all (c ∷ []) (ap listed is_led) final
              (subst (λ cs. SeesMore gaz asked keep (is_gathered asked (cs ++ candidates_of gaz asked rest_now)) now final) behind.0
              (subst (λ held. SeesMore gaz asked keep (is_gathered asked (gathered_now ++ candidates_of gaz asked rest_now)) held final) behind.1 more)),
        )
          where
            one_led : (e : Candidate) → Contains (c ∷ []) e → IsLedTo gaz asked e
            one_led e has = elim (contained c [] e has) [
              | inl same ↦ subst (λ (x : Candidate). IsLedTo gaz asked x) same (led_by gaz asked pair.key c is_led)
              | inr none ↦ absurd (contained_none e none)
            ]
        joined (Some c) is_led (inr new_one) = (
          λ e has. elim (contained c [] e (subst (λ cs. Contains cs e) new_one.0 has)) [
            | inl same ↦ subst (λ (x : Candidate). IsLedTo gaz asked x) same (led_by gaz asked pair.key c is_led)
            | inr none ↦ absurd (contained_none e none)
          ],
          λ final more.
              alone (c ∷ []) (ap listed is_led) picked new_one.1 final
              (subst (λ cs. SeesMore gaz asked keep (is_gathered asked (cs ++ candidates_of gaz asked rest_now)) picked final) new_one.0 more),
        )

        pub gathering_on : IsGathering (turns + 1) new scan_now left gathered_now start picked before later
        gathering_on =
            let all = parts in
            let count = g.count in
            let one = ap length h.next.first in
            let took : take 1 g.rest ≡ pair ∷ [] = ap (take 1) h.next.first in
            let through = joined (candidate_by gaz asked pair.key) refl h.joins in
            record {
              given = given_now;
              rest = rest_now;
              split = g.split ∙ ap (λ pairs. g.given ++ pairs) h.next.first ∙ sym (append_assoc g.given (pair ∷ []) rest_now);
              count = omega (arith, count, length-append g.given (pair ∷ []));
              comes = h.next.comes;
              led = through.0;
              goes_on = through.1;
              whole = λ few.
                  let room = room_for (omega (arith, few)) in
                  h.room (omega (arith, few, room))
                  ∙ ap₂ (λ xs ys. xs ++ ys) (g.whole (omega (arith, few))) (sym (append-nil (listed (candidate_by gaz asked pair.key))))
                  ∙ sym (flat_map-append (λ (p : Pair). listed (candidate_by gaz asked p.key)) g.given (pair ∷ []));
              once = λ few.
                  let room = room_for (omega (arith, few)) in
                  let spent = g.once (omega (arith, few)) in
                  let took_one : length (take 1 g.rest) ≡ 1 = ap length took in
                  let more = unread (omega (arith, few, room, took_one)) in
                  let same : alternates_among (take 1 g.rest) ≡ alternates_among (pair ∷ []) = ap alternates_among took in
                  let both = alternates_both g.given (pair ∷ []) in
                  omega (arith, spent, more, same, both);
              read = let spent = g.read in omega (arith, spent, reads);
            }

      -- none was left
      pub gathering_none : GathersNext gaz asked keep new scan_now g.rest gathered gathered_now now picked false
          → AreLedTo gaz asked gathered_now × ((final : List Picked) → SeesMore gaz asked keep (is_gathered asked gathered_now) picked final → SeesMore gaz asked keep (is_gathered asked (candidates_of gaz asked left)) start final)
      gathering_none none = (
        subst (AreLedTo gaz asked) (sym none.1) g.led,
        λ final more.
            g.goes_on final
            (subst (λ cs. SeesMore gaz asked keep (is_gathered asked cs) now final) (none.1 ∙ sym (append-nil gathered) ∙ ap (λ pairs. gathered ++ candidates_of gaz asked pairs) (sym none.0))
            (subst (λ held. SeesMore gaz asked keep (is_gathered asked gathered_now) held final) none.2 more)),
      )

      -- then all is still there, where few came
      pub gathered_all : GathersNext gaz asked keep new scan_now g.rest gathered gathered_now now picked false → length left ≤ 512 → gathered_now ≡ candidates_of gaz asked left
      gathered_all none few =
          let all = parts in
          none.1 ∙ g.whole (omega (arith, all, few)) ∙ ap (candidates_of gaz asked) (sym (append-nil g.given) ∙ ap (λ pairs. g.given ++ pairs) (sym none.0) ∙ sym g.split)
