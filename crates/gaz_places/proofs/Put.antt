-- A place that is put at the front of its bucket leaves all linked.
use Rattle.std.proofs.Common.{true, false, ◌≡◌, ◌≢◌, ⊎_elim, ℕ, ◌+◌, ◌<◌, ◌≤◌, List, length, get_or, set, refl, sym, ◌∙◌, ap, subst, arith, cond, ◌==◌, Some, None}
use Rattle.std.specs.List.{position}
use Rattle.std.proofs.Math.ListN.{length-set}
use Rattle.std.proofs.Math.Logic.{∥∥₁_elim, ∥∥₁_map}
use Rattle.std.proofs.Props.{props}
use Rattle.std.proofs.lemmas.Grind.{get_or_default_zero}
use Rattle.std.proofs.lemmas.Bool.{cases_eq}
use Rattle.std.proofs.lemmas.Bool.Decides.{nat_tests}
use Rattle.std.proofs.lemmas.List.{get_or-set_same, get_or-set_other}
use Rattle.gaz_places.specs.declared.places.Link.{Link}
use Rattle.gaz_places.specs.Chains.{has, free_link, link_at, bucket_of, bucket_at, IsHeld, StandsIn, IsLatest, Linked}
use Rattle.gaz_places.proofs.Found.{by_test, has_key, held_found, none_found, same_position}
use Rattle.gaz_places.proofs.Stands.{stands_again}

module _ (heads : List ℕ) (links : List Link) (sizes : length heads ≡ length links) (few : length links ≤ 65536) (key place : ℕ) (within : place < length links)
    (free : IsHeld links place → ⊥) (none : (other : ℕ) → IsHeld links other → (link_at links other).key ≢ key) where
  abbrev home : ℕ
  home = bucket_of (length links) key

  abbrev put_link : Link
  put_link = record { key = key; next = get_or heads home 0; held = true }

  abbrev after : List Link
  after = set links place put_link

  lengths : length links ≡ length after
  lengths = sym (length-set links place put_link)

  at_place : link_at after place ≡ put_link
  at_place = get_or-set_same links place put_link free_link within

  elsewhere : (q : ℕ) → q ≢ place → link_at after q ≡ link_at links q
  elsewhere q other = get_or-set_other links place q put_link free_link other

  stays : (bucket q : ℕ) → q ≢ place → StandsIn links bucket q → StandsIn after bucket q
  stays bucket q other = stands_again links after lengths bucket q (ap (λ (l : Link). l.held) (sym (elsewhere q other))) (ap (λ (l : Link). l.key) (sym (elsewhere q other)))

  stood : (bucket q : ℕ) → q ≢ place → StandsIn after bucket q → StandsIn links bucket q
  stood bucket q other = stands_again after links (sym lengths) bucket q (ap (λ (l : Link). l.held) (elsewhere q other)) (ap (λ (l : Link). l.key) (elsewhere q other))

  was_held : (q : ℕ) → q ≢ place → IsHeld after q → IsHeld links q
  was_held q other held = ap (λ (l : Link). l.held) (sym (elsewhere q other)) ∙ held

  key_at : (q : ℕ) → q ≢ place → (link_at after q).key ≡ (link_at links q).key
  key_at q other = ap (λ (l : Link). l.key) (elsewhere q other)

  place_key : (link_at after place).key ≡ key
  place_key = ap (λ (l : Link). l.key) at_place

  place_bucket : bucket_at after place ≡ home
  place_bucket = ap (λ (k : ℕ). bucket_of (length after) k) place_key ∙ ap (λ (n : ℕ). bucket_of n key) (sym lengths)

  place_stands : StandsIn after home place
  place_stands = record { held = ap (λ (l : Link). l.held) at_place; there = place_bucket }

  module _ (old : Linked heads links) where
    abbrev times_after : ℕ → ℕ
    times_after q = cond (q == place) old.now (old.times q)

    time_of_place : times_after place ≡ old.now
    time_of_place = let test : (place == place) ≡ true = grind (arith, nat_tests) in rw test refl

    time_of : (q : ℕ) → q ≢ place → times_after q ≡ old.times q
    time_of q other = let test : (q == place) ≡ false = grind (arith, nat_tests) in rw test refl

    -- what was the latest before a time that has passed is so still
    still : (bucket time at : ℕ) → time ≤ old.now → IsLatest links old.times bucket time at → IsLatest after times_after bucket time at
    still bucket time at past was = record {
      there = λ is.
          let here = was.there is in
          let other : at ≢ place = λ same. free (subst (IsHeld links) same here.0.held) in
          (stays bucket at other here.0, omega (arith, here.1, time_of at other));
      latest = λ q stands lt.
          let other : q ≢ place = λ same. omega (arith, subst (λ (r : ℕ). times_after r < time) same lt, time_of_place, past) in
          let here = was.latest q (stood bucket q other stands) (omega (arith, lt, time_of q other)) in
          let apart : at ≢ place = λ same. free (subst (IsHeld links) same here.0.held) in
          (stays bucket at apart here.0, omega (arith, here.1, time_of q other, time_of at apart));
    }

    -- in another bucket the latest is so one moment longer
    longer : (bucket at : ℕ) → bucket ≢ home → IsLatest after times_after bucket old.now at → IsLatest after times_after bucket (old.now + 1) at
    longer bucket at differs was = record {
      there = λ is. let here = was.there is in (here.0, omega (arith, here.1));
      latest = λ q stands lt.
          let other : q ≢ place = λ same. differs (sym stands.there ∙ ap (bucket_at after) same ∙ place_bucket) in
          let early = old.earlier q (was_held q other stands.held) in
          was.latest q stands (omega (arith, early, time_of q other));
    }

    newest : IsLatest after times_after home (old.now + 1) place
    newest = record {
      there = λ is. (place_stands, omega (arith, time_of_place));
      latest = λ q stands lt. (place_stands, omega (arith, lt, time_of_place));
    }

    earlier : (q : ℕ) → IsHeld after q → times_after q < old.now + 1
    earlier q held = ⊎_elim
        (λ same. omega (arith, ap times_after same, time_of_place))
        (λ other. let early = old.earlier q (was_held q other held) in omega (arith, early, time_of q other))
        (cases_eq q place)

    apart : (a b : ℕ) → IsHeld after a → IsHeld after b → times_after a ≡ times_after b → a ≡ b
    apart a b one two same = ⊎_elim
        (λ first. ⊎_elim
        (λ second. first ∙ sym second)
        (λ other. let early = old.earlier b (was_held b other two) in absurd (omega (arith, early, ap times_after first, time_of_place, time_of b other, same)))
        (cases_eq b place))
        (λ differs. ⊎_elim
        (λ second. let early = old.earlier a (was_held a differs one) in absurd (omega (arith, early, ap times_after second, time_of_place, time_of a differs, same)))
        (λ other. old.apart a b (was_held a differs one) (was_held b other two) (omega (arith, time_of a differs, time_of b other, same)))
        (cases_eq b place))
        (cases_eq a place)

    alone : (a b : ℕ) → IsHeld after a → IsHeld after b → (link_at after a).key ≡ (link_at after b).key → a ≡ b
    alone a b one two same = ⊎_elim
        (λ first. ⊎_elim
        (λ second. first ∙ sym second)
        (λ other. absurd (none b (was_held b other two) (sym (key_at b other) ∙ sym same ∙ ap (λ (q : ℕ). (link_at after q).key) first ∙ place_key)))
        (cases_eq b place))
        (λ differs. ⊎_elim
        (λ second. absurd (none a (was_held a differs one) (sym (key_at a differs) ∙ same ∙ ap (λ (q : ℕ). (link_at after q).key) second ∙ place_key)))
        (λ other. old.alone a b (was_held a differs one) (was_held b other two) (sym (key_at a differs) ∙ same ∙ key_at b other))
        (cases_eq b place))
        (cases_eq a place)

    first : (bucket : ℕ) → bucket < length after → IsLatest after times_after bucket (old.now + 1) (get_or (set heads home place) bucket 0)
    first bucket lt = ⊎_elim
        (λ same.
        let head : get_or (set heads home place) bucket 0 ≡ place = ap (λ (b : ℕ). get_or (set heads home place) b 0) same ∙ get_or-set_same heads home place 0 (omega (arith, lt, same, lengths, sizes)) in
        rw (head, same) newest)
        (λ other.
        let head : get_or (set heads home place) bucket 0 ≡ get_or heads bucket 0 = get_or-set_other heads home bucket place 0 other in
        rw head (longer bucket (get_or heads bucket 0) other (still bucket old.now (get_or heads bucket 0) (omega arith) (old.first bucket (omega (arith, lt, lengths))))))
        (cases_eq bucket home)

    later : home < length links → (q : ℕ) → IsHeld after q → IsLatest after times_after (bucket_at after q) (times_after q) (link_at after q).next
    later fits q held = ⊎_elim
        (λ same. subst (λ (p : ℕ). IsLatest after times_after (bucket_at after p) (times_after p) (link_at after p).next) (sym same)
        (rw (place_bucket, time_of_place, ap (λ (l : Link). l.next) at_place) (still home old.now (get_or heads home 0) (omega arith) (old.first home fits))))
        (λ other.
        let early = old.earlier q (was_held q other held) in
        let bucket : bucket_at after q ≡ bucket_at links q = ap (λ (k : ℕ). bucket_of (length after) k) (key_at q other) ∙ ap (λ (n : ℕ). bucket_of n (link_at links q).key) (sym lengths) in
        rw (bucket, time_of q other, ap (λ (l : Link). l.next) (elsewhere q other)) (still (bucket_at links q) (old.times q) (link_at links q).next (omega (arith, early)) (old.later q (was_held q other held))))
        (cases_eq q place)

    pub put_linked : home < length links → Linked (set heads home place) after
    put_linked fits = record {
      times = times_after;
      now = old.now + 1;
      earlier = earlier;
      apart = apart;
      alone = alone;
      first = first;
      later = later fits;
    }

    -- the key has the place, and each other key what it had
    pub put_here : position (has key) after ≡ Some place
    put_here = held_found after alone key place place_stands.held place_key

  pub put_others : (other : ℕ) → other ≢ key → position (has other) after ≡ position (has other) links
  put_others other differs = same_position (has other) after links (sym lengths)
      (λ q lt. ⊎_elim
      (λ same.
      let now : has other (link_at after q) ≡ false = by_test (has other (link_at after q)) (λ is. let both = has_key other (link_at after q) is in differs (sym both.1 ∙ ap (λ (p : ℕ). (link_at after p).key) same ∙ place_key)) in
      let before : has other (link_at links q) ≡ false = by_test (has other (link_at links q)) (λ is. let both = has_key other (link_at links q) is in free (subst (IsHeld links) same both.0)) in
      now ∙ sym before)
      (λ apart. ap (has other) (elsewhere q apart))
      (cases_eq q place))

-- The same from what a caller knows.
pub record IsPut (heads : List ℕ) (links : List Link) (key place : ℕ) (firsts : List ℕ) (after : List Link) : Type 0 where
  pub linked : ∥ Linked firsts after ∥₁
  pub here : position (has key) after ≡ Some place
  pub others : (other : ℕ) → other ≢ key → position (has other) after ≡ position (has other) links

module _ (heads : List ℕ) (links : List Link) (sizes : length heads ≡ length links) (few : length links ≤ 65536) (some : ∥ Linked heads links ∥₁) (key place : ℕ) (within : place < length links)
    (new : position (has key) links ≡ None) (unused : (other : ℕ) → position (has other) links ≢ Some place) where
  was_free : IsHeld links place → ⊥
  was_free held = ∥∥₁_elim some (λ x y. absurd x) (λ (old : Linked heads links). unused (link_at links place).key (held_found links old.alone (link_at links place).key place held refl))

  put_first : bucket_of (length links) key < length heads → IsPut heads links key place (set heads (bucket_of (length links) key) place) (set links place (record { key = key; next = get_or heads (bucket_of (length links) key) 0; held = true }))
  put_first fits =
      let none = none_found links key new in
      record {
        linked = ∥∥₁_map some (λ (old : Linked heads links). put_linked heads links sizes few key place within was_free none old (omega (arith, fits, sizes)));
        here = ∥∥₁_elim some (hlevel props) (λ (old : Linked heads links). put_here heads links sizes few key place within was_free none old);
        others = put_others heads links sizes few key place within was_free none;
      }

  -- `count` is what the code found the number of buckets to be
  pub put_in : (count bucket next : ℕ) → count ≡ length heads → bucket ≡ bucket_of count key → bucket < count → next ≡ get_or heads bucket next → IsPut heads links key place (set heads bucket place) (set links place (record { key = key; next = next; held = true }))
  put_in count bucket next counted is low reads =
      let home : bucket ≡ bucket_of (length links) key = is ∙ ap (λ (n : ℕ). bucket_of n key) (counted ∙ sizes) in
      let fits : bucket < length heads = omega (arith, low, counted) in
      let head : next ≡ get_or heads (bucket_of (length links) key) 0 = reads ∙ get_or_default_zero heads bucket next fits ∙ ap (λ (b : ℕ). get_or heads b 0) home in
      rw (head, home) (put_first (omega (arith, home, fits)))
