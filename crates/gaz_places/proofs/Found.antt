-- The place that is found for a key is the one that is held for it.
use Rattle.std.proofs.Common.{true, false, Bool, ◌≡◌, ◌≢◌, ⊎_elim, ℕ, zero, suc, ◌<◌, List, [], ◌∷◌, length, get_or, Some, None, refl, sym, ◌∙◌, ap, arith, nat_lt, ◌&&◌, ◌==◌}
use Rattle.std.specs.List.{position, position_or_len}
use Rattle.std.proofs.lemmas.Bool.Decides.{nat_tests}
use Rattle.std.proofs.lemmas.List.Sums.{position_or_len_is, fails_before_first, passes_at_first}
use Rattle.std.proofs.lemmas.List.Quantifiers.{position-Some}
use Rattle.std.proofs.lemmas.List.{get_or_past}
use Rattle.std.proofs.lemmas.Bool.{cases_lt}
use Rattle.gaz_places.specs.declared.places.Link.{Link}
use Rattle.gaz_places.specs.Chains.{has, free_link, link_at, IsHeld}

-- a test that isn't true is false
pub by_test : (b : Bool) → (b ≡ true → ⊥) → b ≡ false
by_test true isnt = absurd (isnt refl)
by_test false isnt = refl

and_both : (b c : Bool) → (b && c) ≡ true → (b ≡ true) × (c ≡ true)
and_both true c is = (refl, is)
and_both false c is = absurd (cc is)

-- what it is to be held for a key
pub has_key : (key : ℕ) (link : Link) → has key link ≡ true → (link.held ≡ true) × (link.key ≡ key)
has_key key link is =
    let both = and_both link.held (link.key == key) is in
    let test = both.1 in
    let same : link.key ≡ key = grind (arith, nat_tests) in
    (both.0, same)

pub has_when : (key : ℕ) (link : Link) → link.held ≡ true → link.key ≡ key → has key link ≡ true
has_when key link held same =
    let test : (link.key == key) ≡ true = grind (arith, nat_tests) in
    rw (held, test) refl

-- past the last place none is held
pub held_within : (links : List Link) (place : ℕ) → IsHeld links place → place < length links
held_within links place held = ⊎_elim
    (λ lt. lt)
    (λ ge. let past = get_or_past links place free_link ge in let none : (link_at links place).held ≡ false = ap (λ (l : Link). l.held) past in absurd (cc (held, none)))
    (cases_lt place (length links))

module _ (p : Link → Bool) (links : List Link) where
  pub position_at : (place : ℕ) → place < length links → p (link_at links place) ≡ true → ((k : ℕ) → k < place → p (link_at links k) ≡ false) → position p links ≡ Some place
  position_at place within here before =
      let at : position_or_len p links ≡ place = position_or_len_is p links place free_link (omega arith) before (λ lt. here) in
      let test : nat_lt place (length links) ≡ true = grind (arith, nat_tests) in
      rw (at, test) refl

  pub position_none : ((k : ℕ) → k < length links → p (link_at links k) ≡ false) → position p links ≡ None
  position_none fails =
      let at : position_or_len p links ≡ length links = position_or_len_is p links (length links) free_link (omega arith) fails (λ lt. absurd (omega arith)) in
      let test : nat_lt (length links) (length links) ≡ false = grind (arith, nat_tests) in
      rw (at, test) refl

  pub none_passes : position p links ≡ None → (k : ℕ) → k < length links → p (link_at links k) ≡ false
  none_passes is k within = ⊎_elim
      (λ lt. let test : nat_lt (position_or_len p links) (length links) ≡ true = grind (arith, nat_tests) in absurd (cc (rw test at is)))
      (λ ge. fails_before_first p links k free_link (omega (arith, ge, within)))
      (cases_lt (position_or_len p links) (length links))

-- as each element passes or fails, so it is at its place in another list
pub same_position : (p : Link → Bool) (links others : List Link) → length links ≡ length others → ((k : ℕ) → k < length links → p (link_at links k) ≡ p (link_at others k)) → position p links ≡ position p others
same_position p links others lengths same = ⊎_elim
    (λ lt.
    let here = passes_at_first p links free_link lt in
    let place = position_or_len p links in
    position_at p links place lt here (λ k less. fails_before_first p links k free_link less)
    ∙ sym (position_at p others place (omega (arith, lt, lengths)) (sym (same place lt) ∙ here) (λ k less. sym (same k (omega (arith, less, lt))) ∙ fails_before_first p links k free_link less)))
    (λ ge.
    let fails : (k : ℕ) → k < length links → p (link_at links k) ≡ false = λ k less. fails_before_first p links k free_link (omega (arith, ge, less)) in
    position_none p links fails ∙ sym (position_none p others (λ k less. sym (same k (omega (arith, less, lengths))) ∙ fails k (omega (arith, less, lengths)))))
    (cases_lt (position_or_len p links) (length links))

module _ (links : List Link) where
  -- no place is held for a key that isn't found, and none else for one that is
  pub found_none : (key : ℕ) → ((place : ℕ) → IsHeld links place → (link_at links place).key ≢ key) → position (has key) links ≡ None
  found_none key none = position_none (has key) links (λ k lt. by_test (has key (link_at links k)) (λ is. let both = has_key key (link_at links k) is in none k both.0 both.1))

  pub none_found : (key : ℕ) → position (has key) links ≡ None → (place : ℕ) → IsHeld links place → (link_at links place).key ≢ key
  none_found key is place held same =
      let fails = none_passes (has key) links is place (held_within links place held) in
      let passes = has_when key (link_at links place) held same in
      cc (fails, passes)

  pub found_held : (key place : ℕ) → position (has key) links ≡ Some place → IsHeld links place × ((link_at links place).key ≡ key) × (place < length links)
  found_held key place is =
      let there = position-Some (has key) links place free_link is in
      let both = has_key key (link_at links place) there.1 in
      (both.0, both.1, there.0)

  pub held_found : ((a b : ℕ) → IsHeld links a → IsHeld links b → (link_at links a).key ≡ (link_at links b).key → a ≡ b) → (key place : ℕ) → IsHeld links place → (link_at links place).key ≡ key → position (has key) links ≡ Some place
  held_found alone key place held same =
      position_at (has key) links place (held_within links place held) (has_when key (link_at links place) held same)
      (λ k lt. by_test (has key (link_at links k)) (λ is. let both = has_key key (link_at links k) is in let one = alone k place both.0 held (both.1 ∙ sym same) in omega (arith, one, lt)))

-- within a list it doesn't matter what stands for a missing element
pub any_default : {X : Type 0} (xs : List X) (i : ℕ) (d e : X) → i < length xs → get_or xs i d ≡ get_or xs i e
any_default [] i d e lt = absurd (omega arith)
any_default (x ∷ xs) zero d e lt = refl
any_default (x ∷ xs) (suc i) d e lt = any_default xs i d e (omega arith)
