-- What stands in a bucket after links are changed.
use Rattle.std.proofs.Common.{◌≡◌, ◌≢◌, ℕ, None, replicate, ◌<◌, ◌≤◌, List, length, get_or, sym, ◌∙◌, ap, subst, arith}
use Rattle.std.specs.List.{position}
use Rattle.std.proofs.lemmas.List.{get_or-replicate}
use Rattle.std.proofs.Math.ListN.{length-replicate}
use Rattle.gaz_places.specs.declared.places.Link.{Link}
use Rattle.gaz_places.specs.Chains.{has, nowhere, free_link, link_at, bucket_of, IsHeld, StandsIn, Linked}
use Rattle.gaz_places.proofs.Found.{held_within, found_none}

-- a place that is held is some place
pub somewhere : (links : List Link) → length links ≤ 65536 → (place : ℕ) → IsHeld links place → place ≢ nowhere
somewhere links few place held is = omega (arith, held_within links place held, few, is)

-- A link that is held for the same key as before stands where it stood.
pub stands_again : (links others : List Link) → length links ≡ length others → (bucket place : ℕ) → (link_at links place).held ≡ (link_at others place).held → (link_at links place).key ≡ (link_at others place).key
    → StandsIn links bucket place → StandsIn others bucket place
stands_again links others lengths bucket place held key stands = record {
  held = sym held ∙ stands.held;
  there = subst (λ (n : ℕ). bucket_of n (link_at others place).key ≡ bucket) lengths (subst (λ (k : ℕ). bucket_of (length links) k ≡ bucket) key stands.there);
}

-- Where none is held and no bucket has a first place, all is linked.
pub empty_linked : (heads : List ℕ) (links : List Link) → ((bucket : ℕ) → bucket < length links → get_or heads bucket 0 ≡ nowhere) → ((place : ℕ) → IsHeld links place → ⊥) → Linked heads links
empty_linked heads links firsts none = record {
  times = λ place. 0;
  now = 0;
  earlier = λ place held. absurd (none place held);
  apart = λ a b one two same. absurd (none a one);
  alone = λ a b one two same. absurd (none a one);
  first = λ bucket lt. record { there = λ some. absurd (some (firsts bucket lt)); latest = λ other stands before. absurd (none other stands.held) };
  later = λ place held. absurd (none place held);
}

-- Where all links are free and all heads nowhere, all is linked, and no key has a place.
pub record IsEmpty (count : ℕ) (heads : List ℕ) (links : List Link) : Type 0 where
  pub buckets : length heads ≡ count
  pub places : length links ≡ count
  pub linked : ∥ Linked heads links ∥₁
  pub none : (key : ℕ) → position (has key) links ≡ None

pub empty : (count : ℕ) (heads : List ℕ) (links : List Link) → heads ≡ replicate count nowhere → links ≡ replicate count free_link → IsEmpty count heads links
empty count heads links firsts all =
    let places : length links ≡ count = ap length all ∙ length-replicate count free_link in
    let none : (place : ℕ) → IsHeld links place → ⊥ = λ place held.
    let within : place < count = omega (arith, held_within links place held, places) in
    let at : link_at links place ≡ free_link = ap (λ (ls : List Link). link_at ls place) all ∙ get_or-replicate count place free_link free_link within in
    cc (ap (λ (l : Link). l.held) at, held) in
    record {
      buckets = ap length firsts ∙ length-replicate count nowhere;
      places = places;
      linked = ∣ empty_linked heads links
          (λ bucket lt.
          let within : bucket < count = omega (arith, lt, places) in
          ap (λ (hs : List ℕ). get_or hs bucket 0) firsts ∙ get_or-replicate count bucket nowhere 0 within)
          none ∣₁;
      none = λ key. found_none links key (λ place held same. none place held);
    }
