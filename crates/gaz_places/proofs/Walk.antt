-- A walk along a chain comes to the place of its key, or to the end, in no more steps than there are places.
use Rattle.std.proofs.Common.{true, false, ◌≡◌, ◌≢◌, ⊎_elim, ℕ, ◌+◌, ◌<◌, ◌≤◌, List, [], ◌∷◌, length, get_or, refl, sym, ◌∙◌, ap, subst, arith, Some, None}
use Rattle.std.specs.List.{position, IsDistinct, AllByRecursion, list_any}
use Rattle.std.proofs.Props.{props}
use Rattle.std.proofs.lemmas.Bool.{cases_eq, cases_lt}
use Rattle.std.proofs.lemmas.Bool.Decides.{nat_tests}
use Rattle.std.proofs.lemmas.Map.Keys.{IsDistinct-cons}
use Rattle.std.proofs.lemmas.Map.Steps.{length-le_from_distinct_below}
use Rattle.std.proofs.Math.Dec.{eqb}
use Rattle.gaz_places.specs.declared.places.Link.{Link}
use Rattle.gaz_places.specs.Chains.{has, nowhere, link_at, bucket_of, IsHeld, StandsIn, IsLatest, Linked, LeadsTo}
use Rattle.gaz_places.proofs.Found.{by_test, held_within, found_none, held_found}
use Rattle.gaz_places.proofs.Stands.{somewhere}

-- The walk stands at the place put last before a time; it has passed those of the bucket that were put later, none of which has the key.
pub record Walk (heads : List ℕ) (links : List Link) (key step before place : ℕ) : Type 0 where
  pub linked : Linked heads links
  pub time : ℕ
  pub seen : List ℕ
  pub latest : IsLatest links linked.times (bucket_of (length links) key) time place
  pub leads : LeadsTo heads links (bucket_of (length links) key) before place
  pub passed : (q : ℕ) → StandsIn links (bucket_of (length links) key) q → time ≤ linked.times q → (link_at links q).key ≢ key
  pub count : length seen ≡ step
  pub apart : IsDistinct eqb seen
  pub later : AllByRecursion (λ q. IsHeld links q × (time ≤ linked.times q)) seen

-- a test of two numbers, or of any in a list
eqb_apart : (a b : ℕ) → a ≢ b → eqb a b ≡ false
eqb_apart a b differs = by_test (eqb a b) (λ is. differs (grind (arith, nat_tests)))

any_held : (links : List Link) (times : ℕ → ℕ) (time : ℕ) (seen : List ℕ) → AllByRecursion (λ q. IsHeld links q × (time ≤ times q)) seen → (q : ℕ) → list_any (eqb q) seen ≡ true → q < length links
any_held links times time [] all q is = absurd (cc is)
any_held links times time (p ∷ seen) all q is = ⊎_elim
    (λ same. let within = held_within links p all.0.0 in omega (arith, within, same))
    (λ other. let test = eqb_apart q p other in any_held links times time seen all.1 q (rw test at is))
    (cases_eq q p)

none_seen : (links : List Link) (times : ℕ → ℕ) (time place : ℕ) (seen : List ℕ) → times place < time → AllByRecursion (λ q. IsHeld links q × (time ≤ times q)) seen → AllByRecursion (λ q. eqb place q ≡ false) seen
none_seen links times time place [] lt all = tt
none_seen links times time place (p ∷ seen) lt all = (eqb_apart place p (λ same. let later = all.0.1 in omega (arith, lt, later, ap times same)), none_seen links times time place seen lt all.1)

earlier_time : (links : List Link) (times : ℕ → ℕ) (time past : ℕ) (seen : List ℕ) → past < time → AllByRecursion (λ q. IsHeld links q × (time ≤ times q)) seen → AllByRecursion (λ q. IsHeld links q × (past ≤ times q)) seen
earlier_time links times time past [] lt all = tt
earlier_time links times time past (p ∷ seen) lt all = let later = all.0.1 in ((all.0.0, omega (arith, lt, later)), earlier_time links times time past seen lt all.1)

none_apart : IsDistinct eqb []
unfolding IsDistinct
none_apart = tt

module _ (heads : List ℕ) (links : List Link) (few : length links ≤ 65536) (key : ℕ) where
  abbrev home : ℕ
  home = bucket_of (length links) key

  pub walk_start : Linked heads links → home < length links → Walk heads links key 0 nowhere (get_or heads home 0)
  walk_start linked fits = record {
    linked = linked;
    time = linked.now;
    seen = [];
    latest = linked.first home fits;
    leads = record { first = λ is. refl; later = λ other. absurd (other refl) };
    passed = λ q stands le same. let early = linked.earlier q stands.held in omega (arith, early, le);
    count = refl;
    apart = none_apart;
    later = tt;
  }

  module _ (step before place : ℕ) (walk : Walk heads links key step before place) where
    stands : place ≢ nowhere → StandsIn links home place
    stands some = (walk.latest.there some).0

    pub walk_within : place ≢ nowhere → place < length links
    walk_within some = held_within links place (stands some).held

    seen_apart : place ≢ nowhere → IsDistinct eqb (place ∷ walk.seen)
    seen_apart some = IsDistinct-cons eqb place walk.seen (none_seen links walk.linked.times walk.time place walk.seen (walk.latest.there some).1 walk.later) walk.apart

    seen_later : place ≢ nowhere → AllByRecursion (λ q. IsHeld links q × (walk.linked.times place ≤ walk.linked.times q)) (place ∷ walk.seen)
    seen_later some = (((stands some).held, omega arith), earlier_time links walk.linked.times walk.time (walk.linked.times place) walk.seen (walk.latest.there some).1 walk.later)

    -- a step on
    pub walk_on : place ≢ nowhere → (link_at links place).key ≢ key → Walk heads links key (step + 1) place (link_at links place).next
    walk_on some differs =
        let linked = walk.linked in
        let times = linked.times in
        record {
          linked = linked;
          time = times place;
          seen = place ∷ walk.seen;
          latest = subst (λ (b : ℕ). IsLatest links times b (times place) (link_at links place).next) (stands some).there (linked.later place (stands some).held);
          leads = record { first = λ is. absurd (some is); later = λ other. (stands some, refl) };
          passed = λ q at le same. ⊎_elim
              (λ lt.
              let last = (walk.latest.latest q at lt).1 in
              let one = linked.apart q place at.held (stands some).held (omega (arith, last, le)) in
              differs (ap (λ (p : ℕ). (link_at links p).key) (sym one) ∙ same))
              (λ ge. walk.passed q at ge same)
              (cases_lt (times q) walk.time);
          count = let count = walk.count in omega (arith, count);
          apart = seen_apart some;
          later = seen_later some;
        }

    -- the walk's end: at the key's place, or nowhere
    pub walk_found : place ≢ nowhere → (link_at links place).key ≡ key → position (has key) links ≡ Some place
    walk_found some same = held_found links walk.linked.alone key place (stands some).held same

    pub walk_none : place ≡ nowhere → position (has key) links ≡ None
    walk_none is = found_none links key (λ q held same.
        let at : StandsIn links home q = record { held = held; there = ap (λ (k : ℕ). bucket_of (length links) k) same } in
        ⊎_elim
        (λ lt. let here = (walk.latest.latest q at lt).0 in somewhere links few place here.held is)
        (λ ge. walk.passed q at ge same)
        (cases_lt (walk.linked.times q) walk.time))

    pub walk_all : length links ≤ step → position (has key) links ≡ None
    walk_all steps = ⊎_elim
        walk_none
        (λ some.
        let count = walk.count in
        let most = length-le_from_distinct_below (place ∷ walk.seen) (length links) (seen_apart some) (any_held links walk.linked.times (walk.linked.times place) (place ∷ walk.seen) (seen_later some)) in
        absurd (omega (arith, most, steps, count)))
        (cases_eq place nowhere)

pub leads_prop : (heads : List ℕ) (links : List Link) (bucket before place : ℕ) → IsProp (LeadsTo heads links bucket before place)
leads_prop heads links bucket before place = hlevel props
