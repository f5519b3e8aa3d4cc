-- A place that is taken from its chain leaves all others linked.
use Rattle.std.proofs.Common.{◌&&◌, false, Bool, ◌≡◌, ◌≢◌, ⊎_elim, ℕ, ◌<◌, ◌≤◌, List, length, get_or, set, refl, sym, ◌∙◌, ap, subst, arith, ◌==◌, Some, None}
use Rattle.std.specs.List.{position}
use Rattle.std.proofs.Math.ListN.{length-set}
use Rattle.std.proofs.Math.Logic.{∥∥₁_elim, ∥∥₁_map}
use Rattle.std.proofs.Props.{props}
use Rattle.std.proofs.lemmas.Bool.{cases_eq, cases_lt}
use Rattle.std.proofs.lemmas.List.{get_or-set_same, get_or-set_other}
use Rattle.gaz_places.specs.declared.places.Link.{Link}
use Rattle.gaz_places.specs.Chains.{has, nowhere, free_link, link_at, bucket_of, bucket_at, IsHeld, StandsIn, IsLatest, Linked}
use Rattle.gaz_places.proofs.Found.{any_default, by_test, has_key, held_within, found_held, found_none, same_position}
use Rattle.gaz_places.proofs.Stands.{somewhere, stands_again}

-- Other links are held for the same keys as before, and this one for none.
pub record IsFreed (links after : List Link) (place : ℕ) : Type 0 where
  pub lengths : length links ≡ length after
  pub gone : IsHeld after place → ⊥
  pub held : (q : ℕ) → q ≢ place → (link_at after q).held ≡ (link_at links q).held
  pub key : (q : ℕ) → q ≢ place → (link_at after q).key ≡ (link_at links q).key

-- A number that named the place names the next one, and any other is as it was.
pub record PassesBy (place next old new : ℕ) : Type 0 where
  pub other : old ≢ place → new ≡ old
  pub passed : old ≡ place → new ≡ next

module _ (heads : List ℕ) (links : List Link) (few : length links ≤ 65536) (place : ℕ) (held : IsHeld links place) (old : Linked heads links) where
  abbrev next : ℕ
  next = (link_at links place).next

  some_place : place ≢ nowhere
  some_place = somewhere links few place held

  abbrev home : ℕ
  home = bucket_at links place

  -- what leads to the place is in its bucket, and was put behind it
  led_from : (q : ℕ) → IsHeld links q → (link_at links q).next ≡ place → (bucket_at links q ≡ home) × (old.times place < old.times q)
  led_from q is leads =
      let was = (old.later q is).there (λ none. some_place (sym leads ∙ none)) in
      (sym was.0.there ∙ ap (bucket_at links) leads, subst (λ (p : ℕ). old.times p < old.times q) leads was.1)

  -- one place at most leads to it, and no head where one does
  not_behind : (q r : ℕ) → IsHeld links q → IsHeld links r → (link_at links q).next ≡ place → (link_at links r).next ≡ place → old.times q < old.times r → ⊥
  not_behind q r one two leads to less =
      let from = led_from q one leads in
      let into = led_from r two to in
      let was = (old.later r two).latest q (record { held = one; there = from.0 ∙ sym into.0 }) less in
      let last = subst (λ (p : ℕ). old.times q ≤ old.times p) to was.1 in
      omega (arith, from.1, last)

  pub one_leads : (q r : ℕ) → IsHeld links q → IsHeld links r → (link_at links q).next ≡ place → (link_at links r).next ≡ place → q ≡ r
  one_leads q r one two leads to = ⊎_elim
      (λ less. absurd (not_behind q r one two leads to less))
      (λ ge. ⊎_elim
      (λ less. absurd (not_behind r q two one to leads less))
      (λ le. old.apart q r one two (omega (arith, ge, le)))
      (cases_lt (old.times r) (old.times q)))
      (cases_lt (old.times q) (old.times r))

  pub head_home : (bucket : ℕ) → bucket < length links → get_or heads bucket 0 ≡ place → bucket ≡ home
  head_home bucket lt is =
      let was = (old.first bucket lt).there (λ none. some_place (sym is ∙ none)) in
      sym was.0.there ∙ ap (bucket_at links) is

  pub no_head : (bucket q : ℕ) → bucket < length links → get_or heads bucket 0 ≡ place → IsHeld links q → (link_at links q).next ≡ place → ⊥
  no_head bucket q lt is one leads =
      let from = led_from q one leads in
      let was = (old.first bucket lt).latest q (record { held = one; there = from.0 ∙ sym (head_home bucket lt is) }) (old.earlier q one) in
      let last = subst (λ (p : ℕ). old.times q ≤ old.times p) is was.1 in
      omega (arith, from.1, last)

  module _ (after : List Link) (freed : IsFreed links after place) where
    stays : (bucket q : ℕ) → q ≢ place → StandsIn links bucket q → StandsIn after bucket q
    stays bucket q other = stands_again links after freed.lengths bucket q (sym (freed.held q other)) (sym (freed.key q other))

    not_place : (q : ℕ) → IsHeld after q → q ≢ place
    not_place q is same = freed.gone (subst (IsHeld after) same is)

    was_held : (q : ℕ) → IsHeld after q → IsHeld links q
    was_held q is = sym (freed.held q (not_place q is)) ∙ is

    stood : (bucket q : ℕ) → StandsIn after bucket q → StandsIn links bucket q
    stood bucket q stands = stands_again after links (sym freed.lengths) bucket q (freed.held q (not_place q stands.held)) (freed.key q (not_place q stands.held)) stands

    behind : (bucket time : ℕ) → IsLatest links old.times bucket time place → IsLatest after old.times bucket time next
    behind bucket time was =
        let here = was.there some_place in
        let rest : IsLatest links old.times bucket (old.times place) next = subst (λ (b : ℕ). IsLatest links old.times b (old.times place) next) here.0.there (old.later place held) in
        record {
          there = λ is.
              let there = rest.there is in
              let other : next ≢ place = λ same. omega (arith, there.1, ap old.times same) in
              (stays bucket next other there.0, omega (arith, there.1, here.1));
          latest = λ q stands lt.
              let one = stood bucket q stands in
              let last = (was.latest q one lt).1 in
              let differs : old.times q ≢ old.times place = λ same. not_place q stands.held (old.apart q place one.held held same) in
              let there = rest.latest q one (omega (arith, last, differs)) in
              let before = (rest.there (somewhere links few next there.0.held)).1 in
              let other : next ≢ place = λ same. omega (arith, before, ap old.times same) in
              (stays bucket next other there.0, there.1);
        }

    as_before : (bucket time at : ℕ) → at ≢ place → IsLatest links old.times bucket time at → IsLatest after old.times bucket time at
    as_before bucket time at other was = record {
      there = λ is. let here = was.there is in (stays bucket at other here.0, here.1);
      latest = λ q stands lt. let here = was.latest q (stood bucket q stands) lt in (stays bucket at other here.0, here.1);
    }

    passed : (bucket time at new : ℕ) → PassesBy place next at new → IsLatest links old.times bucket time at → IsLatest after old.times bucket time new
    passed bucket time at new by was = ⊎_elim
        (λ same. rw (by.passed same) (behind bucket time (subst (IsLatest links old.times bucket time) same was)))
        (λ other. rw (by.other other) (as_before bucket time at other was))
        (cases_eq at place)

    pub taken_linked : (firsts : List ℕ) → ((bucket : ℕ) → bucket < length links → PassesBy place next (get_or heads bucket 0) (get_or firsts bucket 0))
        → ((q : ℕ) → IsHeld links q → q ≢ place → PassesBy place next (link_at links q).next (link_at after q).next) → Linked firsts after
    taken_linked firsts head_passes next_passes = record {
      times = old.times;
      now = old.now;
      earlier = λ q is. old.earlier q (was_held q is);
      apart = λ a b one two. old.apart a b (was_held a one) (was_held b two);
      alone = λ a b one two same. old.alone a b (was_held a one) (was_held b two) (sym (freed.key a (not_place a one)) ∙ same ∙ freed.key b (not_place b two));
      first = λ bucket lt.
          let within : bucket < length links = omega (arith, lt, freed.lengths) in
          passed bucket old.now (get_or heads bucket 0) (get_or firsts bucket 0) (head_passes bucket within) (old.first bucket within);
      later = λ q is.
          let other = not_place q is in
          let was = was_held q is in
          let bucket : bucket_at after q ≡ bucket_at links q = ap (λ (k : ℕ). bucket_of (length after) k) (freed.key q other) ∙ ap (λ (n : ℕ). bucket_of n (link_at links q).key) (sym freed.lengths) in
          rw bucket (passed (bucket_at links q) (old.times q) (link_at links q).next (link_at after q).next (next_passes q was other) (old.later q was));
    }

    -- its key has no place, and each other key what it had
    pub taken_gone : position (has (link_at links place).key) after ≡ None
    taken_gone = found_none after (link_at links place).key
        (λ q is same. not_place q is (old.alone q place (was_held q is) held (sym (freed.key q (not_place q is)) ∙ same)))

    pub taken_others : (other : ℕ) → other ≢ (link_at links place).key → position (has other) after ≡ position (has other) links
    taken_others other differs = same_position (has other) after links (sym freed.lengths)
        (λ q lt. ⊎_elim
        (λ same.
        let now : has other (link_at after q) ≡ false = by_test (has other (link_at after q)) (λ is. let both = has_key other (link_at after q) is in not_place q both.0 same) in
        let before : has other (link_at links q) ≡ false = by_test (has other (link_at links q)) (λ is. let both = has_key other (link_at links q) is in differs (sym both.1 ∙ ap (λ (p : ℕ). (link_at links p).key) same)) in
        now ∙ sym before)
        (λ apart.
        ap (λ (b : Bool). b && ((link_at after q).key == other)) (freed.held q apart) ∙ ap (λ (k : ℕ). (link_at links q).held && (k == other)) (freed.key q apart))
        (cases_eq q place))

-- The same from what a caller knows.
pub record IsTaken (links : List Link) (key : ℕ) (firsts : List ℕ) (after : List Link) : Type 0 where
  pub linked : ∥ Linked firsts after ∥₁
  pub gone : position (has key) after ≡ None
  pub others : (other : ℕ) → other ≢ key → position (has other) after ≡ position (has other) links

module _ (heads : List ℕ) (links : List Link) (sizes : length heads ≡ length links) (few : length links ≤ 65536) (some : ∥ Linked heads links ∥₁) (key place : ℕ) (found : position (has key) links ≡ Some place) where
  is_held : IsHeld links place
  is_held = (found_held links key place found).0

  its_key : (link_at links place).key ≡ key
  its_key = (found_held links key place found).1

  pub taken_within : place < length links
  taken_within = (found_held links key place found).2

  taken : (firsts : List ℕ) (after : List Link) → IsFreed links after place
      → (Linked heads links → (bucket : ℕ) → bucket < length links → PassesBy place (link_at links place).next (get_or heads bucket 0) (get_or firsts bucket 0))
      → (Linked heads links → (q : ℕ) → IsHeld links q → q ≢ place → PassesBy place (link_at links place).next (link_at links q).next (link_at after q).next)
      → IsTaken links key firsts after
  taken firsts after freed head_passes next_passes = record {
    linked = ∥∥₁_map some (λ (old : Linked heads links). taken_linked heads links few place is_held old after freed firsts (head_passes old) (next_passes old));
    gone = ∥∥₁_elim some (hlevel props) (λ (old : Linked heads links). rw its_key at (taken_gone heads links few place is_held old after freed));
    others = λ other differs. ∥∥₁_elim some (hlevel props) (λ (old : Linked heads links). taken_others heads links few place is_held old after freed other (λ same. differs (same ∙ its_key)));
  }

  -- a place at the head of its bucket
  module _ (count bucket : ℕ) (counted : count ≡ length heads) (is_home : bucket ≡ bucket_of count key) (low : bucket < count) (head : get_or heads (bucket_of (length links) key) 0 ≡ place) (link : Link) (freed : link.held ≡ false) where
    bucket_home : bucket ≡ bucket_of (length links) key
    bucket_home = is_home ∙ ap (λ (n : ℕ). bucket_of n key) (counted ∙ sizes)

    fits : bucket < length heads
    fits = omega (arith, low, counted)

    abbrev left : List Link
    left = set links place link

    left_apart : (q : ℕ) → q ≢ place → link_at left q ≡ link_at links q
    left_apart q other = get_or-set_other links place q link free_link other

    left_freed : IsFreed links left place
    left_freed = record {
      lengths = sym (length-set links place link);
      gone = λ held. let at : (link_at left place).held ≡ link.held = ap (λ (l : Link). l.held) (get_or-set_same links place link free_link taken_within) in cc (at, held, freed);
      held = λ q other. ap (λ (l : Link). l.held) (left_apart q other);
      key = λ q other. ap (λ (l : Link). l.key) (left_apart q other);
    }

    at_head : get_or heads bucket 0 ≡ place
    at_head = ap (λ (b : ℕ). get_or heads b 0) bucket_home ∙ head

    first_left : (next : ℕ) → next ≡ (link_at links place).next → IsTaken links key (set heads bucket next) left
    first_left next is = taken (set heads bucket next) left left_freed
        (λ old b lt. record {
          other = λ differs. get_or-set_other heads bucket b next 0 (λ same. differs (ap (λ (c : ℕ). get_or heads c 0) same ∙ at_head));
          passed = λ same.
              let one : b ≡ bucket = head_home heads links few place is_held old b lt same ∙ sym (head_home heads links few place is_held old bucket (omega (arith, fits, sizes)) at_head) in
              ap (λ (c : ℕ). get_or (set heads bucket next) c 0) one ∙ get_or-set_same heads bucket next 0 fits ∙ is;
        })
        (λ old q held other. record {
          other = λ differs. ap (λ (l : Link). l.next) (left_apart q other);
          passed = λ same. absurd (no_head heads links few place is_held old bucket q (omega (arith, fits, sizes)) at_head held same);
        })

    pub first_taken : (read : Link) → read ≡ get_or links place read → IsTaken links key (set heads bucket read.next) left
    first_taken read is = first_left read.next (ap (λ (l : Link). l.next) (is ∙ any_default links place read free_link taken_within))

  -- a place behind another
  module _ (before : ℕ) (stands : IsHeld links before) (leads : (link_at links before).next ≡ place) (link : Link) (same_held : link.held ≡ (link_at links before).held) (same_key : link.key ≡ (link_at links before).key)
      (next : link.next ≡ (link_at links place).next) (last : Link) (freed : last.held ≡ false) where
    abbrev joined : List Link
    joined = set links before link

    abbrev rest : List Link
    rest = set joined place last

    rest_apart : (q : ℕ) → q ≢ place → link_at rest q ≡ link_at joined q
    rest_apart q other = get_or-set_other joined place q last free_link other

    joined_apart : (q : ℕ) → q ≢ before → link_at joined q ≡ link_at links q
    joined_apart q other = get_or-set_other links before q link free_link other

    joined_here : link_at joined before ≡ link
    joined_here = get_or-set_same links before link free_link (held_within links before stands)

    -- what the link at `before` keeps, all keep
    keeps : {A : Type 0} (part : Link → A) → part link ≡ part (link_at links before) → (q : ℕ) → q ≢ place → part (link_at rest q) ≡ part (link_at links q)
    keeps part same q other = ⊎_elim
        (λ one. ap part (rest_apart q other) ∙ ap (λ (p : ℕ). part (link_at joined p)) one ∙ ap part joined_here ∙ same ∙ ap (λ (p : ℕ). part (link_at links p)) (sym one))
        (λ apart. ap part (rest_apart q other) ∙ ap part (joined_apart q apart))
        (cases_eq q before)

    rest_freed : IsFreed links rest place
    rest_freed = record {
      lengths = sym (length-set joined place last ∙ length-set links before link);
      gone = λ held.
          let within : place < length joined = omega (arith, taken_within, length-set links before link) in
          let at : (link_at rest place).held ≡ last.held = ap (λ (l : Link). l.held) (get_or-set_same joined place last free_link within) in
          cc (at, held, freed);
      held = keeps (λ (l : Link). l.held) same_held;
      key = keeps (λ (l : Link). l.key) same_key;
    }

    later_left : IsTaken links key heads rest
    later_left = taken heads rest rest_freed
        (λ old b lt. record {
          other = λ differs. refl;
          passed = λ same. absurd (no_head heads links few place is_held old b before lt same stands leads);
        })
        (λ old q held other. record {
          other = λ differs. ap (λ (l : Link). l.next) (rest_apart q other ∙ joined_apart q (λ same. differs (ap (λ (p : ℕ). (link_at links p).next) same ∙ leads)));
          passed = λ same.
              let one = one_leads heads links few place is_held old q before held stands same leads in
              ap (λ (l : Link). l.next) (rest_apart q other) ∙ ap (λ (p : ℕ). (link_at joined p).next) one ∙ ap (λ (l : Link). l.next) joined_here ∙ next;
        })

  -- the same from what the code read of the two links
  pub later_taken : (before : ℕ) → StandsIn links (bucket_of (length links) key) before → (link_at links before).next ≡ place → (read other : Link) → read ≡ get_or links place read → other ≡ get_or links before other → (last : Link) → last.held ≡ false
      → IsTaken links key heads (set (set links before (record { key = other.key; next = read.next; held = other.held })) place last)
  later_taken before stands leads read other is was last freed =
      let at : read ≡ link_at links place = is ∙ any_default links place read free_link taken_within in
      let front : other ≡ link_at links before = was ∙ any_default links before other free_link (held_within links before stands.held) in
      later_left before stands.held leads (record { key = other.key; next = read.next; held = other.held }) (ap (λ (l : Link). l.held) front) (ap (λ (l : Link). l.key) front) (ap (λ (l : Link). l.next) at) last freed
