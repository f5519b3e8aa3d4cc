use Rattle.std.proofs.Common.{◌≡◌, ◌<◌, ◌+◌, ◌*◌, ℕ, List, refl, sym, subst, ◌∙◌, arith, Ok, Err, inr}
use Rattle.std.specs.Prelude.{IfOk, OnOk, Result, ◌==◌, if◌then◌else◌}
use Rattle.gaz_page.specs.declared.pages.PageFault.{PageFault}
use Rattle.gaz_page.specs.Pages.{PagesView, SamePages, damage}
use Rattle.gaz_heap.specs.Heap.{Stores, TakeDamage, PutDamage}
use Rattle.gaz_page.specs.Free.{free_link}
use Rattle.gaz_num.specs.Numbers.{some_if}
use Rattle.std.specs.Option.{is_none}
use Rattle.gaz_page.specs.declared.pages.PageFault.TheVariants.{Failed, Damaged, Memory}
use Rattle.gaz_heap.specs.Facts.{Puts, PutsThere}
use Rattle.gaz_heap.proofs.Asked.{told_still}
use Rattle.gaz_heap.proofs.StoredPuts.{stored_puts}
use Rattle.gaz_heap.proofs.heap.put_short.Goals as goal

more_ok : (P Q : ℕ → Type 0) (r : Result ℕ PageFault) → ((n : ℕ) → P n → Q n) → IfOk r P → IfOk r Q
more_ok P Q (Ok n) more p = more n p
more_ok P Q (Err e) more p = tt

all_ok : (P : Type 0) (r : Result ℕ PageFault) → P → OnOk r P
all_ok P (Ok n) p = p
all_ok P (Err e) p = tt

all_if_ok : (P : ℕ → Type 0) (r : Result ℕ PageFault) → ((n : ℕ) → P n) → IfOk r P
all_if_ok P (Ok n) all = all n
all_if_ok P (Err e) all = tt

put_there : (number slot place : ℕ) (bytes : List ℕ) (old new : PagesView) → place ≡ number * 65536 + slot → slot < 65536 → Stores number slot bytes old new → PutsThere old new number number place
put_there number slot place bytes old new is small stores = record {
  page = omega (arith, is, small);
  same = refl;
  least = λ k below. stores.least k (omega (arith, below, is, small));
  free = stores.free;
  fresh = stores.fresh;
}

same_damage : (old mid : PagesView) → SamePages old mid → damage mid ≡ damage old
unfolding damage
same_damage old mid same =
    λ i. if same.free i == 0 then some_if (same.fresh i == 4294967295) 0 else some_if (is_none (free_link (same.free i) (same.pages i (same.free i)))) (same.free i)

damage_again : (current : ℕ) (old mid : PagesView) (r : Result ℕ PageFault) → SamePages old mid → TakeDamage mid r → PutDamage current old r
damage_again current old mid (Ok n) same d = tt
damage_again current old mid (Err (Damaged page)) same d = inr (sym (same_damage old mid same) ∙ d)
damage_again current old mid (Err Failed) same d = tt
damage_again current old mid (Err Memory) same d = tt

same_pages : (v : PagesView) → SamePages v v
same_pages v = record { pages = refl; free = refl; fresh = refl }

pub place_of-requires : goal.place_of-requires
place_of-requires g c =
    let small : c.in-Ok-Some.slot < 1020 = rw c.in-Ok-Some.field-0-is at c.in-Ok-Some.ensures.slot in
    omega (arith, small)

pub returns-then-current-eq0-clause-puts : goal.returns-then-current-eq0-clause-puts
returns-then-current-eq0-clause-puts g c =
    let old = g.P.Pages.view c.args.pages.now in
    more_ok _ _ c.put_new.result (λ place puts told free heap. puts told old c.args.current.now free (same_pages old) heap) c.put_new.ensures.puts

pub returns-in-Ok-Some-clause-puts : goal.returns-in-Ok-Some-clause-puts
returns-in-Ok-Some-clause-puts g c told free heap =
    let old = g.P.Pages.view c.args.pages.now in
    let new = g.P.Pages.view c.store_in.new.pages in
    let number = c.args.current.now in
    let stores = rw c.in-Ok-Some.field-0-is at c.in-Ok-Some.ensures.stores told in
    subst (λ (place : ℕ). Puts old new number number free c.args.bytes.now place) (sym c.place_of.ensures.place)
    (stored_puts number c.in-Ok-Some.slot c.args.bytes.now old new free (record {
      stores = stores.0;
      small = omega (arith, stores.1);
      low = c.place_of.ensures.page;
      some = c.if-current-eq0.false;
      heap = heap;
    }))

pub returns-in-Ok-Some-clause-there : goal.returns-in-Ok-Some-clause-there
returns-in-Ok-Some-clause-there g c told _ _ =
    let number = c.args.current.now in
    let stores = rw c.in-Ok-Some.field-0-is at c.in-Ok-Some.ensures.stores told in
    let small : c.in-Ok-Some.slot < 1020 = rw c.in-Ok-Some.field-0-is at c.in-Ok-Some.ensures.slot in
    put_there number c.in-Ok-Some.slot c.place_of.result c.args.bytes.now (g.P.Pages.view c.args.pages.now) (g.P.Pages.view c.store_in.new.pages) c.place_of.ensures.place (omega (arith, small)) stores.0

pub returns-in-Ok-None-clause-there : goal.returns-in-Ok-None-clause-there
returns-in-Ok-None-clause-there g c =
    all_if_ok _ c.put_new-in-Ok-None.result (λ place told _ room. let kept = rw c.in-Ok-None.field-0-is at c.in-Ok-None.ensures.stores told in absurd (omega (arith, kept.3, room)))

pub returns-then-current-eq0-clause-there : goal.returns-then-current-eq0-clause-there
returns-then-current-eq0-clause-there g c = all_if_ok _ c.put_new.result (λ place told some _. absurd (some c.if-current-eq0.true))

pub returns-in-Ok-None-clause-puts : goal.returns-in-Ok-None-clause-puts
returns-in-Ok-None-clause-puts g c =
    let old = g.P.Pages.view c.args.pages.now in
    more_ok _ _ c.put_new-in-Ok-None.result
    (λ place puts told free heap.
    let kept = rw c.in-Ok-None.field-0-is at c.in-Ok-None.ensures.stores told in
    puts (told_still old (g.P.Pages.view c.store_in.new.pages) c.store_in.ensures.costs.counts.told told) old c.args.current.now free kept.0 heap)
    c.put_new-in-Ok-None.ensures.puts

pub returns-in-Ok-None-clause-behind : goal.returns-in-Ok-None-clause-behind
returns-in-Ok-None-clause-behind g c told = all_ok _ c.put_new-in-Ok-None.result (inr (inr (rw c.in-Ok-None.field-0-is at c.in-Ok-None.ensures.stores told).2))

pub returns-in-Ok-None-clause-damaged : goal.returns-in-Ok-None-clause-damaged
returns-in-Ok-None-clause-damaged g c told =
    let old = g.P.Pages.view c.args.pages.now in
    let mid = g.P.Pages.view c.store_in.new.pages in
    let kept = rw c.in-Ok-None.field-0-is at c.in-Ok-None.ensures.stores told in
    damage_again c.args.current.now old mid c.put_new-in-Ok-None.result kept.0 (c.put_new-in-Ok-None.ensures.damaged (told_still old mid c.store_in.ensures.costs.counts.told told))
