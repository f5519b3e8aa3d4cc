use Rattle.std.proofs.Common.{◌≡◌, ◌≤◌, ◌<◌, ◌+◌, ◌-◌, ℕ, List, suc, refl, sym, ap, subst, arith}
use Rattle.std.specs.Prelude.{IsTrue, Result, Ok, Err}
use Rattle.gaz_leaf.specs.declared.kind.Kind.TheVariants.{Leaf}
use Rattle.gaz_leaf.specs.Node.{Pair, count_of, key_of, key_in}
use Rattle.gaz_tree.specs.declared.grown.Grown.{Grown}
use Rattle.gaz_tree.specs.declared.grown.Grown.TheVariants.{Same, Kept, Split}
use Rattle.gaz_tree.specs.Tree.{next_key, IsHead, Reaches}
use Rattle.gaz_tree.specs.Put.{HasChain, HasPut, IsTaken, Puts}
use Rattle.gaz_tree.proofs.Answered.{IsReadAt, IsStep, PutsUnder, read_at, step_in, puts_over, split_answered, kept_answered, same_answered, damage_up, no_damage}
use Rattle.gaz_page.specs.declared.pages.PageFault.{PageFault}
use Rattle.gaz_tree.specs.declared.way.Way.{Way}
use Rattle.gaz_tree.specs.Calls.{Names}
use Rattle.gaz_tree.proofs.Named.{names_failed, since_of, since_failed, mend_since}
use Rattle.gaz_tree.proofs.Evened.{leaf_named, even_kept, even_kept_fine}
use Rattle.gaz_tree.proofs.PutNamed.{put_since, put_up, put_split}
use Rattle.gaz_page.proofs.Takes.{along_same, along_more}
use Rattle.gaz_tree.proofs.Removes.{ok_map, ok_of}
use Rattle.gaz_tree.proofs.Along.{along_step}
use Rattle.gaz_tree.proofs.Down.{down_step, down_none}
use Rattle.gaz_page.specs.Pages.{PagesView}
use Rattle.gaz_page.specs.Chains.{TakesAlong}
use Rattle.gaz_tree.specs.Calls.{LeadsDown}
use Rattle.gaz_tree.proofs.put.+put_below.Given.{Over}
use Rattle.gaz_tree.proofs.put.+put_below.Goals.{In-Ok}
use Rattle.gaz_tree.proofs.put.+put_below.Goals as goal

-- the pages before, and once the way was read
abbrev before : (g : Over) (t : ℕ) → In-Ok g t → PagesView
before g t c = g.P.Pages.view c.args.pages.now

abbrev after : (g : Over) (t : ℕ) → In-Ok g t → PagesView
after g t c = g.P.Pages.view c.read_way.new.pages

-- what is known then
read : (g : Over) (t : ℕ) (c : In-Ok g t) → IsTrue (before g t c).is_told → IsReadAt (before g t c) (after g t c) c.args.level
read g t c told = read_at 1 (before g t c) (after g t c) c.args.level c.in-Ok.way c.in-Ok.ensures.reads c.if-level-eq0.false told

abbrev pair : (g : Over) (t : ℕ) → In-Ok g t → Pair
pair g t c = record { key = key_of c.args.key.now; value = c.args.value }

-- what the put below its child came to
step : (g : Over) (t : ℕ) (c : In-Ok g t) (less : PagesView) (result given : Result Grown PageFault) (low high : ℕ) → IsTrue (before g t c).is_told → IsHead (before g t c).page c.args.level c.args.page low high
    → low ≤ key_of c.args.key.now → key_of c.args.key.now < high → ((n : ℕ) → Reaches (before g t c).page c.args.level c.args.page n → IsTaken (before g t c).fresh n) → HasChain (before g t c)
    → result ≡ given → (IsTrue (after g t c).is_told → PutsUnder (after g t c) less (c.args.level - 1) c.in-Ok.way.child (pair g t c) result)
    → IsStep (after g t c) less (c.args.level - 1) c.args.page low high c.in-Ok.way (pair g t c) given
step g t c less result given low high told head lo hi lies chain is puts =
    let r = read g t c told in
    step_in (before g t c) (after g t c) less c.args.level (c.args.level - 1) c.args.page low high (key_in c.read.result) c.in-Ok.way (pair g t c) result given r.same r.next head lo hi lies chain c.read.ensures.is (c.in-Ok.ensures.leads told) is (puts r.still)

-- the child stands where it stood
kept : (g : Over) (t : ℕ) (c : In-Ok g t) (less : PagesView) (result : Result Grown PageFault) (low high : ℕ) → IsTrue (before g t c).is_told → IsHead (before g t c).page c.args.level c.args.page low high
    → low ≤ key_of c.args.key.now → key_of c.args.key.now < high → ((n : ℕ) → Reaches (before g t c).page c.args.level c.args.page n → IsTaken (before g t c).fresh n) → HasChain (before g t c)
    → result ≡ Ok Kept → (IsTrue (after g t c).is_told → PutsUnder (after g t c) less (c.args.level - 1) c.in-Ok.way.child (pair g t c) result)
    → HasPut (after g t c) less (suc (c.args.level - 1)) c.args.page low high (pair g t c) Kept
kept g t c less result low high told head lo hi lies chain is puts =
    let s = step g t c less result (Ok Kept) low high told head lo hi lies chain is puts in
    kept_answered (after g t c) less (c.args.level - 1) c.args.page low high (key_of c.args.key.now) c.in-Ok.way.place c.in-Ok.way.child (pair g t c) s.way refl s.put

-- over the read
over : (g : Over) (t : ℕ) (c : In-Ok g t) (last : PagesView) (result : Result Grown PageFault) (low high : ℕ) → IsTrue (before g t c).is_told
    → Puts (after g t c) last (suc (c.args.level - 1)) c.args.page low high (pair g t c) result → Puts (before g t c) last c.args.level c.args.page low high (pair g t c) result
over g t c last result low high told q =
    let r = read g t c told in
    subst (λ (l : ℕ). Puts (before g t c) last l c.args.page low high (pair g t c) result) (sym r.next)
    (puts_over (before g t c) (after g t c) last (suc (c.args.level - 1)) c.args.page low high (pair g t c) result r.same c.in-Ok.ensures.reads.unchanged q)

-- the page leads down where its child does
down : (g : Over) (t : ℕ) (c : In-Ok g t) → IsTrue (before g t c).is_told → (IsTrue (after g t c).is_told → LeadsDown (after g t c).page (λ leaf. Unit) (c.args.level - 1) c.in-Ok.way.child) → LeadsDown (before g t c).page (λ leaf. Unit) c.args.level c.args.page
down g t c told below =
    let r = read g t c told in
    down_step (λ m leaf. Unit) (before g t c).page (after g t c).page c.args.level (c.args.level - 1) c.args.page c.in-Ok.way.child r.next r.same.pages (c.in-Ok.ensures.own told) (c.in-Ok.ensures.child told) (below r.still)

-- the pages that were taken at the child's, and one more at most
along : (g : Over) (t : ℕ) (c : In-Ok g t) (less new : PagesView) (more : ℕ) → more ≤ 1 → IsTrue (before g t c).is_told → (IsTrue (after g t c).is_told → TakesAlong (c.args.level - 1 + 1) (after g t c) less) → TakesAlong more less new → TakesAlong (c.args.level + 1) (before g t c) new
along g t c less new more few told below then_ =
    let r = read g t c told in
    along_step c.args.level (c.args.level - 1) more (before g t c) (after g t c) less new r.next few r.same (below r.still) then_

-- the same pages
stay : (v : PagesView) → TakesAlong 0 v v
stay v = along_same v v (record { pages = refl; free = refl; fresh = refl })

pub returns-then-level-eq0-clause-puts : goal.returns-then-level-eq0-clause-puts
returns-then-level-eq0-clause-puts g t c told low high head lo hi lies chain =
    let v = g.P.Pages.view in
    let old = v c.args.pages.now in
    let is = c.if-level-eq0.true in
    let p : Pair = record { key = key_of c.args.key.now; value = c.args.value } in
    subst (λ (l : ℕ). Puts old (v c.put_leaf.new.pages) l c.args.page low high p c.put_leaf.result) (sym is)
    (c.put_leaf.ensures.puts told low high (subst (λ (l : ℕ). IsHead old.page l c.args.page low high) is head) lo hi
    (lies c.args.page (subst (λ (l : ℕ). Reaches old.page l c.args.page c.args.page) (sym is) refl)) chain)

pub returns-in-Ok-Split-clause-puts : goal.returns-in-Ok-Split-clause-puts
returns-in-Ok-Split-clause-puts g t c told low high head lo hi lies chain =
    let v = g.P.Pages.view in
    let at = (goal.at.returns-in-Ok-Split-clause-puts g t c).In-Ok in
    let less = v c.put_below.new.pages in
    let r = read g t at told in
    let again : IsTrue less.is_told = subst IsTrue (sym c.put_below.ensures.counts.told) r.still in
    let way = c.in-Ok.way in
    let last = v c.add_entry.new.pages in
    let s = step g t at less (Ok c.in-Ok-Split.field-0) (Ok (Split c.in-Ok-Split.half)) low high told head lo hi lies chain (ap (λ (r : Grown). Ok r) c.in-Ok-Split.field-0-is) c.in-Ok-Split.ensures.puts in
    over g t at last c.add_entry.result low high told
    (split_answered (after g t at) less last (c.args.level - 1) c.args.page low high (key_of c.args.key.now) way.place way.child (way.place + 1) (pair g t at) c.in-Ok-Split.half c.add_entry.result s.way refl refl s.put
    (c.add_entry.ensures.adds again) (c.add_entry.ensures.damaged again)
    (subst (λ (m : ℕ → List ℕ). way.place + 1 ≤ count_of (m c.args.page)) (sym r.same.pages) (let b = c.in-Ok.ensures.place told in omega arith)))

pub returns-then-level-ne1-clause-puts : goal.returns-then-level-ne1-clause-puts
returns-then-level-ne1-clause-puts g t c told low high head lo hi lies chain =
    let v = g.P.Pages.view in
    let at = (goal.at.returns-then-level-ne1-clause-puts g t c).In-Ok in
    let less = v c.put_below.new.pages in
    over g t at less (Ok Kept) low high told (kept g t at less (Ok c.in-Ok-Kept.field-0) low high told head lo hi lies chain (ap (λ (r : Grown). Ok r) c.in-Ok-Kept.field-0-is) c.in-Ok-Kept.ensures.puts)

pub returns-in-Ok-even_out-clause-puts : goal.returns-in-Ok-even_out-clause-puts
returns-in-Ok-even_out-clause-puts g t c told low high head lo hi lies chain =
    let v = g.P.Pages.view in
    let at = (goal.at.returns-in-Ok-even_out-clause-puts g t c).In-Ok in
    let less = v c.put_below.new.pages in
    let again : IsTrue less.is_told = subst IsTrue (sym c.put_below.ensures.counts.told) (read g t at told).still in
    let last = v c.even_out.new.pages in
    let one : c.args.level - 1 ≡ 0 = (let e = c.if-level-ne1.false in omega arith) in
    over g t at last (Ok Kept) low high told
    (even_kept (after g t at) less last (c.args.level - 1) c.args.page low high c.in-Ok.way.place (pair g t at) one
    (kept g t at less (Ok c.in-Ok-Kept.field-0) low high told head lo hi lies chain (ap (λ (r : Grown). Ok r) c.in-Ok-Kept.field-0-is) c.in-Ok-Kept.ensures.puts)
    (c.in-Ok-even_out.ensures.evens again))

pub returns-in-Err-even_out-clause-puts : goal.returns-in-Err-even_out-clause-puts
returns-in-Err-even_out-clause-puts g t c told low high head lo hi lies chain =
    let v = g.P.Pages.view in
    let at = (goal.at.returns-in-Err-even_out-clause-puts g t c).In-Ok in
    let less = v c.put_below.new.pages in
    let r = read g t at told in
    let again : IsTrue less.is_told = subst IsTrue (sym c.put_below.ensures.counts.told) r.still in
    let one : c.args.level - 1 ≡ 0 = (let e = c.if-level-ne1.false in omega arith) in
    no_damage (before g t at) (v c.even_out.new.pages) c.args.level c.args.page low high (pair g t at) c.in-Err-even_out.fault
    (even_kept_fine Unit (after g t at) less (v c.even_out.new.pages).page (c.args.level - 1) c.args.page low high c.in-Ok.way.place (pair g t at) c.in-Err-even_out.fault one
    (kept g t at less (Ok c.in-Ok-Kept.field-0) low high told head lo hi lies chain (ap (λ (r : Grown). Ok r) c.in-Ok-Kept.field-0-is) c.in-Ok-Kept.ensures.puts)
    (subst (λ (m : ℕ → List ℕ). c.in-Ok.way.place < count_of (m c.args.page)) (sym r.same.pages) (c.in-Ok.ensures.place told)) (c.in-Err-even_out.ensures.names again))

pub returns-in-Ok-Same-clause-puts : goal.returns-in-Ok-Same-clause-puts
returns-in-Ok-Same-clause-puts g t c told low high head lo hi lies chain =
    let v = g.P.Pages.view in
    let at = (goal.at.returns-in-Ok-Same-clause-puts g t c).In-Ok in
    let less = v c.put_below.new.pages in
    let s = step g t at less (Ok c.in-Ok-Same.field-0) (Ok Same) low high told head lo hi lies chain (ap (λ (r : Grown). Ok r) c.in-Ok-Same.field-0-is) c.in-Ok-Same.ensures.puts in
    over g t at less (Ok Same) low high told
    (s.put.0, same_answered (after g t at) (c.args.level - 1) c.args.page low high (key_of c.args.key.now) c.in-Ok.way.place c.in-Ok.way.child (pair g t at) s.way refl s.put.1, s.put.2)

pub returns-in-Err-put_below-clause-puts : goal.returns-in-Err-put_below-clause-puts
returns-in-Err-put_below-clause-puts g t c told low high head lo hi lies chain =
    let v = g.P.Pages.view in
    let at = (goal.at.returns-in-Err-put_below-clause-puts g t c).In-Ok in
    let less = v c.put_below.new.pages in
    let r = read g t at told in
    let fault : Result Grown PageFault = Err c.in-Err-put_below.fault in
    let s = step g t at less fault fault low high told head lo hi lies chain refl c.in-Err-put_below.ensures.puts in
    damage_up (before g t at) (after g t at) less c.args.level (c.args.level - 1) c.args.page c.in-Ok.way.child low high s.way.way.at (next_key high s.way.way.ys) (pair g t at) c.in-Err-put_below.fault r.next r.same s.put

pub returns-in-Err-put_below-clause-names : goal.returns-in-Err-put_below-clause-names
returns-in-Err-put_below-clause-names g t c told =
    let v = g.P.Pages.view in
    let at = (goal.at.returns-in-Err-put_below-clause-names g t c).In-Ok in
    let r = read g t at told in
    let result : Result Grown PageFault = Err c.in-Err-put_below.fault in
    put_up (before g t at) (after g t at) (v c.put_below.new.pages) c.args.level (c.args.level - 1) c.args.page c.in-Ok.way.child result r.next r.same (c.in-Ok.ensures.child told) (c.in-Err-put_below.ensures.names r.still)

pub returns-in-Ok-Split-clause-names : goal.returns-in-Ok-Split-clause-names
returns-in-Ok-Split-clause-names g t c told =
    let v = g.P.Pages.view in
    let at = (goal.at.returns-in-Ok-Split-clause-names g t c).In-Ok in
    let r = read g t at told in
    let less = v c.put_below.new.pages in
    let again : IsTrue less.is_told = subst IsTrue (sym c.put_below.ensures.counts.told) r.still in
    put_split (before g t at) (after g t at) less (v c.add_entry.new.pages) c.args.level (c.args.level - 1) c.args.page (c.in-Ok.way.place + 1) c.add_entry.result r.next r.same
    (c.in-Ok-Split.ensures.along r.still) (let b = c.in-Ok.ensures.place told in omega arith) (c.add_entry.ensures.names again)

pub returns-in-Err-even_out-clause-names : goal.returns-in-Err-even_out-clause-names
returns-in-Err-even_out-clause-names g t c told =
    let v = g.P.Pages.view in
    let at = (goal.at.returns-in-Err-even_out-clause-names g t c).In-Ok in
    let r = read g t at told in
    let less = v c.put_below.new.pages in
    let again : IsTrue less.is_told = subst IsTrue (sym c.put_below.ensures.counts.told) r.still in
    let old = (before g t at).page in
    let last = v c.even_out.new.pages in
    let next : c.args.level ≡ suc 0 = (let e = c.if-level-ne1.false in omega arith) in
    let result : Result Unit PageFault = Err c.in-Err-even_out.fault in
    let answer : Result Grown PageFault = Err c.in-Err-even_out.fault in
    put_since (before g t at) last c.args.level c.args.page answer
    (since_failed Unit Grown old last.page c.args.level c.args.page c.in-Err-even_out.fault
    (mend_since old less.page last.page c.args.level 0 c.args.page c.in-Ok.way.place Leaf result next refl (c.in-Ok.ensures.place told)
    (leaf_named c.args.page c.in-Ok.way.place less.page last.page result (c.in-Err-even_out.ensures.names again))))

pub returns-in-Err-clause-names : goal.returns-in-Err-clause-names
returns-in-Err-clause-names g t c told =
    let v = g.P.Pages.view in
    let old = v c.args.pages.now in
    let new = v c.read_way.new.pages in
    let some = c.if-level-eq0.false in
    let next : suc (c.args.level - 1) ≡ c.args.level = omega arith in
    let result : Result Grown PageFault = Err c.in-Err.fault in
    put_since old new c.args.level c.args.page result
    (since_of old.page new.page c.args.level c.args.page result
    (names_failed Way Grown old.page c.args.level c.args.page c.in-Err.fault
    (subst (λ (l : ℕ). Names {T = Way} old.page l c.args.page (Err c.in-Err.fault)) next (c.in-Err.ensures.names told (c.args.level - 1)))))

pub returns-then-level-eq0-clause-along : goal.returns-then-level-eq0-clause-along
returns-then-level-eq0-clause-along g t c = ok_map _ _ c.put_leaf.result (λ along told.
    let v = g.P.Pages.view in
    let is = c.if-level-eq0.true in
    along_more 1 (c.args.level + 1) (v c.args.pages.now) (v c.put_leaf.new.pages) (omega arith) (along told))
    c.put_leaf.ensures.along

pub returns-then-level-eq0-clause-down : goal.returns-then-level-eq0-clause-down
returns-then-level-eq0-clause-down g t c = ok_map _ _ c.put_leaf.result (λ own told. down_none (g.P.Pages.view c.args.pages.now).page c.args.page (own told) c.args.level c.if-level-eq0.true) c.put_leaf.ensures.own

pub returns-in-Ok-Split-clause-along : goal.returns-in-Ok-Split-clause-along
returns-in-Ok-Split-clause-along g t c = ok_map _ _ c.add_entry.result (λ more told.
    let v = g.P.Pages.view in
    let less = v c.put_below.new.pages in
    along g t (goal.at.returns-in-Ok-Split-clause-along g t c).In-Ok less (v c.add_entry.new.pages) 1 (omega arith) told c.in-Ok-Split.ensures.along
    (more (subst IsTrue (sym c.put_below.ensures.counts.told) (read g t (goal.at.returns-in-Ok-Split-clause-along g t c).In-Ok told).still)))
    c.add_entry.ensures.along

pub returns-in-Ok-Split-clause-down : goal.returns-in-Ok-Split-clause-down
returns-in-Ok-Split-clause-down g t c = ok_of _ c.add_entry.result (λ told. down g t (goal.at.returns-in-Ok-Split-clause-down g t c).In-Ok told c.in-Ok-Split.ensures.down)

pub returns-then-level-ne1-clause-along : goal.returns-then-level-ne1-clause-along
returns-then-level-ne1-clause-along g t c told = let less = g.P.Pages.view c.put_below.new.pages in along g t (goal.at.returns-then-level-ne1-clause-along g t c).In-Ok less less 0 (omega arith) told c.in-Ok-Kept.ensures.along (stay less)

pub returns-then-level-ne1-clause-down : goal.returns-then-level-ne1-clause-down
returns-then-level-ne1-clause-down g t c told = down g t (goal.at.returns-then-level-ne1-clause-down g t c).In-Ok told c.in-Ok-Kept.ensures.down

pub returns-in-Ok-even_out-clause-along : goal.returns-in-Ok-even_out-clause-along
returns-in-Ok-even_out-clause-along g t c told =
    let v = g.P.Pages.view in
    along g t (goal.at.returns-in-Ok-even_out-clause-along g t c).In-Ok (v c.put_below.new.pages) (v c.even_out.new.pages) 0 (omega arith) told c.in-Ok-Kept.ensures.along
    (c.in-Ok-even_out.ensures.along (subst IsTrue (sym c.put_below.ensures.counts.told) (read g t (goal.at.returns-in-Ok-even_out-clause-along g t c).In-Ok told).still))

pub returns-in-Ok-even_out-clause-down : goal.returns-in-Ok-even_out-clause-down
returns-in-Ok-even_out-clause-down g t c told = down g t (goal.at.returns-in-Ok-even_out-clause-down g t c).In-Ok told c.in-Ok-Kept.ensures.down

pub returns-in-Ok-Same-clause-along : goal.returns-in-Ok-Same-clause-along
returns-in-Ok-Same-clause-along g t c told = let less = g.P.Pages.view c.put_below.new.pages in along g t (goal.at.returns-in-Ok-Same-clause-along g t c).In-Ok less less 0 (omega arith) told c.in-Ok-Same.ensures.along (stay less)

pub returns-in-Ok-Same-clause-down : goal.returns-in-Ok-Same-clause-down
returns-in-Ok-Same-clause-down g t c told = down g t (goal.at.returns-in-Ok-Same-clause-down g t c).In-Ok told c.in-Ok-Same.ensures.down
