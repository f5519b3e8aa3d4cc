use Rattle.std.proofs.Common.{◌≡◌, ◌≤◌, ◌<◌, ◌-◌, ℕ, List, suc, sym, subst, arith}
use Rattle.std.specs.Prelude.{IsTrue, Result, Ok, Err}
use Rattle.gaz_leaf.specs.Node.{key_in}
use Rattle.gaz_tree.specs.declared.shrunk.Shrunk.{Shrunk}
use Rattle.gaz_tree.specs.declared.shrunk.Shrunk.TheVariants.{Absent, Fine, Low}
use Rattle.gaz_tree.specs.Tree.{next_key, IsHead, HasTwo, Reaches, children_of}
use Rattle.gaz_tree.specs.Remove.{Removes}
use Rattle.gaz_tree.proofs.Answered.{IsReadAt, IsStepOut, RemovesUnder, read_at, set_out, step_out, chain_same}
use Rattle.gaz_tree.proofs.Removes.{removes_over, fine_answered, low_result, absent_answered}
use Rattle.gaz_leaf.specs.Node.{count_of}
use Rattle.gaz_page.specs.declared.pages.PageFault.{PageFault}
use Rattle.gaz_tree.specs.declared.way.Way.{Way}
use Rattle.gaz_tree.specs.Calls.{LeadsDown, Names, NamesSince}
use Rattle.gaz_tree.proofs.Named.{names_failed, since_of, since_below, mend_since, two_of_filled, way_fine}
use Rattle.gaz_tree.proofs.Ready.{mended_fine}
use Rattle.gaz_tree.proofs.Removes.{ok_map, ok_of}
use Rattle.gaz_tree.proofs.Down.{down_step, down_none}
use Rattle.gaz_page.specs.Pages.{PagesView}
use Rattle.gaz_tree.specs.Put.{HasChain, IsTaken}
use Rattle.gaz_tree.proofs.remove.+remove_below.Given.{Over}
use Rattle.gaz_tree.proofs.remove.+remove_below.Goals.{In-Ok}
use Rattle.gaz_tree.proofs.remove.+remove_below.Goals as goal

-- the pages before, and once the way was read
abbrev before : (g : Over) (t : ℕ) → In-Ok g t → PagesView
before g t c = g.P.Pages.view c.args.pages.now

abbrev after : (g : Over) (t : ℕ) → In-Ok g t → PagesView
after g t c = g.P.Pages.view c.read_way.new.pages

-- what is known then
read : (g : Over) (t : ℕ) (c : In-Ok g t) → IsTrue (before g t c).is_told → IsReadAt (before g t c) (after g t c) c.args.level
read g t c told = read_at 1 (before g t c) (after g t c) c.args.level c.in-Ok.way c.in-Ok.ensures.reads c.if-level-eq0.false told

-- what the removal below its child came to
step : (g : Over) (t : ℕ) (c : In-Ok g t) (less : PagesView) (shrunk given : Shrunk) (low high : ℕ) → IsTrue (before g t c).is_told → IsHead (before g t c).page c.args.level c.args.page low high → low ≤ key_in c.args.key → key_in c.args.key < high
    → ((n : ℕ) → Reaches (before g t c).page c.args.level c.args.page n → IsTaken (before g t c).fresh n) → HasChain (before g t c) → shrunk ≡ given
    → (IsTrue (after g t c).is_told → RemovesUnder (after g t c) less (c.args.level - 1) c.in-Ok.way.child (key_in c.args.key) (Ok shrunk))
    → IsStepOut (after g t c) less (c.args.level - 1) c.args.page low high (key_in c.args.key) c.in-Ok.way given
step g t c less shrunk given low high told head lo hi lies chain is removes =
    let r = read g t c told in
    step_out (before g t c) (after g t c) less c.args.level (c.args.level - 1) c.args.page low high (key_in c.args.key) c.in-Ok.way shrunk given r.same r.next head lo hi lies chain (c.in-Ok.ensures.leads told) is (removes r.still)

-- over the read
over : (g : Over) (t : ℕ) (c : In-Ok g t) (last : PagesView) (result : Result Shrunk PageFault) (low high : ℕ) → IsTrue (before g t c).is_told
    → Removes (after g t c) last (suc (c.args.level - 1)) c.args.page low high (key_in c.args.key) result → Removes (before g t c) last c.args.level c.args.page low high (key_in c.args.key) result
over g t c last result low high told q =
    let r = read g t c told in
    subst (λ (l : ℕ). Removes (before g t c) last l c.args.page low high (key_in c.args.key) result) (sym r.next)
    (removes_over (before g t c) (after g t c) last (suc (c.args.level - 1)) c.args.page low high (key_in c.args.key) result r.same c.in-Ok.ensures.reads.unchanged q)

-- the page leads down where its child does
down : (g : Over) (t : ℕ) (c : In-Ok g t) → IsTrue (before g t c).is_told → (IsTrue (after g t c).is_told → LeadsDown (after g t c).page (λ leaf. Unit) (c.args.level - 1) c.in-Ok.way.child) → LeadsDown (before g t c).page (λ leaf. Unit) c.args.level c.args.page
down g t c told below =
    let r = read g t c told in
    down_step (λ m leaf. Unit) (before g t c).page (after g t c).page c.args.level (c.args.level - 1) c.args.page c.in-Ok.way.child r.next r.same.pages (c.in-Ok.ensures.own told) (c.in-Ok.ensures.child told) (below r.still)

pub returns-then-level-eq0-clause-removes : goal.returns-then-level-eq0-clause-removes
returns-then-level-eq0-clause-removes g t c told low high head lo hi lies chain =
    let v = g.P.Pages.view in
    let old = v c.args.pages.now in
    let is = c.if-level-eq0.true in
    subst (λ (l : ℕ). Removes old (v c.remove_leaf.new.pages) l c.args.page low high (key_in c.args.key) c.remove_leaf.result) (sym is)
    (c.remove_leaf.ensures.removes told low high (subst (λ (l : ℕ). IsHead old.page l c.args.page low high) is head) lo hi chain)

pub returns-then-level-eq0-clause-fine : goal.returns-then-level-eq0-clause-fine
returns-then-level-eq0-clause-fine g t c told low high head two lo hi lies chain =
    c.remove_leaf.ensures.fine told low high (subst (λ (l : ℕ). IsHead (g.P.Pages.view c.args.pages.now).page l c.args.page low high) c.if-level-eq0.true head)

pub returns-in-Err-clause-fine : goal.returns-in-Err-clause-fine
returns-in-Err-clause-fine g t c told low high head two lo hi lies chain =
    let old = g.P.Pages.view c.args.pages.now in
    let some = c.if-level-eq0.false in
    let next : c.args.level ≡ suc (c.args.level - 1) = omega arith in
    let h = subst (λ (l : ℕ). IsHead old.page l c.args.page low high) next head in
    way_fine (children_of old.page c.args.page) (key_in c.args.key) c.in-Err.fault (c.in-Err.ensures.leads told h.0 h.1)

pub returns-then-level-eq0-clause-names : goal.returns-then-level-eq0-clause-names
returns-then-level-eq0-clause-names g t c told =
    let v = g.P.Pages.view in
    subst (λ (l : ℕ). NamesSince (v c.args.pages.now).page (v c.remove_leaf.new.pages).page l c.args.page c.remove_leaf.result) (sym c.if-level-eq0.true) (c.remove_leaf.ensures.names told)

pub returns-in-Err-clause-names : goal.returns-in-Err-clause-names
returns-in-Err-clause-names g t c told =
    let v = g.P.Pages.view in
    let old = v c.args.pages.now in
    let some = c.if-level-eq0.false in
    let next : suc (c.args.level - 1) ≡ c.args.level = omega arith in
    let result : Result Shrunk PageFault = Err c.in-Err.fault in
    since_of old.page (v c.read_way.new.pages).page c.args.level c.args.page result
    (names_failed Way Shrunk old.page c.args.level c.args.page c.in-Err.fault
    (subst (λ (l : ℕ). Names {T = Way} old.page l c.args.page (Err c.in-Err.fault)) next (c.in-Err.ensures.names told (c.args.level - 1))))

pub returns-then-level-eq0-clause-down : goal.returns-then-level-eq0-clause-down
returns-then-level-eq0-clause-down g t c = ok_map _ _ c.remove_leaf.result (λ own told. down_none (g.P.Pages.view c.args.pages.now).page c.args.page (own told) c.args.level c.if-level-eq0.true) c.remove_leaf.ensures.own

pub returns-in-Ok-Low-clause-removes : goal.returns-in-Ok-Low-clause-removes
returns-in-Ok-Low-clause-removes g t c told low high head lo hi lies chain =
    let v = g.P.Pages.view in
    let at = (goal.at.returns-in-Ok-Low-clause-removes g t c).In-Ok in
    let r = read g t at told in
    let less = v c.remove_below.new.pages in
    let again : IsTrue less.is_told = subst IsTrue (sym c.remove_below.ensures.counts.told) r.still in
    let last = v c.mend.new.pages in
    let s = step g t at less c.in-Ok-Low.field-0 Low low high told head lo hi lies chain c.in-Ok-Low.field-0-is c.in-Ok-Low.ensures.removes in
    over g t at last c.mend.result low high told
    (low_result (after g t at) less last (c.args.level - 1) c.args.page low high (key_in c.args.key) c.in-Ok.way.place c.in-Ok.way.child c.kind_of.result less.is_told c.mend.result s.way c.kind_of.ensures s.removed again c.mend.ensures.mended)

pub returns-in-Ok-Fine-clause-removes : goal.returns-in-Ok-Fine-clause-removes
returns-in-Ok-Fine-clause-removes g t c told low high head lo hi lies chain =
    let v = g.P.Pages.view in
    let at = (goal.at.returns-in-Ok-Fine-clause-removes g t c).In-Ok in
    let less = v c.remove_below.new.pages in
    let s = step g t at less c.in-Ok-Fine.field-0 Fine low high told head lo hi lies chain c.in-Ok-Fine.field-0-is c.in-Ok-Fine.ensures.removes in
    over g t at less (Ok Fine) low high told
    (fine_answered (after g t at) less (c.args.level - 1) c.args.page low high (key_in c.args.key) c.in-Ok.way.place c.in-Ok.way.child s.way s.removed.0 s.removed.1)

pub returns-in-Ok-Absent-clause-removes : goal.returns-in-Ok-Absent-clause-removes
returns-in-Ok-Absent-clause-removes g t c told low high head lo hi lies chain =
    let v = g.P.Pages.view in
    let at = (goal.at.returns-in-Ok-Absent-clause-removes g t c).In-Ok in
    let less = v c.remove_below.new.pages in
    let s = step g t at less c.in-Ok-Absent.field-0 Absent low high told head lo hi lies chain c.in-Ok-Absent.field-0-is c.in-Ok-Absent.ensures.removes in
    over g t at less (Ok Absent) low high told
    (s.removed.0, absent_answered (after g t at) (c.args.level - 1) c.args.page low high (key_in c.args.key) c.in-Ok.way.place c.in-Ok.way.child s.way s.removed.1, s.removed.2)

pub returns-in-Err-remove_below-clause-fine : goal.returns-in-Err-remove_below-clause-fine
returns-in-Err-remove_below-clause-fine g t c told low high head two lo hi lies chain =
    let v = g.P.Pages.view in
    let at = (goal.at.returns-in-Err-remove_below-clause-fine g t c).In-Ok in
    let r = read g t at told in
    let mid = after g t at in
    let below = c.args.level - 1 in
    let set = set_out (before g t at) mid c.args.level below c.args.page low high (key_in c.args.key) c.in-Ok.way r.same r.next head lo hi lies (c.in-Ok.ensures.leads told) in
    let w = set.way.way in
    c.in-Err-remove_below.ensures.fine r.still w.at (next_key high w.ys) set.child.tree.1 (two_of_filled mid.page below c.in-Ok.way.child set.child.tree.0) w.start w.end set.child.lies (chain_same (before g t at) mid r.same chain)

pub returns-in-Ok-Low-clause-fine : goal.returns-in-Ok-Low-clause-fine
returns-in-Ok-Low-clause-fine g t c told low high head two lo hi lies chain =
    let v = g.P.Pages.view in
    let at = (goal.at.returns-in-Ok-Low-clause-fine g t c).In-Ok in
    let r = read g t at told in
    let less = v c.remove_below.new.pages in
    let again : IsTrue less.is_told = subst IsTrue (sym c.remove_below.ensures.counts.told) r.still in
    let s = step g t at less c.in-Ok-Low.field-0 Low low high told head lo hi lies chain c.in-Ok-Low.field-0-is c.in-Ok-Low.ensures.removes in
    let many : 2 ≤ count_of ((before g t at).page c.args.page) = subst (λ (l : ℕ). HasTwo (before g t at).page l c.args.page) r.next two in
    mended_fine (after g t at) less (v c.mend.new.pages) (c.args.level - 1) c.args.page low high (key_in c.args.key) c.in-Ok.way.place c.in-Ok.way.child c.kind_of.result c.mend.result s.way c.kind_of.ensures s.removed
    (subst (λ (m : ℕ → List ℕ). 2 ≤ count_of (m c.args.page)) (sym r.same.pages) many)
    (subst (λ (m : ℕ → List ℕ). c.in-Ok.way.place < count_of (m c.args.page)) (sym r.same.pages) (c.in-Ok.ensures.place told)) (c.mend.ensures.names again)

pub returns-in-Err-remove_below-clause-names : goal.returns-in-Err-remove_below-clause-names
returns-in-Err-remove_below-clause-names g t c told =
    let v = g.P.Pages.view in
    let at = (goal.at.returns-in-Err-remove_below-clause-names g t c).In-Ok in
    let r = read g t at told in
    let result : Result Shrunk PageFault = Err c.in-Err-remove_below.fault in
    since_below (before g t at).page (after g t at).page (v c.remove_below.new.pages).page c.args.level (c.args.level - 1) c.args.page c.in-Ok.way.child result r.next r.same.pages
    (c.in-Ok.ensures.child told) (c.in-Err-remove_below.ensures.names r.still)

pub returns-in-Ok-Low-clause-names : goal.returns-in-Ok-Low-clause-names
returns-in-Ok-Low-clause-names g t c told =
    let v = g.P.Pages.view in
    let at = (goal.at.returns-in-Ok-Low-clause-names g t c).In-Ok in
    let r = read g t at told in
    let less = v c.remove_below.new.pages in
    let again : IsTrue less.is_told = subst IsTrue (sym c.remove_below.ensures.counts.told) r.still in
    mend_since (before g t at).page less.page (v c.mend.new.pages).page c.args.level (c.args.level - 1) c.args.page c.in-Ok.way.place c.kind_of.result c.mend.result r.next c.kind_of.ensures
    (c.in-Ok.ensures.place told) (c.mend.ensures.names again)

pub returns-in-Ok-Low-clause-down : goal.returns-in-Ok-Low-clause-down
returns-in-Ok-Low-clause-down g t c = ok_of _ c.mend.result (λ told. down g t (goal.at.returns-in-Ok-Low-clause-down g t c).In-Ok told c.in-Ok-Low.ensures.down)

pub returns-in-Ok-Fine-clause-down : goal.returns-in-Ok-Fine-clause-down
returns-in-Ok-Fine-clause-down g t c told = down g t (goal.at.returns-in-Ok-Fine-clause-down g t c).In-Ok told c.in-Ok-Fine.ensures.down

pub returns-in-Ok-Absent-clause-down : goal.returns-in-Ok-Absent-clause-down
returns-in-Ok-Absent-clause-down g t c told = down g t (goal.at.returns-in-Ok-Absent-clause-down g t c).In-Ok told c.in-Ok-Absent.ensures.down
