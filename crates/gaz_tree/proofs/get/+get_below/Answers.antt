use Rattle.std.proofs.Common.{◌≡◌, ◌-◌, suc, sym, subst, arith}
use Rattle.std.specs.Prelude.{IsTrue, Err}
use Rattle.gaz_leaf.specs.Node.{key_in}
use Rattle.std.specs.Prelude.{Option, ℕ}
use Rattle.gaz_tree.specs.declared.way.Way.{Way}
use Rattle.gaz_tree.specs.Calls.{Names}
use Rattle.gaz_tree.proofs.Gets.{steps_down, got_over}
use Rattle.gaz_tree.proofs.Named.{names_below, names_failed}
use Rattle.gaz_tree.proofs.Down.{found_down, found_leaf}
use Rattle.gaz_tree.proofs.get.+get_below.Goals as goal

pub returns-in-Ok-clause-got : goal.returns-in-Ok-clause-got
returns-in-Ok-clause-got g t c told low high head lo hi =
    let v = g.P.Pages.view in
    let old = v c.args.pages.now in
    let reads = c.in-Ok.ensures.reads in
    let still : IsTrue (v c.read_way.new.pages).is_told = subst IsTrue (sym reads.counts.told) told in
    let some = c.if-level-eq0.false in
    let next : c.args.level ≡ suc (c.args.level - 1) = omega arith in
    got_over old.page (v c.read_way.new.pages).page c.args.level (c.args.level - 1) c.args.page c.in-Ok.way.child (key_in c.args.key) c.get_below.result
    (reads.same (λ failed. failed) told).pages
    (steps_down old.page c.args.level (c.args.level - 1) c.args.page (key_in c.args.key) low high c.in-Ok.way next head lo hi (c.in-Ok.ensures.leads told))
    (c.get_below.ensures.got still)

pub returns-then-level-eq0-clause-names : goal.returns-then-level-eq0-clause-names
returns-then-level-eq0-clause-names g t c told =
    let is = c.if-level-eq0.true in
    subst (λ (l : ℕ). Names (g.P.Pages.view c.args.pages.now).page l c.args.page c.read_value.result) (sym is) (c.read_value.ensures.names told)

pub returns-in-Ok-clause-names : goal.returns-in-Ok-clause-names
returns-in-Ok-clause-names g t c told =
    let v = g.P.Pages.view in
    let reads = c.in-Ok.ensures.reads in
    let still : IsTrue (v c.read_way.new.pages).is_told = subst IsTrue (sym reads.counts.told) told in
    let some = c.if-level-eq0.false in
    let next : c.args.level ≡ suc (c.args.level - 1) = omega arith in
    names_below (v c.args.pages.now).page (v c.read_way.new.pages).page c.args.level (c.args.level - 1) c.args.page c.in-Ok.way.child c.get_below.result next
    (reads.same (λ failed. failed) told).pages (c.in-Ok.ensures.child told) (c.get_below.ensures.names still)

pub returns-in-Err-clause-names : goal.returns-in-Err-clause-names
returns-in-Err-clause-names g t c told =
    let some = c.if-level-eq0.false in
    let next : suc (c.args.level - 1) ≡ c.args.level = omega arith in
    names_failed Way (Option ℕ) (g.P.Pages.view c.args.pages.now).page c.args.level c.args.page c.in-Err.fault
    (subst (λ (l : ℕ). Names {T = Way} (g.P.Pages.view c.args.pages.now).page l c.args.page (Err c.in-Err.fault)) next (c.in-Err.ensures.names told (c.args.level - 1)))

pub returns-then-level-eq0-clause-down : goal.returns-then-level-eq0-clause-down
returns-then-level-eq0-clause-down g t c =
    found_leaf (g.P.Pages.view c.args.pages.now) (key_in c.args.key) c.args.level c.args.page c.read_value.result c.if-level-eq0.true c.read_value.ensures.own c.read_value.ensures.there

pub returns-in-Ok-clause-down : goal.returns-in-Ok-clause-down
returns-in-Ok-clause-down g t c =
    let v = g.P.Pages.view in
    let reads = c.in-Ok.ensures.reads in
    let some = c.if-level-eq0.false in
    let next : c.args.level ≡ suc (c.args.level - 1) = omega arith in
    found_down (v c.args.pages.now) (v c.read_way.new.pages) (key_in c.args.key) c.args.level (c.args.level - 1) c.args.page c.in-Ok.way.child c.get_below.result next
    (λ told. (reads.same (λ failed. failed) told).pages) reads.counts.told c.in-Ok.ensures.own c.in-Ok.ensures.child c.get_below.ensures.down
