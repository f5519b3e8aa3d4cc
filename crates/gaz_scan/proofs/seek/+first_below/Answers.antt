use Rattle.std.proofs.Common.{◌≡◌, ℕ, ◌-◌, suc, sym, subst, arith}
use Rattle.std.specs.Prelude.{IsTrue, Err}
use Rattle.gaz_scan.specs.Seek.{NamesUnder}
use Rattle.gaz_scan.proofs.Finds.{first_answered}
use Rattle.gaz_scan.proofs.Places.{under_child, under_failed}
use Rattle.gaz_tree.proofs.Removes.{ok_map}
use Rattle.gaz_tree.proofs.Down.{down_step}
use Rattle.gaz_scan.proofs.Downs.{leaf_all}
use Rattle.gaz_scan.proofs.seek.+first_below.Goals as goal

pub returns-in-Ok-clause-first : goal.returns-in-Ok-clause-first
returns-in-Ok-clause-first g t c told low high tree =
    let v = g.P.Pages.view in
    let old = v c.args.pages.now in
    let reads = c.in-Ok.ensures.reads in
    let still : IsTrue (v c.read_first.new.pages).is_told = subst IsTrue (sym reads.counts.told) told in
    let some = c.if-level-eq0.false in
    let next : c.args.level ≡ suc (c.args.level - 1) = omega arith in
    first_answered old.page (v c.read_first.new.pages).page c.args.level (c.args.level - 1) c.args.page low high c.in-Ok.child c.first_below.result c.first_below.new.copied
    next (reads.same (λ failed. failed) told).pages tree (c.in-Ok.ensures.first told) (c.first_below.ensures.first still)

pub returns-then-level-eq0-clause-names : goal.returns-then-level-eq0-clause-names
returns-then-level-eq0-clause-names g t c told most lt =
    let is = c.if-level-eq0.true in
    subst (λ (l : ℕ). NamesUnder (g.P.Pages.view c.args.pages.now).page most l c.args.page c.copy_all.result) (sym is) (c.copy_all.ensures.names told most (omega arith))

pub returns-in-Ok-clause-names : goal.returns-in-Ok-clause-names
returns-in-Ok-clause-names g t c told most lt =
    let v = g.P.Pages.view in
    let reads = c.in-Ok.ensures.reads in
    let still : IsTrue (v c.read_first.new.pages).is_told = subst IsTrue (sym reads.counts.told) told in
    let some = c.if-level-eq0.false in
    let next : c.args.level ≡ suc (c.args.level - 1) = omega arith in
    under_child (v c.args.pages.now).page (v c.read_first.new.pages).page most c.args.level (c.args.level - 1) c.args.page c.in-Ok.child c.first_below.result next
    (reads.same (λ failed. failed) told).pages (c.in-Ok.ensures.child told) (c.first_below.ensures.names still most (omega arith))

pub returns-in-Err-clause-names : goal.returns-in-Err-clause-names
returns-in-Err-clause-names g t c told most lt =
    let some = c.if-level-eq0.false in
    let next : suc (c.args.level - 1) ≡ c.args.level = omega arith in
    under_failed ℕ Unit (g.P.Pages.view c.args.pages.now).page most c.args.level c.args.page c.in-Err.fault
    (subst (λ (l : ℕ). NamesUnder {T = ℕ} (g.P.Pages.view c.args.pages.now).page most l c.args.page (Err c.in-Err.fault)) next (c.in-Err.ensures.names told most (c.args.level - 1) (omega arith)))

pub returns-then-level-eq0-clause-down : goal.returns-then-level-eq0-clause-down
returns-then-level-eq0-clause-down g t c =
    let v = g.P.Pages.view c.args.pages.now in
    leaf_all (IsTrue v.is_told) v.page c.args.level c.args.page c.copy_all.new.copied.bytes c.copy_all.result c.if-level-eq0.true c.copy_all.ensures.own c.copy_all.ensures.shows

pub returns-in-Ok-clause-down : goal.returns-in-Ok-clause-down
returns-in-Ok-clause-down g t c = ok_map _ _ c.first_below.result (λ down told.
    let v = g.P.Pages.view in
    let reads = c.in-Ok.ensures.reads in
    let still : IsTrue (v c.read_first.new.pages).is_told = subst IsTrue (sym reads.counts.told) told in
    let some = c.if-level-eq0.false in
    let next : c.args.level ≡ suc (c.args.level - 1) = omega arith in
    down_step (λ m leaf. c.first_below.new.copied.bytes ≡ m leaf) (v c.args.pages.now).page (v c.read_first.new.pages).page c.args.level (c.args.level - 1) c.args.page c.in-Ok.child next
    (reads.same (λ failed. failed) told).pages (c.in-Ok.ensures.own told) (c.in-Ok.ensures.child told) (down still))
    c.first_below.ensures.down
