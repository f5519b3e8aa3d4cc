use Rattle.std.proofs.Common.{sym, subst, ℕ, List}
use Rattle.std.specs.Prelude.{IsTrue}
use Rattle.gaz_tree.specs.Remove.{NamesLeaf}
use Rattle.gaz_tree.proofs.Removes.{ok_map}
use Rattle.gaz_tree.proofs.Evened.{even_over}
use Rattle.gaz_page.proofs.Takes.{along_same}
use Rattle.gaz_tree.proofs.Along.{along_over}
use Rattle.std.proofs.Common.{refl}
use Rattle.gaz_tree.proofs.even.even_out.Goals as goal

pub returns-clause-evens : goal.returns-clause-evens
returns-clause-evens g c = ok_map _ _ c.even_before.result (λ evens told.
    let v = g.P.Pages.view in
    let reads = c.in-Ok-true.ensures.reads in
    let same = reads.same (λ failed. failed) told in
    let still : IsTrue (v c.is_full.new.pages).is_told = subst IsTrue (sym reads.counts.told) told in
    even_over (v c.args.pages.now) (v c.is_full.new.pages) (v c.even_before.new.pages) c.args.page c.args.way.place same (evens still))
    c.even_before.ensures.evens

pub returns-clause-names : goal.returns-clause-names
returns-clause-names g c told =
    let v = g.P.Pages.view in
    let reads = c.in-Ok-true.ensures.reads in
    let same = reads.same (λ failed. failed) told in
    let still : IsTrue (v c.is_full.new.pages).is_told = subst IsTrue (sym reads.counts.told) told in
    subst (λ (m : ℕ → List ℕ). NamesLeaf c.args.page c.args.way.place m (v c.even_before.new.pages).page c.even_before.result) same.pages (c.even_before.ensures.names still)

pub returns-then-way-eq0-clause-along : goal.returns-then-way-eq0-clause-along
returns-then-way-eq0-clause-along g c told = let v = g.P.Pages.view c.args.pages.now in along_same v v (record { pages = refl; free = refl; fresh = refl })

pub returns-in-Ok-false-clause-along : goal.returns-in-Ok-false-clause-along
returns-in-Ok-false-clause-along g c told =
    let v = g.P.Pages.view in
    along_same (v c.args.pages.now) (v c.is_full.new.pages) (c.in-Ok-false.ensures.reads.same (λ failed. failed) told)

pub returns-clause-along : goal.returns-clause-along
returns-clause-along g c = ok_map _ _ c.even_before.result (λ along told.
    let v = g.P.Pages.view in
    let reads = c.in-Ok-true.ensures.reads in
    let still : IsTrue (v c.is_full.new.pages).is_told = subst IsTrue (sym reads.counts.told) told in
    along_over 0 (v c.args.pages.now) (v c.is_full.new.pages) (v c.even_before.new.pages) (reads.same (λ failed. failed) told) (along still))
    c.even_before.ensures.along
