use Rattle.std.proofs.Common.{ℕ, List, sym, subst}
use Rattle.std.specs.Prelude.{IsTrue}
use Rattle.gaz_leaf.specs.Node.{Pair, pairs_in, key_of, IsForm}
use Rattle.gaz_tree.specs.Put.{inserted, Adds}
use Rattle.gaz_tree.proofs.Adds.{adds_over}
use Rattle.gaz_tree.proofs.Trading.{take_damage_over}
use Rattle.gaz_tree.proofs.PutNamed.{add_taken}
use Rattle.std.proofs.Common.{◌∙◌}
use Rattle.gaz_tree.proofs.Removes.{ok_map}
use Rattle.gaz_tree.proofs.Along.{along_over}
use Rattle.gaz_tree.proofs.add.add_entry.Goals as goal

pub returns-clause-adds : goal.returns-clause-adds
returns-clause-adds g c told form =
    let v = g.P.Pages.view in
    let reads = c.in-Ok.ensures.reads in
    let still : IsTrue (v c.load.new.pages).is_told = subst IsTrue (sym reads.counts.told) told in
    let bytes = c.in-Ok.ensures.bytes told in
    let new : Pair = record { key = key_of c.args.key.now; value = c.args.value } in
    let added = c.add_to.ensures.adds still (subst (IsForm c.args.kind c.args.page) (sym bytes) form) in
    adds_over c.args.kind c.args.page (inserted c.args.n new (pairs_in c.args.kind ((v c.args.pages.now).page c.args.page))) (v c.args.pages.now) (v c.load.new.pages) (v c.add_to.new.pages) c.add_to.result (reads.same (λ failed. failed) told)
    (subst (λ (l : List ℕ). Adds c.args.kind c.args.page (inserted c.args.n new (pairs_in c.args.kind l)) (v c.load.new.pages) (v c.add_to.new.pages) c.add_to.result) bytes added)

pub returns-clause-damaged : goal.returns-clause-damaged
returns-clause-damaged g c told form within =
    let v = g.P.Pages.view in
    let reads = c.in-Ok.ensures.reads in
    let still : IsTrue (v c.load.new.pages).is_told = subst IsTrue (sym reads.counts.told) told in
    take_damage_over (v c.args.pages.now) (v c.load.new.pages) c.add_to.result (reads.same (λ failed. failed) told) (c.add_to.ensures.damaged still)

pub returns-clause-names : goal.returns-clause-names
returns-clause-names g c told =
    let v = g.P.Pages.view in
    let reads = c.in-Ok.ensures.reads in
    let still : IsTrue (v c.load.new.pages).is_told = subst IsTrue (sym reads.counts.told) told in
    add_taken c.args.kind c.args.page c.args.n (v c.args.pages.now) (v c.load.new.pages) (v c.add_to.new.pages) c.add_to.result (reads.same (λ failed. failed) told) (c.add_to.ensures.damaged still)

pub returns-clause-along : goal.returns-clause-along
returns-clause-along g c = ok_map _ _ c.add_to.result (λ along told.
    let v = g.P.Pages.view in
    let reads = c.in-Ok.ensures.reads in
    let same = reads.same (λ failed. failed) told in
    let still : IsTrue (v c.load.new.pages).is_told = subst IsTrue (sym reads.counts.told) told in
    let bytes = c.in-Ok.ensures.bytes told in
    along_over 1 (v c.args.pages.now) (v c.load.new.pages) (v c.add_to.new.pages) same (along still (bytes ∙ (λ j. sym same.pages j c.args.page)) c.in-Ok.ensures.own.0))
    c.add_to.ensures.along
