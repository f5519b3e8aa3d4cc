use Rattle.std.proofs.Common.{[], ◌++◌, refl, sym, ap, subst, arith, ◌∙◌, append-nil}
use Rattle.std.specs.Prelude.{Option}
use Rattle.gaz_pick.specs.Asked.{asked}
use Rattle.gaz_leaf.specs.Node.{key_of}
use Rattle.gaz_rows.specs.Store.{IsUndamaged}
use Rattle.gaz_rows.proofs.SteppedOver.{stands_same}
use Rattle.gaz_kin.specs.Leading.{only_on, over_on, told_on}
use Rattle.gaz_kin.proofs.Answered.{if_err}
use Rattle.gaz_kin.proofs.Offered.{on_ok}
use Rattle.gaz_plan.specs.declared.gather.Candidate.{Candidate}
use Rattle.gaz_plan.specs.Gathered.{JoinsIf, is_alternate, listed}
use Rattle.gaz_plan.proofs.Gathering.{line_most}
use Rattle.gaz_plan.proofs.gather.gather_by.Goals as goal

pub returns-in-Ok-Some-clause-joins : goal.returns-in-Ok-Some-clause-joins
returns-in-Ok-Some-clause-joins g c =
    let v = g.P.Pages.view in
    let v0 = v c.args.store.now.pages in
    let v1 = v c.candidate_by.new.store.pages in
    let asked1 = c.in-Ok-Some.ensures.asked in
    on_ok _ _ c.gather.result (λ over told gaz stands led.
    let told1 = told_on v0 v1 _ asked1 told in
    let stands1 = stands_same [] gaz v0 v1 c.args.store.now.root c.candidate_by.new.store.root (asked1.1.same told) c.in-Ok-Some.ensures.root stands in
    subst (λ (found : Option Candidate). JoinsIf gaz (asked c.args.query.now) c.args.best.now.keep found c.args.candidates.now.items c.gather.new.candidates.items c.args.best.now.pairs c.gather.new.best.pairs)
    (rw c.in-Ok-Some.field-0-is at (c.in-Ok-Some.ensures.led told gaz stands)) (over told1 gaz stands1 led))
    c.gather.ensures.joins

pub returns-in-Ok-Some-clause-free : goal.returns-in-Ok-Some-clause-free
returns-in-Ok-Some-clause-free g c few =
    on_ok _ _ c.gather.result (λ is told gaz stands.
    is ∙ ap (λ (found : Option Candidate). c.args.candidates.now.items ++ listed found) (rw c.in-Ok-Some.field-0-is at (c.in-Ok-Some.ensures.led told gaz stands)))
    (c.gather.ensures.free few)

pub returns-in-Ok-Some-clause-damaged : goal.returns-in-Ok-Some-clause-damaged
returns-in-Ok-Some-clause-damaged g c =
    let v = g.P.Pages.view in
    let v0 = v c.args.store.now.pages in
    let v1 = v c.candidate_by.new.store.pages in
    if_err _ _ c.gather.result (λ fault over. over_on (λ gaz. IsUndamaged fault) v0 v1 c.args.store.now.root c.candidate_by.new.store.root tt c.in-Ok-Some.ensures.asked c.in-Ok-Some.ensures.root over) c.gather.ensures.damaged

pub returns-in-Ok-Some-clause-asked : goal.returns-in-Ok-Some-clause-asked
returns-in-Ok-Some-clause-asked g c =
    let v = g.P.Pages.view in
    only_on (v c.args.store.now.pages) (v c.candidate_by.new.store.pages) (v c.gather.new.store.pages) tt _ c.in-Ok-Some.ensures.asked c.gather.ensures.asked

pub returns-in-Ok-Some-clause-unread : goal.returns-in-Ok-Some-clause-unread
returns-in-Ok-Some-clause-unread g c few =
    let one = c.in-Ok-Some.ensures.reads in
    let more = c.gather.ensures.unread few in
    omega (arith, one, more)

pub returns-in-Ok-Some-clause-reads : goal.returns-in-Ok-Some-clause-reads
returns-in-Ok-Some-clause-reads g c told gaz stands =
    let v = g.P.Pages.view in
    let v0 = v c.args.store.now.pages in
    let v1 = v c.candidate_by.new.store.pages in
    let asked1 = c.in-Ok-Some.ensures.asked in
    let told1 = told_on v0 v1 _ asked1 told in
    let stands1 = stands_same [] gaz v0 v1 c.args.store.now.root c.candidate_by.new.store.root (asked1.1.same told) c.in-Ok-Some.ensures.root stands in
    let most = line_most (is_alternate (key_of c.args.key.now)) c.args.store.now.root.height stands.tree.shallow in
    let one = c.in-Ok-Some.ensures.reads in
    let more = c.gather.ensures.reads told1 gaz stands1 in
    omega (arith, most, one, more)

pub returns-in-Ok-None-clause-joins : goal.returns-in-Ok-None-clause-joins
returns-in-Ok-None-clause-joins g c told gaz stands led =
    subst (λ (found : Option Candidate). JoinsIf gaz (asked c.args.query.now) c.args.best.now.keep found c.args.candidates.now.items c.args.candidates.now.items c.args.best.now.pairs c.args.best.now.pairs)
    (rw c.in-Ok-None.field-0-is at (c.in-Ok-None.ensures.led told gaz stands)) (refl, refl)

pub returns-in-Ok-None-clause-free : goal.returns-in-Ok-None-clause-free
returns-in-Ok-None-clause-free g c few told gaz stands =
    sym (append-nil c.args.candidates.now.items)
    ∙ ap (λ (found : Option Candidate). c.args.candidates.now.items ++ listed found) (rw c.in-Ok-None.field-0-is at (c.in-Ok-None.ensures.led told gaz stands))

pub returns-in-Ok-None-clause-reads : goal.returns-in-Ok-None-clause-reads
returns-in-Ok-None-clause-reads g c told gaz stands =
    let most = line_most (is_alternate (key_of c.args.key.now)) c.args.store.now.root.height stands.tree.shallow in
    let one = c.in-Ok-None.ensures.reads in
    omega (arith, most, one)

pub returns-in-Err-clause-reads : goal.returns-in-Err-clause-reads
returns-in-Err-clause-reads g c told gaz stands =
    let most = line_most (is_alternate (key_of c.args.key.now)) c.args.store.now.root.height stands.tree.shallow in
    let one = c.in-Err.ensures.reads in
    omega (arith, most, one)
