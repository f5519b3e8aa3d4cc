use Rattle.std.proofs.Common.{[], refl, sym, ap, subst, arith}
use Rattle.std.specs.Prelude.{Contains}
use Rattle.gaz_leaf.specs.Node.{Pair, key_of}
use Rattle.gaz_scan.specs.Scan.{Comes}
use Rattle.gaz_rows.proofs.Looked.{none_left, failed_soundly}
use Rattle.gaz_rows.proofs.Members.{head_is_in}
use Rattle.gaz_rows.proofs.SteppedOver.{stands_same}
use Rattle.gaz_kin.specs.Leading.{only_on, told_on}
use Rattle.gaz_plan.proofs.Going.{searched, sound_undamaged}
use Rattle.gaz_plan.proofs.walk.offer_next.Goals as goal

pub returns-in-Ok-None-clause-more : goal.returns-in-Ok-None-clause-more
returns-in-Ok-None-clause-more g c told gaz stands left comes are =
    let v = g.P.Pages.view in (
      none_left (v c.args.store.now.pages).page (v c.next.new.self.pages).page c.next.new.scan left (rw c.in-Ok-None.field-0-is at (c.in-Ok-None.ensures.gives told left comes)),
      refl,
    )

pub returns-in-Err-clause-damaged : goal.returns-in-Err-clause-damaged
returns-in-Err-clause-damaged g c told gaz stands left comes are =
    let v = g.P.Pages.view in
    sound_undamaged c.in-Err.fault (failed_soundly (v c.args.store.now.pages).page (v c.next.new.self.pages).page c.next.new.scan left c.in-Err.fault (c.in-Err.ensures.gives told left comes))

pub returns-in-Ok-clause-more : goal.returns-in-Ok-clause-more
returns-in-Ok-clause-more g c told gaz stands left comes are =
    let v = g.P.Pages.view in
    let v0 = v c.args.store.now.pages in
    let v1 = v c.next.new.self.pages in
    let asked1 = searched _ v0 v1 _ c.in-Ok-Some.ensures.asked in
    let told1 = told_on v0 v1 _ asked1 told in
    let stands1 = stands_same [] gaz v0 v1 c.args.store.now.root c.next.new.self.root (c.in-Ok-Some.ensures.asked.same told) c.in-Ok-Some.ensures.root stands in
    let given = rw c.in-Ok-Some.field-0-is at (c.in-Ok-Some.ensures.gives told left comes) in
    let pair : Pair = record { key = key_of c.in-Ok-Some.found.0; value = c.in-Ok-Some.found.1 } in
    let has = subst (λ pairs. Contains pairs pair) (sym given.first) (head_is_in pair given.rest) in (
      record { pair = pair; rest = given.rest; first = given.first; comes = subst (λ pages. Comes pages c.next.new.scan given.rest) (sym (c.in-Ok.ensures.asked.1.same told1).pages) given.comes },
      c.in-Ok.ensures.more told1 gaz stands1 (are.found pair has) (are.tagged pair has),
    )

pub returns-in-Ok-clause-asked : goal.returns-in-Ok-clause-asked
returns-in-Ok-clause-asked g c =
    let v = g.P.Pages.view in
    only_on (v c.args.store.now.pages) (v c.next.new.self.pages) (v c.offer_for.new.store.pages) tt _ (searched _ (v c.args.store.now.pages) (v c.next.new.self.pages) _ c.in-Ok-Some.ensures.asked) c.in-Ok.ensures.asked

pub returns-in-Err-offer_for-clause-damaged : goal.returns-in-Err-offer_for-clause-damaged
returns-in-Err-offer_for-clause-damaged g c told gaz stands left comes are =
    let v = g.P.Pages.view in
    let v0 = v c.args.store.now.pages in
    let v1 = v c.next.new.self.pages in
    let asked1 = searched _ v0 v1 _ c.in-Ok-Some.ensures.asked in
    let told1 = told_on v0 v1 _ asked1 told in
    let stands1 = stands_same [] gaz v0 v1 c.args.store.now.root c.next.new.self.root (c.in-Ok-Some.ensures.asked.same told) c.in-Ok-Some.ensures.root stands in
    let given = rw c.in-Ok-Some.field-0-is at (c.in-Ok-Some.ensures.gives told left comes) in
    let pair : Pair = record { key = key_of c.in-Ok-Some.found.0; value = c.in-Ok-Some.found.1 } in
    let has = subst (λ pairs. Contains pairs pair) (sym given.first) (head_is_in pair given.rest) in
    c.in-Err-offer_for.ensures.damaged told1 gaz stands1 (are.found pair has) (are.tagged pair has)

pub returns-in-Err-offer_for-clause-asked : goal.returns-in-Err-offer_for-clause-asked
returns-in-Err-offer_for-clause-asked g c =
    let v = g.P.Pages.view in
    only_on (v c.args.store.now.pages) (v c.next.new.self.pages) (v c.offer_for.new.store.pages) tt _ (searched _ (v c.args.store.now.pages) (v c.next.new.self.pages) _ c.in-Ok-Some.ensures.asked) c.in-Err-offer_for.ensures.asked

pub returns-in-Ok-None-clause-reads : goal.returns-in-Ok-None-clause-reads
returns-in-Ok-None-clause-reads g c told gaz stands left comes are =
    let shallow = comes.top.shallow in
    let read = c.in-Ok-None.ensures.asked.counts.reads in
    omega (arith, shallow, read)

pub returns-in-Err-clause-reads : goal.returns-in-Err-clause-reads
returns-in-Err-clause-reads g c told gaz stands left comes are =
    let shallow = comes.top.shallow in
    let read = c.in-Err.ensures.asked.counts.reads in
    omega (arith, shallow, read)

pub returns-in-Ok-clause-reads : goal.returns-in-Ok-clause-reads
returns-in-Ok-clause-reads g c told gaz stands left comes are =
    let shallow = comes.top.shallow in
    let low = stands.tree.shallow in
    let same = ap (λ root. root.height) c.in-Ok-Some.ensures.root in
    let read = c.in-Ok-Some.ensures.asked.counts.reads in
    let more = c.in-Ok.ensures.reads in
    omega (arith, shallow, low, same, read, more)

pub returns-in-Err-offer_for-clause-reads : goal.returns-in-Err-offer_for-clause-reads
returns-in-Err-offer_for-clause-reads g c told gaz stands left comes are =
    let shallow = comes.top.shallow in
    let low = stands.tree.shallow in
    let same = ap (λ root. root.height) c.in-Ok-Some.ensures.root in
    let read = c.in-Ok-Some.ensures.asked.counts.reads in
    let more = c.in-Err-offer_for.ensures.reads in
    omega (arith, shallow, low, same, read, more)
