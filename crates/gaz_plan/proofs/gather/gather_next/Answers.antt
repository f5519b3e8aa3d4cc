use Rattle.std.proofs.Common.{◌≡◌, List, [], length, take, refl, sym, ap, subst, arith}
use Rattle.gaz_leaf.specs.Node.{Pair, key_of}
use Rattle.gaz_scan.specs.Scan.{Comes}
use Rattle.gaz_rows.proofs.Looked.{none_left, failed_soundly}
use Rattle.gaz_rows.proofs.SteppedOver.{stands_same}
use Rattle.gaz_kin.specs.Leading.{only_on, told_on}
use Rattle.gaz_plan.proofs.Gathering.{first_most}
use Rattle.gaz_plan.proofs.Going.{searched, sound_undamaged}
use Rattle.gaz_plan.proofs.gather.gather_next.Goals as goal

pub returns-in-Ok-None-clause-more : goal.returns-in-Ok-None-clause-more
returns-in-Ok-None-clause-more g c told gaz stands left comes are led =
    let v = g.P.Pages.view in (
      none_left (v c.args.store.now.pages).page (v c.next.new.self.pages).page c.next.new.scan left (rw c.in-Ok-None.field-0-is at (c.in-Ok-None.ensures.gives told left comes)),
      refl,
      refl,
    )

pub returns-in-Err-clause-damaged : goal.returns-in-Err-clause-damaged
returns-in-Err-clause-damaged g c told gaz stands left comes are =
    let v = g.P.Pages.view in
    sound_undamaged c.in-Err.fault (failed_soundly (v c.args.store.now.pages).page (v c.next.new.self.pages).page c.next.new.scan left c.in-Err.fault (c.in-Err.ensures.gives told left comes))

pub returns-in-Ok-clause-more : goal.returns-in-Ok-clause-more
returns-in-Ok-clause-more g c told gaz stands left comes are led =
    let v = g.P.Pages.view in
    let v0 = v c.args.store.now.pages in
    let v1 = v c.next.new.self.pages in
    let asked1 = searched _ v0 v1 _ c.in-Ok-Some.ensures.asked in
    let told1 = told_on v0 v1 _ asked1 told in
    let stands1 = stands_same [] gaz v0 v1 c.args.store.now.root c.next.new.self.root (c.in-Ok-Some.ensures.asked.same told) c.in-Ok-Some.ensures.root stands in
    let given = rw c.in-Ok-Some.field-0-is at (c.in-Ok-Some.ensures.gives told left comes) in
    let pair : Pair = record { key = key_of c.in-Ok-Some.found.0; value = c.in-Ok-Some.found.1 } in
    record {
      next = record { pair = pair; rest = given.rest; first = given.first; comes = subst (λ pages. Comes pages c.next.new.scan given.rest) (sym (c.in-Ok.ensures.asked.1.same told1).pages) given.comes };
      joins = c.in-Ok.ensures.joins told1 gaz stands1 led;
      room = λ few. c.in-Ok.ensures.free few told1 gaz stands1;
    }

pub returns-in-Ok-clause-asked : goal.returns-in-Ok-clause-asked
returns-in-Ok-clause-asked g c =
    let v = g.P.Pages.view in
    only_on (v c.args.store.now.pages) (v c.next.new.self.pages) (v c.gather_by.new.store.pages) tt _ (searched _ (v c.args.store.now.pages) (v c.next.new.self.pages) _ c.in-Ok-Some.ensures.asked) c.in-Ok.ensures.asked

pub returns-in-Err-gather_by-clause-damaged : goal.returns-in-Err-gather_by-clause-damaged
returns-in-Err-gather_by-clause-damaged g c told gaz stands left comes are =
    let v = g.P.Pages.view in
    let v0 = v c.args.store.now.pages in
    let v1 = v c.next.new.self.pages in
    let asked1 = searched _ v0 v1 _ c.in-Ok-Some.ensures.asked in
    let told1 = told_on v0 v1 _ asked1 told in
    let stands1 = stands_same [] gaz v0 v1 c.args.store.now.root c.next.new.self.root (c.in-Ok-Some.ensures.asked.same told) c.in-Ok-Some.ensures.root stands in
    c.in-Err-gather_by.ensures.damaged told1 gaz stands1

pub returns-in-Err-gather_by-clause-asked : goal.returns-in-Err-gather_by-clause-asked
returns-in-Err-gather_by-clause-asked g c =
    let v = g.P.Pages.view in
    only_on (v c.args.store.now.pages) (v c.next.new.self.pages) (v c.gather_by.new.store.pages) tt _ (searched _ (v c.args.store.now.pages) (v c.next.new.self.pages) _ c.in-Ok-Some.ensures.asked) c.in-Err-gather_by.ensures.asked

pub returns-in-Ok-None-clause-reads : goal.returns-in-Ok-None-clause-reads
returns-in-Ok-None-clause-reads g c told gaz stands left comes are =
    let shallow = comes.top.shallow in
    let read = c.in-Ok-None.ensures.asked.counts.reads in
    omega (arith, shallow, read)

pub returns-in-Ok-None-clause-unread : goal.returns-in-Ok-None-clause-unread
returns-in-Ok-None-clause-unread g c told gaz stands left comes are few =
    let shallow = comes.top.shallow in
    let read = c.in-Ok-None.ensures.asked.counts.reads in
    omega (arith, shallow, read)

pub returns-in-Err-clause-reads : goal.returns-in-Err-clause-reads
returns-in-Err-clause-reads g c told gaz stands left comes are =
    let shallow = comes.top.shallow in
    let read = c.in-Err.ensures.asked.counts.reads in
    omega (arith, shallow, read)

pub returns-in-Err-clause-unread : goal.returns-in-Err-clause-unread
returns-in-Err-clause-unread g c told gaz stands left comes are few =
    let shallow = comes.top.shallow in
    let read = c.in-Err.ensures.asked.counts.reads in
    omega (arith, shallow, read)

pub returns-in-Ok-clause-reads : goal.returns-in-Ok-clause-reads
returns-in-Ok-clause-reads g c told gaz stands left comes are =
    let v = g.P.Pages.view in
    let v0 = v c.args.store.now.pages in
    let v1 = v c.next.new.self.pages in
    let asked1 = searched _ v0 v1 _ c.in-Ok-Some.ensures.asked in
    let told1 = told_on v0 v1 _ asked1 told in
    let stands1 = stands_same [] gaz v0 v1 c.args.store.now.root c.next.new.self.root (c.in-Ok-Some.ensures.asked.same told) c.in-Ok-Some.ensures.root stands in
    let shallow = comes.top.shallow in
    let read = c.in-Ok-Some.ensures.asked.counts.reads in
    let more = c.in-Ok.ensures.reads told1 gaz stands1 in
    omega (arith, shallow, read, more)

pub returns-in-Err-gather_by-clause-reads : goal.returns-in-Err-gather_by-clause-reads
returns-in-Err-gather_by-clause-reads g c told gaz stands left comes are =
    let v = g.P.Pages.view in
    let v0 = v c.args.store.now.pages in
    let v1 = v c.next.new.self.pages in
    let asked1 = searched _ v0 v1 _ c.in-Ok-Some.ensures.asked in
    let told1 = told_on v0 v1 _ asked1 told in
    let stands1 = stands_same [] gaz v0 v1 c.args.store.now.root c.next.new.self.root (c.in-Ok-Some.ensures.asked.same told) c.in-Ok-Some.ensures.root stands in
    let shallow = comes.top.shallow in
    let read = c.in-Ok-Some.ensures.asked.counts.reads in
    let more = c.in-Err-gather_by.ensures.reads told1 gaz stands1 in
    omega (arith, shallow, read, more)

pub returns-in-Ok-clause-unread : goal.returns-in-Ok-clause-unread
returns-in-Ok-clause-unread g c told gaz stands left comes are few =
    let given = rw c.in-Ok-Some.field-0-is at (c.in-Ok-Some.ensures.gives told left comes) in
    let shallow = comes.top.shallow in
    let low = stands.tree.shallow in
    let same = ap (λ root. root.height) c.in-Ok-Some.ensures.root in
    let read = c.in-Ok-Some.ensures.asked.counts.reads in
    let one : length (take 1 left) ≡ 1 = ap (λ (pairs : List Pair). length (take 1 pairs)) given.first in
    let most = first_most left (record { key = key_of c.in-Ok-Some.found.0; value = c.in-Ok-Some.found.1 }) given.rest given.first c.next.new.self.root.height (omega (arith, low, same)) in
    let more = c.in-Ok.ensures.unread (omega (arith, few, one)) in
    omega (arith, shallow, read, most, more)

pub returns-in-Err-gather_by-clause-unread : goal.returns-in-Err-gather_by-clause-unread
returns-in-Err-gather_by-clause-unread g c told gaz stands left comes are few =
    let given = rw c.in-Ok-Some.field-0-is at (c.in-Ok-Some.ensures.gives told left comes) in
    let shallow = comes.top.shallow in
    let low = stands.tree.shallow in
    let same = ap (λ root. root.height) c.in-Ok-Some.ensures.root in
    let read = c.in-Ok-Some.ensures.asked.counts.reads in
    let one : length (take 1 left) ≡ 1 = ap (λ (pairs : List Pair). length (take 1 pairs)) given.first in
    let most = first_most left (record { key = key_of c.in-Ok-Some.found.0; value = c.in-Ok-Some.found.1 }) given.rest given.first c.next.new.self.root.height (omega (arith, low, same)) in
    let more = c.in-Err-gather_by.ensures.unread (omega (arith, few, one)) in
    omega (arith, shallow, read, most, more)
