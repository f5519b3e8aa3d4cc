use Rattle.std.proofs.Common.{[], take, sym, subst}
use Rattle.std.specs.Prelude.{Contains}
use Rattle.gaz_leaf.specs.Node.{Pair, key_of}
use Rattle.gaz_scan.specs.Scan.{Comes}
use Rattle.gaz_rows.proofs.Looked.{none_left, failed_soundly}
use Rattle.gaz_rows.proofs.Members.{head_is_in}
use Rattle.gaz_rows.proofs.RoomPairs.{bytes_of}
use Rattle.gaz_kin.specs.Leading.{one_asked, only_on, only_ok, only_err, told_on}
use Rattle.gaz_rows.proofs.SteppedOver.{stands_same}
use Rattle.gaz_kin.proofs.Countries.{is_place, country_at}
use Rattle.gaz_kin.proofs.below.look_named.Goals as goal

pub returns-in-Ok-None-clause-looks : goal.returns-in-Ok-None-clause-looks
returns-in-Ok-None-clause-looks g c told gaz stands left comes are =
    let v = g.P.Pages.view in
    none_left (v c.args.store.now.pages).page (v c.next.new.self.pages).page c.next.new.scan left (rw c.in-Ok-None.field-0-is at (c.in-Ok-None.ensures.gives told left comes))

pub returns-in-Err-clause-looks : goal.returns-in-Err-clause-looks
returns-in-Err-clause-looks g c told gaz stands left comes are =
    let v = g.P.Pages.view in
    failed_soundly (v c.args.store.now.pages).page (v c.next.new.self.pages).page c.next.new.scan left c.in-Err.fault (c.in-Err.ensures.gives told left comes)

pub returns-in-Some-clause-looks : goal.returns-in-Some-clause-looks
returns-in-Some-clause-looks g c told gaz stands left comes are =
    let v = g.P.Pages.view in
    let v0 = v c.args.store.now.pages in
    let v1 = v c.next.new.self.pages in
    let asked1 = one_asked _ v0 v1 _ c.in-Ok-Some.ensures.asked in
    let told1 = told_on v0 v1 _ asked1 told in
    let stands1 = stands_same [] gaz v0 v1 c.args.store.now.root c.next.new.self.root (c.in-Ok-Some.ensures.asked.same told) c.in-Ok-Some.ensures.root stands in
    let given = rw c.in-Ok-Some.field-0-is at (c.in-Ok-Some.ensures.gives told left comes) in
    let n = key_of c.in-Ok-Some.found.0 in
    let place = c.in-Ok-Some.found.1 in
    let pair : Pair = record { key = n; value = place } in
    let has = are pair (subst (λ pairs. Contains pairs pair) (sym given.first) (head_is_in pair given.rest)) in
    let is = is_place gaz v1 c.next.new.self.root stands1 n place has.0 has.1 in
    let line = take c.in-Ok.size c.line_at.new.buf in
    let country = country_at gaz v1 c.next.new.self.root stands1 n place line has.0 has.1 (c.in-Ok.ensures.line told1 [] gaz stands1 (bytes_of n) is) in
    record {
      pair = pair;
      rest = given.rest;
      first = given.first;
      comes = subst (λ pages. Comes pages c.next.new.scan given.rest) (sym (c.in-Ok.ensures.asked.same told1).pages) given.comes;
      line = line;
      there = country.there;
      at = country.at;
      has = c.in-Some.ensures;
    }

pub returns-in-None-clause-looks : goal.returns-in-None-clause-looks
returns-in-None-clause-looks g c told gaz stands left comes are =
    let v = g.P.Pages.view in
    let v0 = v c.args.store.now.pages in
    let v1 = v c.next.new.self.pages in
    let asked1 = one_asked _ v0 v1 _ c.in-Ok-Some.ensures.asked in
    let told1 = told_on v0 v1 _ asked1 told in
    let stands1 = stands_same [] gaz v0 v1 c.args.store.now.root c.next.new.self.root (c.in-Ok-Some.ensures.asked.same told) c.in-Ok-Some.ensures.root stands in
    let given = rw c.in-Ok-Some.field-0-is at (c.in-Ok-Some.ensures.gives told left comes) in
    let n = key_of c.in-Ok-Some.found.0 in
    let place = c.in-Ok-Some.found.1 in
    let pair : Pair = record { key = n; value = place } in
    let has = are pair (subst (λ pairs. Contains pairs pair) (sym given.first) (head_is_in pair given.rest)) in
    let is = is_place gaz v1 c.next.new.self.root stands1 n place has.0 has.1 in
    let line = take c.in-Ok.size c.line_at.new.buf in
    let country = country_at gaz v1 c.next.new.self.root stands1 n place line has.0 has.1 (c.in-Ok.ensures.line told1 [] gaz stands1 (bytes_of n) is) in
    record {
      pair = pair;
      rest = given.rest;
      first = given.first;
      comes = subst (λ pages. Comes pages c.next.new.scan given.rest) (sym (c.in-Ok.ensures.asked.same told1).pages) given.comes;
      line = line;
      there = country.there;
      at = country.at;
      has = c.in-None.ensures;
    }

pub returns-in-Err-line_at-clause-looks : goal.returns-in-Err-line_at-clause-looks
returns-in-Err-line_at-clause-looks g c told gaz stands left comes are =
    let v = g.P.Pages.view in
    let v0 = v c.args.store.now.pages in
    let v1 = v c.next.new.self.pages in
    let asked1 = one_asked _ v0 v1 _ c.in-Ok-Some.ensures.asked in
    let told1 = told_on v0 v1 _ asked1 told in
    let stands1 = stands_same [] gaz v0 v1 c.args.store.now.root c.next.new.self.root (c.in-Ok-Some.ensures.asked.same told) c.in-Ok-Some.ensures.root stands in
    let given = rw c.in-Ok-Some.field-0-is at (c.in-Ok-Some.ensures.gives told left comes) in
    let n = key_of c.in-Ok-Some.found.0 in
    let place = c.in-Ok-Some.found.1 in
    let pair : Pair = record { key = n; value = place } in
    let has = are pair (subst (λ pairs. Contains pairs pair) (sym given.first) (head_is_in pair given.rest)) in
    let is = is_place gaz v1 c.next.new.self.root stands1 n place has.0 has.1 in
    c.in-Err-line_at.ensures.damaged told1 [] gaz stands1 (bytes_of n) is

pub returns-in-Some-clause-asked : goal.returns-in-Some-clause-asked
returns-in-Some-clause-asked g c =
    let v = g.P.Pages.view in
    only_on (v c.args.store.now.pages) (v c.next.new.self.pages) (v c.line_at.new.self.pages) c.in-Ok-Some.field-0 _ (one_asked _ (v c.args.store.now.pages) (v c.next.new.self.pages) _ c.in-Ok-Some.ensures.asked)
    (only_ok (v c.next.new.self.pages) (v c.line_at.new.self.pages) c.in-Ok.size _ (one_asked _ (v c.next.new.self.pages) (v c.line_at.new.self.pages) _ c.in-Ok.ensures.asked))

pub returns-in-None-clause-asked : goal.returns-in-None-clause-asked
returns-in-None-clause-asked g c =
    let v = g.P.Pages.view in
    only_on (v c.args.store.now.pages) (v c.next.new.self.pages) (v c.line_at.new.self.pages) c.in-Ok-Some.field-0 _ (one_asked _ (v c.args.store.now.pages) (v c.next.new.self.pages) _ c.in-Ok-Some.ensures.asked)
    (only_ok (v c.next.new.self.pages) (v c.line_at.new.self.pages) c.in-Ok.size _ (one_asked _ (v c.next.new.self.pages) (v c.line_at.new.self.pages) _ c.in-Ok.ensures.asked))

pub returns-in-Err-line_at-clause-asked : goal.returns-in-Err-line_at-clause-asked
returns-in-Err-line_at-clause-asked g c =
    let v = g.P.Pages.view in
    only_on (v c.args.store.now.pages) (v c.next.new.self.pages) (v c.line_at.new.self.pages) c.in-Ok-Some.field-0 _ (one_asked _ (v c.args.store.now.pages) (v c.next.new.self.pages) _ c.in-Ok-Some.ensures.asked)
    (only_err (v c.next.new.self.pages) (v c.line_at.new.self.pages) c.in-Err-line_at.fault (one_asked _ (v c.next.new.self.pages) (v c.line_at.new.self.pages) _ c.in-Err-line_at.ensures.asked))
