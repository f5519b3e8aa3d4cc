use Rattle.std.proofs.Common.{ℕ, take, refl, arith, subst, inl}
use Rattle.std.specs.Prelude.{⊤, IfSome, Ok, Err}
use Rattle.std.proofs.lemmas.List.{take_all}
use Rattle.gaz_outside.specs.Outside.{files_of}
use Rattle.gaz_change.specs.Change.{AreOpen, AreThere, Opened}
use Rattle.gaz_change.proofs.Changing.{always}
use Rattle.gaz_change.proofs.Reading.{open_on, open_longer, finds_on, there_on, one_there, found_fault, blamed_on}
use Rattle.gaz_change.proofs.files.open_files.Goals as goal

pub loop-place-init : goal.loop-place-init
loop-place-init g c =
    let view = g.F.Shelf.view c.args.shelf.now in
    record {
      opened = tt;
      there = always (files_of view) (λ files. tt);
      fresh = λ is. refl;
      found = inl (record { told = refl; files = refl; earlier = refl });
      unblamed = record { faults = refl; last = refl };
    }

pub returns-in-Err-clause-found : goal.returns-in-Err-clause-found
returns-in-Err-clause-found g c =
    let mid = g.F.Shelf.view c.loop-place.shelf in
    let new = g.F.Shelf.view c.open_file.new.shelf in
    let names = c.args.names.now in
    let place = c.loop-place.place in
    found_fault ⊤ place names c.index-names-place.result mid new c.in-Err.fault c.loop-place-test.true
    (there_on place names c.loop-place.numbers mid new c.loop-place-test.true c.loop-place.invariant.opened c.open_file.ensures.files c.loop-place.invariant.there)
    (subst (λ name. Opened name mid new (Err c.in-Err.fault)) c.index-names-place.is c.in-Err.ensures.opened)

pub returns-in-Err-clause-blamed : goal.returns-in-Err-clause-blamed
returns-in-Err-clause-blamed g c =
    blamed_on ⊤ (g.F.Shelf.view c.args.shelf.now) (g.F.Shelf.view c.loop-place.shelf) (g.F.Shelf.view c.open_file.new.shelf) (Err c.in-Err.fault) c.loop-place.invariant.unblamed c.in-Err.ensures.blamed

pub returns-in-Err-clause-files : goal.returns-in-Err-clause-files
returns-in-Err-clause-files g c =
    let inv = c.loop-place.invariant in
    finds_on c.loop-place.place c.args.names.now c.loop-place.numbers (g.F.Shelf.view c.args.shelf.now) (g.F.Shelf.view c.loop-place.shelf) (g.F.Shelf.view c.open_file.new.shelf) c.loop-place-test.true inv.opened inv.fresh inv.found c.open_file.ensures.files

-- one file more was opened
pub loop-place-preserved : goal.loop-place-preserved
loop-place-preserved g c =
    let first = g.F.Shelf.view c.args.shelf.now in
    let mid = g.F.Shelf.view c.loop-place.shelf in
    let new = g.F.Shelf.view c.open_file.new.shelf in
    let names = c.args.names.now in
    let numbers = c.loop-place.numbers in
    let place = c.loop-place.place in
    let d = c.index-names-place.result in
    let inv = c.loop-place.invariant in
    let below = c.loop-place-test.true in
    let long = c.loop-place.auto.numbers in
    let room = c.requires.room in
    record {
      opened = open_on place names numbers d c.in-Ok.number mid new below (omega (arith, below, long, room)) inv.opened
          (subst (λ name. Opened name mid new (Ok c.in-Ok.number)) c.index-names-place.is c.in-Ok.ensures.opened).0;
      there = one_there place names d (files_of new) below
          (there_on place names numbers mid new below inv.opened c.open_file.ensures.files inv.there)
          (subst (λ name. Opened name mid new (Ok c.in-Ok.number)) c.index-names-place.is c.in-Ok.ensures.opened).1;
      fresh = λ is. absurd (omega (arith, is));
      found = finds_on place names numbers first mid new below inv.opened inv.fresh inv.found c.open_file.ensures.files;
      unblamed = blamed_on ℕ first mid new (Ok c.in-Ok.number) inv.unblamed c.in-Ok.ensures.blamed;
    }

pub returns-clause-opened : goal.returns-clause-opened
returns-clause-opened g c =
    let names = c.args.names.now in
    let view = g.F.Shelf.view c.loop-place.shelf in
    let done = take_all c.loop-place.place names (omega arith) in
    open_longer c.loop-place.place names c.loop-place.numbers view
    (subst (λ all. AreOpen all (take c.loop-place.place c.loop-place.numbers) view) done c.loop-place.invariant.opened)

pub returns-clause-found : goal.returns-clause-found
returns-clause-found g c =
    let done = take_all c.loop-place.place c.args.names.now (omega arith) in
    subst (λ names. IfSome (files_of (g.F.Shelf.view c.loop-place.shelf)) (λ files. AreThere files names)) done c.loop-place.invariant.there

pub returns-clause-blamed : goal.returns-clause-blamed
returns-clause-blamed g c = c.loop-place.invariant.unblamed

pub returns-clause-files : goal.returns-clause-files
returns-clause-files g c = c.loop-place.invariant.found
