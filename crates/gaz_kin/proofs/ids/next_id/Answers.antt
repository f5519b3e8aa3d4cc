use Rattle.std.proofs.Common.{sym}
use Rattle.gaz_leaf.specs.Node.{key_of}
use Rattle.gaz_rows.proofs.Looked.{none_left, failed_soundly}
use Rattle.gaz_kin.proofs.ids.next_id.Goals as goal

pub returns-in-Ok-None-clause-gives : goal.returns-in-Ok-None-clause-gives
returns-in-Ok-None-clause-gives g c told left comes =
    let v = g.P.Pages.view in
    none_left (v c.args.store.now.pages).page (v c.next.new.self.pages).page c.next.new.scan left (rw c.in-Ok-None.field-0-is at (c.in-Ok-None.ensures.gives told left comes))

pub returns-in-Err-clause-gives : goal.returns-in-Err-clause-gives
returns-in-Err-clause-gives g c told left comes =
    let v = g.P.Pages.view in
    failed_soundly (v c.args.store.now.pages).page (v c.next.new.self.pages).page c.next.new.scan left c.in-Err.fault (c.in-Err.ensures.gives told left comes)

pub returns-clause-gives : goal.returns-clause-gives
returns-clause-gives g c told left comes =
    let given = rw c.in-Ok-Some.field-0-is at (c.in-Ok-Some.ensures.gives told left comes) in
    record { pair = record { key = key_of c.in-Ok-Some.found.0; value = c.in-Ok-Some.found.1 }; rest = given.rest; first = given.first; has = sym c.number_in.ensures; comes = given.comes }
