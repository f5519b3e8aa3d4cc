use Rattle.std.proofs.Common.{◌+◌, ◌≤◌, ℕ, arith}
use Rattle.std.proofs.lemmas.List.{length-take, length-drop}
use Rattle.gaz_lines.proofs.Lists.{found, none}
use Rattle.gaz_lines.proofs.window.Window.line_end.Goals as goal

pub returns-in-Some : goal.returns-in-Some
returns-in-Some c =
    let window = c.args.self.now in
    let fits : window.start + c.args.stop ≤ window.end = omega (arith, c.requires.within, length-take {A = ℕ}, length-drop {A = ℕ}) in
    found window.bytes.items window.start window.end c.args.from c.args.stop c.requires.ordered c.requires.within c.requires.searched fits c.in-Some.place (rw c.deref.ensures.value at c.in-Some.ensures)

pub returns-in-None : goal.returns-in-None
returns-in-None c =
    let window = c.args.self.now in
    let fits : window.start + c.args.stop ≤ window.end = omega (arith, c.requires.within, length-take {A = ℕ}, length-drop {A = ℕ}) in
    none window.bytes.items window.start window.end c.args.from c.args.stop c.requires.ordered c.requires.within c.requires.searched fits (rw c.deref.ensures.value at c.in-None.ensures)
