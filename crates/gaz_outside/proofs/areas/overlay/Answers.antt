use Rattle.std.proofs.Common.{◌≡◌, ◌+◌, ◌++◌, List, ℕ, length, take, drop, ◌∙◌, ap, subst, arith}
use Rattle.std.proofs.lemmas.List.{take_at}
use Rattle.gaz_outside.specs.Overlaid.{grown-overlaid}
use Rattle.gaz_outside.proofs.areas.overlay.Goals as goal

pub returns-clause-ok : goal.returns-clause-ok
returns-clause-ok c =
    let at = c.args.at in
    let bytes = c.args.bytes.now in
    let grown = c.grow.new.file.items in
    let new = c.replace.new.file in
    let long : length new ≡ c.grow.new.file.len = omega (arith, c.replace.auto.file, c.deref_mut.ensures.len, ap length c.deref_mut.ensures.value) in
    let written : new ≡ take at grown ++ bytes ++ drop (at + length bytes) grown =
    subst (λ (f : List ℕ). new ≡ take at f ++ bytes ++ drop (at + length bytes) f) c.deref_mut.ensures.value c.replace.ensures in
    take_at new (drop (length new) grown) c.grow.new.file.len long
    ∙ grown-overlaid c.args.file.now.items at bytes grown new c.in_ok-grow.ensures.ok written
