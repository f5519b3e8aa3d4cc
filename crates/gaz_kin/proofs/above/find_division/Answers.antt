use Rattle.std.proofs.Common.{arith, ◌≡◌, true, false, None, refl, sym, ap, ◌∙◌}
use Rattle.gaz_row.specs.Row.{id_of}
use Rattle.gaz_parent.specs.Parent.{division, has_path, least_other}
use Rattle.gaz_plain.specs.Kin.{lists_of}
use Rattle.gaz_kin.specs.Leading.{asked_nothing}
use Rattle.gaz_kin.proofs.Divided.{above_is}
use Rattle.gaz_kin.proofs.Remembered.{division_found, division_above_it}
use Rattle.gaz_kin.proofs.above.find_division.Goals as goal

-- no division may stand above it
pub returns-then-not-leads_to_division-clause-found : goal.returns-then-not-leads_to_division-clause-found
unfolding division
returns-then-not-leads_to_division-clause-found g c told gaz stands is =
    let none : has_path c.args.level c.args.row.now ≡ false = sym c.if-not-leads_to_division.ensures in
    rw none refl

pub returns-then-not-leads_to_division-clause-asked : goal.returns-then-not-leads_to_division-clause-asked
returns-then-not-leads_to_division-clause-asked g c = (0, asked_nothing (g.P.Pages.view c.args.store.now.pages) None)

-- it is remembered
pub returns-in-Some-clause-found : goal.returns-in-Some-clause-found
unfolding division
returns-in-Some-clause-found g c told gaz stands is =
    let some : has_path c.args.level c.args.row.now ≡ true = sym c.if-not-leads_to_division.ensures in
    rw some (c.in-Some.ensures (lists_of gaz) is ∙ division_above_it (lists_of gaz) c.args.level c.args.row.now c.requires.low)

-- it was found
pub returns-in-Ok-clause-found : goal.returns-in-Ok-clause-found
unfolding division
returns-in-Ok-clause-found g c told gaz stands is =
    let some : has_path c.args.level c.args.row.now ≡ true = sym c.if-not-leads_to_division.ensures in
    rw some ((c.in-Ok.ensures.found told gaz stands).other ∙ ap (least_other (lists_of gaz) (id_of c.args.row.now)) (above_is c.args.level c.args.row.now c.requires.low))

pub returns-in-Ok-clause-notes : goal.returns-in-Ok-clause-notes
returns-in-Ok-clause-notes g c told gaz stands is =
    c.keep.ensures (lists_of gaz) (division_found (lists_of gaz) c.args.level c.args.row.now c.in-Ok.found c.requires.low (c.in-Ok.ensures.found told gaz stands)) is

pub returns-then-not-leads_to_division-clause-few : goal.returns-then-not-leads_to_division-clause-few
returns-then-not-leads_to_division-clause-few g c told gaz stands = omega arith
