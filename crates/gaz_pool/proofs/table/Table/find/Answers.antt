use Rattle.std.proofs.Common.{◌∙◌, ap, sym}
use Rattle.gaz_places.specs.Places.{found_in}
use Rattle.gaz_pool.specs.Numbers.{page_number}
use Rattle.gaz_pool.proofs.table.Table.find.Goals as goal

-- the map has its place
pub returns-in-Some-clause-here : goal.returns-in-Some-clause-here
returns-in-Some-clause-here c =
    let self = c.args.self.now in
    self.found.there (page_number c.args.side c.args.page) c.in-Some.place (ap (found_in self.places) (sym c.number.ensures) ∙ sym c.in-Some.ensures.found)

-- and none where no frame holds it
pub returns-in-None-clause-none : goal.returns-in-None-clause-none
returns-in-None-clause-none c (place, within, is) =
    let self = c.args.self.now in
    absurd (cc (self.found.here place within, is, c.number.ensures, c.in-None.ensures.found))
