use Rattle.std.proofs.Common.{[], take, sym, ◌∙◌}
use Rattle.gaz_num.specs.declared.words.Kind.TheVariants.{Row}
use Rattle.gaz_rows.proofs.RoomPairs.{bytes_of}
use Rattle.gaz_plan.proofs.Placed.{passed, row_accepted, is_place, row_of}
use Rattle.gaz_plan.proofs.found.row_at.Goals as goal

pub returns-then-is_err-clause-damaged : goal.returns-then-is_err-clause-damaged
returns-then-is_err-clause-damaged g c key told gaz stands found tag =
    let v = g.P.Pages.view c.args.store.now.pages in
    let root = c.args.store.now.root in
    let line = take c.in-Ok.size c.line_at.new.buf in
    let row = row_of gaz v root stands key c.args.place found tag line (c.in-Ok.ensures.line told [] gaz stands (bytes_of key) (is_place gaz v root stands key c.args.place found tag)) in
    absurd (passed Row line c.check_row.result (row_accepted gaz v root stands line row.there) c.check_row.ensures (sym c.is_err.ensures.value ∙ c.if-is_err.true))

pub returns-else-is_err-clause-line : goal.returns-else-is_err-clause-line
returns-else-is_err-clause-line g c key told gaz stands found tag =
    let v = g.P.Pages.view c.args.store.now.pages in
    let root = c.args.store.now.root in
    row_of gaz v root stands key c.args.place found tag (take c.in-Ok.size c.line_at.new.buf) (c.in-Ok.ensures.line told [] gaz stands (bytes_of key) (is_place gaz v root stands key c.args.place found tag))

pub returns-in-Err-clause-damaged : goal.returns-in-Err-clause-damaged
returns-in-Err-clause-damaged g c key told gaz stands found tag =
    let v = g.P.Pages.view c.args.store.now.pages in
    let root = c.args.store.now.root in
    c.in-Err.ensures.damaged told [] gaz stands (bytes_of key) (is_place gaz v root stands key c.args.place found tag)
