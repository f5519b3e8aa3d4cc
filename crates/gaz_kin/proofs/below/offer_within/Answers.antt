use Rattle.std.proofs.Common.{◌≤◌, ◌+◌, sym, subst}
use Rattle.gaz_kin.specs.Reads.{most_for_rows, alike_to}
use Rattle.gaz_plain.specs.Children.{SeesMore}
use Rattle.gaz_keys.specs.Lines.{path_to}
use Rattle.gaz_kin.specs.Below.{begins_at}
use Rattle.gaz_kin.proofs.Offered.{on_ok}
use Rattle.gaz_kin.proofs.below.offer_within.Goals as goal

pub returns-in-Some-clause-more : goal.returns-in-Some-clause-more
returns-in-Some-clause-more g c =
    on_ok _ _ c.offer_beginning.result (λ over told gaz stands place found.
    let is = rw c.in-Some.is at found in
    subst (λ level. SeesMore gaz c.args.id c.args.best.now.keep (begins_at level place) c.args.best.now.pairs c.offer_beginning.new.best.pairs) (sym is.1)
    (over told gaz stands (path_to is.0 place) is.2))
    c.offer_beginning.ensures.more

pub returns-in-Some-clause-few : goal.returns-in-Some-clause-few
returns-in-Some-clause-few g c told gaz stands place found =
    let v = g.P.Pages.view in
    let is = rw c.in-Some.is at found in
    subst (λ level. (v c.offer_beginning.new.store.pages).reads ≤ (v c.args.store.now.pages).reads + (most_for_rows gaz (alike_to gaz place level) + 12)) (sym is.1)
    (c.offer_beginning.ensures.few told gaz stands (path_to is.0 place) is.2)
