use Rattle.std.proofs.Common.{◌∙◌, inl, inr, ⊎_elim, ap, sym, subst}
use Rattle.std.specs.Prelude.{Ok}
use Rattle.gaz_words.specs.Grammar.{asked_of}
use Rattle.gaz_rows.specs.Content.{Mirrors}
use Rattle.gaz_ask.specs.Asked.{OverMirror}
use Rattle.gaz_serve.specs.Bounds.{ReadsWithin, most_read}
use Rattle.gaz_serve.specs.Step.{Meets}
use Rattle.gaz_turns.specs.Turns.{State, answer_to, same_state, MayStarve}
use Rattle.gaz_serve.proofs.Changing.{always}
use Rattle.gaz_serve.proofs.Meeting.{question_meets, question_starves}
use Rattle.gaz_serve.proofs.step.answer_request.Goals as goal

pub returns-in-Get-clause-step : goal.returns-in-Get-clause-step
returns-in-Get-clause-step g c told =
    always {P = λ files. (state : State) → Mirrors (g.T.Station.view c.args.station.now).bytes state.gaz → Meets files (asked_of c.args.request.now) state (g.F.Shelf.view c.args.shelf.now) (g.F.Shelf.view c.args.shelf.now) (g.T.Station.view c.args.station.now) (g.T.Station.view c.tell_place.new.station) c.tell_place.result} _ (λ files state mirrors.
    question_meets _ (g.T.Station.view c.args.station.now) (g.T.Station.view c.tell_place.new.station) c.tell_place.result c.tell_place.ensures.tells files (asked_of c.args.request.now) state (g.F.Shelf.view c.args.shelf.now)
    (λ o told left. g.met.T.Station.only_now c.args.station.now o told left) told mirrors
    (λ reply is. ap (λ r. answer_to state files (asked_of r)) c.in-Get.is ∙ ap (same_state state) (sym is)))

pub returns-in-Children-clause-step : goal.returns-in-Children-clause-step
returns-in-Children-clause-step g c told =
    always {P = λ files. (state : State) → Mirrors (g.T.Station.view c.args.station.now).bytes state.gaz → Meets files (asked_of c.args.request.now) state (g.F.Shelf.view c.args.shelf.now) (g.F.Shelf.view c.args.shelf.now) (g.T.Station.view c.args.station.now) (g.T.Station.view c.tell_children.new.station) c.tell_children.result} _ (λ files state mirrors.
    question_meets _ (g.T.Station.view c.args.station.now) (g.T.Station.view c.tell_children.new.station) c.tell_children.result c.tell_children.ensures.tells files (asked_of c.args.request.now) state (g.F.Shelf.view c.args.shelf.now)
    (λ o told left. g.met.T.Station.only_now c.args.station.now o told left) told mirrors
    (λ reply is. ap (λ r. answer_to state files (asked_of r)) c.in-Children.is ∙ ap (same_state state) (sym is)))

pub returns-in-Hierarchy-clause-step : goal.returns-in-Hierarchy-clause-step
returns-in-Hierarchy-clause-step g c told =
    always {P = λ files. (state : State) → Mirrors (g.T.Station.view c.args.station.now).bytes state.gaz → Meets files (asked_of c.args.request.now) state (g.F.Shelf.view c.args.shelf.now) (g.F.Shelf.view c.args.shelf.now) (g.T.Station.view c.args.station.now) (g.T.Station.view c.tell_chain.new.station) c.tell_chain.result} _ (λ files state mirrors.
    question_meets _ (g.T.Station.view c.args.station.now) (g.T.Station.view c.tell_chain.new.station) c.tell_chain.result c.tell_chain.ensures.tells files (asked_of c.args.request.now) state (g.F.Shelf.view c.args.shelf.now)
    (λ o told left. g.met.T.Station.only_now c.args.station.now o told left) told mirrors
    (λ reply is. ap (λ r. answer_to state files (asked_of r)) c.in-Hierarchy.is ∙ ap (same_state state) (sym is)))

pub returns-in-Admin-clause-step : goal.returns-in-Admin-clause-step
returns-in-Admin-clause-step g c told =
    always {P = λ files. (state : State) → Mirrors (g.T.Station.view c.args.station.now).bytes state.gaz → Meets files (asked_of c.args.request.now) state (g.F.Shelf.view c.args.shelf.now) (g.F.Shelf.view c.args.shelf.now) (g.T.Station.view c.args.station.now) (g.T.Station.view c.tell_code.new.station) c.tell_code.result} _ (λ files state mirrors.
    question_meets _ (g.T.Station.view c.args.station.now) (g.T.Station.view c.tell_code.new.station) c.tell_code.result c.tell_code.ensures.tells files (asked_of c.args.request.now) state (g.F.Shelf.view c.args.shelf.now)
    (λ o told left. g.met.T.Station.only_now c.args.station.now o told left) told mirrors
    (λ reply is. ap (λ r. answer_to state files (asked_of r)) c.in-Admin.is ∙ ap (same_state state) (sym is)))

pub returns-in-Search-clause-step : goal.returns-in-Search-clause-step
returns-in-Search-clause-step g c told =
    always {P = λ files. (state : State) → Mirrors (g.T.Station.view c.args.station.now).bytes state.gaz → Meets files (asked_of c.args.request.now) state (g.F.Shelf.view c.args.shelf.now) (g.F.Shelf.view c.args.shelf.now) (g.T.Station.view c.args.station.now) (g.T.Station.view c.tell_search.new.station) c.tell_search.result} _ (λ files state mirrors.
    question_starves _ (g.T.Station.view c.args.station.now) (g.T.Station.view c.tell_search.new.station) c.tell_search.result c.tell_search.ensures.tells files (asked_of c.args.request.now) state (g.F.Shelf.view c.args.shelf.now)
    (λ o told left. g.met.T.Station.only_now c.args.station.now o told left) told mirrors
    (λ reply either. ⊎_elim (λ is. inl (ap (λ r. answer_to state files (asked_of r)) c.in-Search.is ∙ ap (same_state state) (sym is))) (λ wanting. inr (wanting.0, subst (λ r. MayStarve (Ok (asked_of r))) (sym c.in-Search.is) wanting.1)) either))

pub returns-in-Get-clause-reads : goal.returns-in-Get-clause-reads
returns-in-Get-clause-reads g c =
    let v0 = g.T.Station.view c.args.station.now in
    let v1 = g.T.Station.view c.tell_place.new.station in
    subst (λ r. OverMirror v0 (λ gaz. ReadsWithin (most_read gaz (asked_of r)) v0 v1)) (sym c.in-Get.is) c.tell_place.ensures.reads

pub returns-in-Admin-clause-reads : goal.returns-in-Admin-clause-reads
returns-in-Admin-clause-reads g c =
    let v0 = g.T.Station.view c.args.station.now in
    let v1 = g.T.Station.view c.tell_code.new.station in
    subst (λ r. OverMirror v0 (λ gaz. ReadsWithin (most_read gaz (asked_of r)) v0 v1)) (sym c.in-Admin.is) c.tell_code.ensures.reads
