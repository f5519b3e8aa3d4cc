use Rattle.std.proofs.Common.{◌≡◌, Bool, IsTrue, sym, subst}
use Rattle.gaz_num.specs.Refusal.{request}
use Rattle.gaz_reply.specs.Reply.{refused}
use Rattle.gaz_rows.specs.Content.{Mirrors}
use Rattle.gaz_words.specs.Grammar.{asked_of}
use Rattle.gaz_install.proofs.Named.{dated_by}
use Rattle.gaz_turns.specs.Turns.{State}
use Rattle.gaz_turns.proofs.Told.{told_given}
use Rattle.gaz_serve.specs.Change.{Closes}
use Rattle.gaz_serve.specs.Session.{dated_state}
use Rattle.gaz_serve.specs.Step.{Meets}
use Rattle.gaz_serve.proofs.Changing.{when_told, closes_told}
use Rattle.gaz_serve.proofs.Asked.{read_step, unread_step, opens_by_date}
use Rattle.gaz_serve.proofs.step.answer.Goals as goal

-- what was told at first is told still
on_told : (b now : Bool) → now ≡ b → IsTrue b → IsTrue now
on_told b now same told = subst (λ (x : Bool). IsTrue x) (sym same) told

pub returns-in-Ok-clause-step : goal.returns-in-Ok-clause-step
returns-in-Ok-clause-step g c told shelf_told state mirrors =
    let v0 = g.T.Station.view c.args.station.now in
    let v1 = g.T.Station.view c.answer_request.new.station in
    let shelf = g.F.Shelf.view c.args.shelf.now in
    let shelf_now = g.F.Shelf.view c.answer_request.new.shelf in
    let asked = asked_of c.in-Ok.request in
    let e = c.answer_request.ensures in
    let dated = dated_by v0 c.args.session.now.root state.gaz (c.requires.«open».fits told) mirrors in
    let closes = subst (λ names. Closes names shelf shelf_now) (opens_by_date (dated_state c.args.session.now) state (sym dated) asked) e.closes in
    read_step state c.args.line.now asked c.in-Ok.ensures.asked shelf shelf_now v0 v1 c.answer_request.result closes
    (when_told (λ files. (state : State) → Mirrors v0.bytes state.gaz → Meets files asked state shelf shelf_now v0 v1 c.answer_request.result) shelf_now (on_told _ _ (closes_told _ shelf shelf_now closes) shelf_told) (e.step told) state mirrors)

pub returns-in-Err-clause-step : goal.returns-in-Err-clause-step
returns-in-Err-clause-step g c told shelf_told state mirrors =
    unread_step state c.args.line.now c.word.result.now c.in-Err.bad (g.F.Shelf.view c.args.shelf.now) (g.T.Station.view c.args.station.now) (g.T.Station.view c.refuse.new.station) c.in-Err.ensures.asked c.word.ensures c.refuse.result
    (told_given state (refused (request c.word.result.now)) _ _ c.refuse.result (λ o told left. g.met.T.Station.only_now c.args.station.now o told left) c.refuse.ensures.replies.printed c.refuse.ensures.replies.moments c.refuse.ensures.replies.areas)
