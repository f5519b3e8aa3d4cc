use Rattle.std.proofs.Common.{◌≡◌, ◌∙◌, inl, inr, length, refl, sym, ap, Err}
use Rattle.std.specs.Prelude.{◌⊎◌, is_some, Result}
use Rattle.gaz_num.specs.Refusal.{memory}
use Rattle.gaz_outside.specs.Station.{StationView}
use Rattle.gaz_pick.specs.Asked.{Asked, asked}
use Rattle.gaz_plain.specs.Search.{answer_pairs, rows_at, search_of}
use Rattle.gaz_reply.specs.Reply.{refused}
use Rattle.gaz_turns.specs.Turns.{AsksName}
use Rattle.gaz_serve.specs.declared.step.EndFault.{EndFault}
use Rattle.gaz_serve.specs.declared.step.EndFault.TheVariants.{Station, Damaged}
use Rattle.gaz_serve.specs.Step.{Tells}
use Rattle.gaz_plan.specs.Candidates.{most_reads}
use Rattle.gaz_serve.proofs.Reading.{rows_read}
use Rattle.gaz_serve.proofs.Rows.{rows_named, wanting}
use Rattle.gaz_serve.proofs.Meeting.{TellsLines, tells_unloaded, tells_rest, tells_unfound, tells_starved, tells_weaker}
use Rattle.gaz_serve.proofs.session.Session.tell_search.Goals as goal

-- the answer may be told, or that memory was wanting
may_tell : (asks : Asked) (old new : StationView) (result : Result (Unit {0}) EndFault) → Tells (TellsLines (λ gaz. search_of gaz asks)) old new result
    → Tells (λ gaz reply. TellsLines (λ gaz. search_of gaz asks) gaz reply ⊎ ((reply ≡ refused memory) × AsksName asks.name)) old new result
may_tell asks old new result tells =
    tells_weaker (TellsLines (λ gaz. search_of gaz asks)) (λ gaz reply. TellsLines (λ gaz. search_of gaz asks) gaz reply ⊎ ((reply ≡ refused memory) × AsksName asks.name)) (λ gaz reply is. inl is) old new result tells

pub returns-then-is_none-clause-tells : goal.returns-then-is_none-clause-tells
returns-then-is_none-clause-tells g c =
    may_tell (asked c.args.query.now) _ _ c.refuse.result
    (tells_unloaded (λ gaz. search_of gaz (asked c.args.query.now)) c.args.self.now.root (g.T.Station.view c.args.station.now) c.requires.«open».fits
    (ap (λ session. is_some session.root) (sym c.self.view_is) ∙ ap is_some (sym c.root.ensures.root) ∙ c.if-is_none.ensures) (g.T.Station.view c.refuse.new.station) c.refuse.result c.refuse.ensures.replies c.refuse.ensures.sound)

pub returns-in-Ok-clause-tells : goal.returns-in-Ok-clause-tells
returns-in-Ok-clause-tells g c =
    let v0 = g.T.Station.view c.args.station.now in
    let v1 = g.T.Station.view c.search.new.station in
    let some = ap (λ session. is_some session.root) (sym c.self.view_is) ∙ ap is_some (sym c.root.ensures.root) ∙ c.if-is_none.ensures in
    may_tell (asked c.args.query.now) _ _ c.tell_rows.result
    (tells_rest (λ gaz. search_of gaz (asked c.args.query.now)) c.args.self.now.root v0 c.requires.«open».fits some v1 c.search.ensures.leaves.reads _
    (λ told gaz mirrors. rows_named gaz c.cut.result.now ∙ ap (rows_at gaz) (c.cut.ensures ∙ c.in-Ok.ensures.answer told gaz mirrors))
    (g.T.Station.view c.tell_rows.new.station) c.tell_rows.result c.tell_rows.ensures.tells)

pub returns-in-Err-Memory-clause-tells : goal.returns-in-Err-Memory-clause-tells
returns-in-Err-Memory-clause-tells g c =
    let v0 = g.T.Station.view c.args.station.now in
    let v1 = g.T.Station.view c.search.new.station in
    let some = ap (λ session. is_some session.root) (sym c.self.view_is) ∙ ap is_some (sym c.root.ensures.root) ∙ c.if-is_none.ensures in
    tells_starved (λ gaz. search_of gaz (asked c.args.query.now)) c.args.self.now.root v0 c.requires.«open».fits some v1 c.search.ensures.leaves.reads _
    (λ gaz. inr (refl, wanting (asked c.args.query.now).name c.search.result c.search.ensures.absent (c.in-Err-Memory.is ∙ ap Err c.in-Err-Memory.field-0-is)))
    (g.T.Station.view c.refuse-in-Err-Memory.new.station) c.refuse-in-Err-Memory.result c.refuse-in-Err-Memory.ensures.replies c.refuse-in-Err-Memory.ensures.sound

pub returns-in-Err-Failed-clause-tells : goal.returns-in-Err-Failed-clause-tells
returns-in-Err-Failed-clause-tells g c =
    let v0 = g.T.Station.view c.args.station.now in
    let v1 = g.T.Station.view c.search.new.station in
    let some = ap (λ session. is_some session.root) (sym c.self.view_is) ∙ ap is_some (sym c.root.ensures.root) ∙ c.if-is_none.ensures in
    may_tell (asked c.args.query.now) v0 v1 (Err Station)
    (tells_unfound (λ gaz. search_of gaz (asked c.args.query.now)) c.args.self.now.root v0 c.requires.«open».fits some v1 c.search.ensures.leaves.reads Station (λ told gaz mirrors. tt))

pub returns-in-Err-Damaged-clause-tells : goal.returns-in-Err-Damaged-clause-tells
returns-in-Err-Damaged-clause-tells g c =
    let v0 = g.T.Station.view c.args.station.now in
    let v1 = g.T.Station.view c.search.new.station in
    let some = ap (λ session. is_some session.root) (sym c.self.view_is) ∙ ap is_some (sym c.root.ensures.root) ∙ c.if-is_none.ensures in
    may_tell (asked c.args.query.now) v0 v1 (Err (Damaged c.in-Err-Damaged.page))
    (tells_unfound (λ gaz. search_of gaz (asked c.args.query.now)) c.args.self.now.root v0 c.requires.«open».fits some v1 c.search.ensures.leaves.reads (Damaged c.in-Err-Damaged.page)
    (λ told gaz mirrors. rw c.in-Err-Damaged.field-0-is at (c.in-Err-Damaged.ensures.damaged told gaz mirrors)))

-- the look for the answer, and its rows
pub returns-in-Ok-clause-reads : goal.returns-in-Ok-clause-reads
returns-in-Ok-clause-reads g c =
    let asks = asked c.args.query.now in
    rows_read (g.T.Station.view c.args.station.now) (g.T.Station.view c.search.new.station) (g.T.Station.view c.tell_rows.new.station) (length c.cut.result.now) (λ gaz. most_reads gaz asks) (λ gaz. length (answer_pairs gaz asks))
    c.search.ensures.leaves.reads c.search.ensures.reads (λ told gaz mirrors. ap length (c.cut.ensures ∙ c.in-Ok.ensures.answer told gaz mirrors)) c.tell_rows.ensures.reads
