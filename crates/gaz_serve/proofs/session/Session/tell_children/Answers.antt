use Rattle.std.proofs.Common.{◌∙◌, sym, subst, ap, length, Err}
use Rattle.std.specs.Prelude.{is_some}
use Rattle.gaz_plain.specs.Gazetteer.{Gazetteer}
use Rattle.gaz_serve.specs.declared.step.EndFault.{EndFault}
use Rattle.gaz_serve.specs.Step.{IsSound}
use Rattle.gaz_plain.specs.Search.{rows_at}
use Rattle.gaz_plain.specs.Kin.{children_of, children_pairs}
use Rattle.gaz_kin.specs.Reads.{most_for_children}
use Rattle.gaz_serve.proofs.Reading.{rows_read}
use Rattle.gaz_serve.proofs.Rows.{rows_named, sound_end}
use Rattle.gaz_serve.proofs.Meeting.{tells_unloaded, tells_rest, tells_unfound}
use Rattle.gaz_serve.proofs.session.Session.tell_children.Goals as goal

pub returns-then-is_none-clause-tells : goal.returns-then-is_none-clause-tells
returns-then-is_none-clause-tells g c =
    tells_unloaded (λ gaz. children_of gaz c.args.id c.args.max) c.args.self.now.root (g.T.Station.view c.args.station.now) c.requires.«open».fits
    (ap (λ session. is_some session.root) (sym c.self.view_is) ∙ ap is_some (sym c.root.ensures.root) ∙ c.if-is_none.ensures) (g.T.Station.view c.refuse.new.station) c.refuse.result c.refuse.ensures.replies c.refuse.ensures.sound

pub returns-in-Ok-clause-tells : goal.returns-in-Ok-clause-tells
returns-in-Ok-clause-tells g c =
    let lines = λ (gaz : Gazetteer). children_of gaz c.args.id c.args.max in
    let v0 = g.T.Station.view c.args.station.now in
    let v1 = g.T.Station.view c.children.new.station in
    let some = ap (λ session. is_some session.root) (sym c.self.view_is) ∙ ap is_some (sym c.root.ensures.root) ∙ c.if-is_none.ensures in
    tells_rest lines c.args.self.now.root v0 c.requires.«open».fits some v1 c.children.ensures.leaves.reads _
    (λ told gaz mirrors. rows_named gaz c.cut.result.now ∙ ap (rows_at gaz) (c.cut.ensures ∙ c.in-Ok.ensures.answer told gaz mirrors))
    (g.T.Station.view c.tell_rows.new.station) c.tell_rows.result c.tell_rows.ensures.tells

pub returns-in-Err-clause-tells : goal.returns-in-Err-clause-tells
returns-in-Err-clause-tells g c =
    let lines = λ (gaz : Gazetteer). children_of gaz c.args.id c.args.max in
    let v0 = g.T.Station.view c.args.station.now in
    let v1 = g.T.Station.view c.children.new.station in
    let some = ap (λ session. is_some session.root) (sym c.self.view_is) ∙ ap is_some (sym c.root.ensures.root) ∙ c.if-is_none.ensures in
    tells_unfound lines c.args.self.now.root v0 c.requires.«open».fits some v1 c.children.ensures.leaves.reads c.end_of.result
    (λ told gaz mirrors. subst (λ (e : EndFault). IsSound {A = Unit {0}} (Err e)) (sym c.end_of.ensures) (sound_end c.in-Err.fault (c.in-Err.ensures.damaged told gaz mirrors)))

-- the look for the children, and their rows
pub returns-in-Ok-clause-reads : goal.returns-in-Ok-clause-reads
returns-in-Ok-clause-reads g c =
    let id = c.args.id in
    rows_read (g.T.Station.view c.args.station.now) (g.T.Station.view c.children.new.station) (g.T.Station.view c.tell_rows.new.station) (length c.cut.result.now) (λ gaz. most_for_children gaz id) (λ gaz. length (children_pairs gaz id c.args.max))
    c.children.ensures.leaves.reads c.children.ensures.reads (λ told gaz mirrors. ap length (c.cut.ensures ∙ c.in-Ok.ensures.answer told gaz mirrors)) c.tell_rows.ensures.reads
