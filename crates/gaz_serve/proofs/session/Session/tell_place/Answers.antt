use Rattle.std.proofs.Common.{ℕ, List, ◌∷◌, [], ◌∙◌, sym, subst, ap, take, Err, arith}
use Rattle.std.specs.Prelude.{is_some, option_to_list}
use Rattle.gaz_num.specs.declared.words.Table.TheVariants.{Rows}
use Rattle.gaz_plain.specs.Gazetteer.{Gazetteer, line_with}
use Rattle.gaz_serve.specs.declared.step.EndFault.{EndFault}
use Rattle.gaz_serve.specs.Step.{IsSound}
use Rattle.gaz_serve.proofs.Rows.{sound_end, whole_buffer}
use Rattle.gaz_serve.proofs.Meeting.{tells_unloaded, tells_found, tells_unfound}
use Rattle.gaz_serve.proofs.session.Session.tell_place.Goals as goal
use Rattle.gaz_serve.proofs.session.Session.tell_place.Goals.{in-Ok-Some, in-Ok-None, in-Err}

pub returns-then-is_none-clause-tells : goal.returns-then-is_none-clause-tells
returns-then-is_none-clause-tells g c =
    tells_unloaded (λ gaz. option_to_list (line_with Rows (c.args.id ∷ []) gaz)) c.args.self.now.root (g.T.Station.view c.args.station.now) c.requires.«open».fits
    (ap (λ session. is_some session.root) (sym c.self.view_is) ∙ ap is_some (sym c.root.ensures.root) ∙ c.if-is_none.ensures) (g.T.Station.view c.refuse.new.station) c.refuse.result c.refuse.ensures.replies c.refuse.ensures.sound

pub returns-clause-tells : goal.returns-clause-tells
returns-clause-tells g c =
    let lines = λ (gaz : Gazetteer). option_to_list (line_with Rows (c.args.id ∷ []) gaz) in
    let v0 = g.T.Station.view c.args.station.now in
    let v1 = g.T.Station.view c.get_row.new.station in
    let some = ap (λ session. is_some session.root) (sym c.self.view_is) ∙ ap is_some (sym c.root.ensures.root) ∙ c.if-is_none.ensures in
    let fits = c.requires.«open».fits in
    elim c.match-get_row.branch [
      | in-Ok-Some w ↦ rw (w.station-is, w.result-is)
          (tells_found lines c.args.self.now.root v0 fits some v1 c.get_row.ensures.leaves.reads _
          (λ told gaz mirrors. ap (λ (b : List ℕ). take w.in-Ok-Some.size b ∷ []) (w.deref.ensures.value ∙ whole_buffer _ c.get_row.new.buf c.self.inside.buf.items (c.get_row.ensures.size ∙ c.deref_mut.ensures.len)) ∙ ap option_to_list (sym (rw w.in-Ok-Some.field-0-is at (w.in-Ok-Some.ensures.line told gaz mirrors))))
          (g.T.Station.view w.tell_found.new.station) w.tell_found.result w.tell_found.ensures.replies w.tell_found.ensures.sound)
      | in-Ok-None w ↦ rw (w.station-is, w.result-is)
          (tells_found lines c.args.self.now.root v0 fits some v1 c.get_row.ensures.leaves.reads []
          (λ told gaz mirrors. ap option_to_list (sym (rw w.in-Ok-None.field-0-is at (w.in-Ok-None.ensures.line told gaz mirrors))))
          (g.T.Station.view w.tell_found-in-Ok-None.new.station) w.tell_found-in-Ok-None.result w.tell_found-in-Ok-None.ensures.replies w.tell_found-in-Ok-None.ensures.sound)
      | in-Err w ↦ rw (w.station-is, w.result-is)
          (tells_unfound lines c.args.self.now.root v0 fits some v1 c.get_row.ensures.leaves.reads w.end_of.result
          (λ told gaz mirrors. subst (λ (e : EndFault). IsSound {A = Unit {0}} (Err e)) (sym w.end_of.ensures) (sound_end w.in-Err.fault (w.in-Err.ensures.damaged told gaz mirrors))))
    ]

-- the look is all that reads
pub returns-clause-reads : goal.returns-clause-reads
returns-clause-reads g c told gaz mirrors =
    let most = c.get_row.ensures.reads told gaz mirrors in
    elim c.match-get_row.branch [
      | in-Ok-Some w ↦ rw w.station-is (let same = w.tell_found.ensures.unread in omega (arith, most, same))
      | in-Ok-None w ↦ rw w.station-is (let same = w.tell_found-in-Ok-None.ensures.unread in omega (arith, most, same))
      | in-Err w ↦ rw w.station-is most
    ]
