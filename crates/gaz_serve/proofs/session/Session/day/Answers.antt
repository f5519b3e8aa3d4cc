use Rattle.std.proofs.Common.{⊎_elim, inl, inr, ap, sym, refl, ◌∙◌, Ok}
use Rattle.std.specs.Prelude.{option_map}
use Rattle.gaz_outside.specs.Outside.{files_of}
use Rattle.gaz_page.specs.declared.tree_root.Root.{Root}
use Rattle.gaz_plain.specs.Load.{day, day_files, in_sequence}
use Rattle.gaz_rows.specs.Content.{Mirrors}
use Rattle.gaz_words.specs.Grammar.{asks_day}
use Rattle.gaz_reply.specs.declared.reply.Done.TheVariants as done_of
use Rattle.gaz_install.proofs.Named.{dated_by}
use Rattle.gaz_turns.specs.Turns.{State, opens, day_opens}
use Rattle.gaz_serve.specs.Step.{Meets}
use Rattle.gaz_install.proofs.ByKind.{if_err}
use Rattle.gaz_serve.proofs.Fitting.{all_hold}
use Rattle.gaz_serve.proofs.Changed.{change_tells, change_sound, change_next, change_meets, over_known, four_known, stops_known, ok_over, blames_as}
use Rattle.gaz_serve.proofs.session.Session.day.Goals as goal

pub returns-clause-tells : goal.returns-clause-tells
returns-clause-tells g c =
    change_tells g.T.Station.view c.args.station.now c.apply-made.new.station c.tell_change.new.station (done_of.Day c.args.date) (g.F.Shelf.view c.args.shelf.now) (g.F.Shelf.view c.apply-made.new.shelf) c.tell_change.result
    c.apply-made.ensures.counts.told c.apply-made.ensures.printed c.apply-made.result c.apply-made.ensures.blamed c.tell_change.ensures.made c.tell_change.ensures.refused c.tell_change.ensures.ends

pub returns-clause-meets : goal.returns-clause-meets
returns-clause-meets g c told =
    let v0 = g.T.Station.view c.args.station.now in
    let v2 = g.T.Station.view c.tell_change.new.station in
    let e = c.apply-made.ensures in
    let shelf = g.F.Shelf.view c.args.shelf.now in
    let shelf_now = g.F.Shelf.view c.apply-made.new.shelf in
    let fits = c.requires.«open».fits in
    over_known (files_of shelf_now) (λ (state : State) files. Mirrors v0.bytes state.gaz → Meets files (asks_day c.args.date) state shelf shelf_now v0 v2 c.tell_change.result)
    (λ state. over_known (files_of shelf_now) (λ (mirrors : Mirrors v0.bytes state.gaz) files. Meets files (asks_day c.args.date) state shelf shelf_now v0 v2 c.tell_change.result)
    (λ mirrors.
    let ch = e.changes told state.gaz (all_hold c.args.self.now.root v0 state.gaz (fits told) mirrors) in
    four_known (files_of shelf_now) ch.next_is ch.gives e.reached (stops_known _ _ (files_of shelf_now) (λ files. day state.gaz files c.args.date) c.apply-made.result told (if_err c.apply-made.result _ _ (λ fault h is. ⊎_elim (λ r. inl r) (λ w. inr (λ t. w t state.gaz (all_hold c.args.self.now.root v0 state.gaz (fits told) mirrors))) (h is)) e.stopped))
    (λ files next_is gives reached stops.
    change_meets g.T.Station.view c.args.station.now c.apply-made.new.station c.tell_change.new.station (done_of.Day c.args.date) shelf shelf_now c.tell_change.result e.counts.told e.printed
    files (asks_day c.args.date) state (day state.gaz files c.args.date) refl tt (λ o told left. g.met.T.Station.only_now c.args.station.now o told left) (λ a told. g.met.T.Station.may_stay c.apply-made.new.station a told)
    (λ told mirrors. all_hold c.args.self.now.root v0 state.gaz (fits told) mirrors)
    c.apply-made.result ch.next told mirrors ch.moments next_is gives ch.leaves e.unwritten stops (if_err c.apply-made.result _ _ (λ fault h. h told state.gaz mirrors) e.damaged) (blames_as files (day_files c.args.date) (opens state (Ok (asks_day c.args.date))) c.apply-made.result
    (λ ordered. ap (λ have. day_opens (in_sequence have c.args.date)) (dated_by v0 c.args.self.now.root state.gaz (fits told) mirrors) ∙ ap (λ session. day_opens (in_sequence (option_map (λ (r : Root). r.day) session.root) c.args.date)) (sym c.self.view_is) ∙ ap day_opens (e.in_order ordered)) reached) e.blamed c.tell_change.ensures.made c.tell_change.ensures.refused c.tell_change.ensures.ends)))

pub returns-clause-lasts : goal.returns-clause-lasts
returns-clause-lasts g c =
    let v0 = g.T.Station.view c.args.station.now in
    let e = c.apply-made.ensures in
    let fits = c.requires.«open».fits in
    record {
      sound = λ told gaz mirrors.
          change_sound g.T.Station.view c.args.station.now c.apply-made.new.station c.tell_change.new.station (done_of.Day c.args.date) (g.F.Shelf.view c.args.shelf.now) (g.F.Shelf.view c.apply-made.new.shelf) c.tell_change.result e.counts.told e.printed
          told gaz mirrors (λ a told. g.met.T.Station.may_stay c.apply-made.new.station a told) c.apply-made.result (if_err c.apply-made.result _ _ (λ fault h. h told gaz mirrors) e.damaged) c.tell_change.ensures.sound c.tell_change.ensures.sound_refused c.tell_change.ensures.ends;
      next = ok_over v0 c.tell_change.result _ (λ told gaz mirrors.
          let ch = e.changes told gaz (all_hold c.args.self.now.root v0 gaz (fits told) mirrors) in
          change_next g.T.Station.view c.args.station.now c.apply-made.new.station c.tell_change.new.station (done_of.Day c.args.date) (g.F.Shelf.view c.args.shelf.now) (g.F.Shelf.view c.apply-made.new.shelf) c.tell_change.result e.counts.told e.printed
          told gaz mirrors (λ a told. g.met.T.Station.may_stay c.apply-made.new.station a told) c.apply-made.result ch.next ch.leaves e.unwritten (if_err c.apply-made.result _ _ (λ fault h. h told gaz mirrors) e.damaged) c.tell_change.ensures.made c.tell_change.ensures.refused c.tell_change.ensures.ends);
    }
