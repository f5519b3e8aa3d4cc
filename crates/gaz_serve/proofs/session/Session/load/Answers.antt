use Rattle.std.proofs.Common.{refl}
use Rattle.gaz_outside.specs.Outside.{files_of}
use Rattle.gaz_plain.specs.Load.{load}
use Rattle.gaz_rows.specs.Content.{Mirrors}
use Rattle.gaz_words.specs.Grammar.{asks_load}
use Rattle.gaz_reply.specs.declared.reply.Done.TheVariants as done_of
use Rattle.gaz_turns.specs.Turns.{State}
use Rattle.gaz_serve.specs.Step.{Meets}
use Rattle.gaz_install.proofs.ByKind.{if_err}
use Rattle.gaz_serve.proofs.Fitting.{all_hold}
use Rattle.gaz_serve.proofs.Changed.{change_tells, change_sound, change_next, change_meets, over_known, four_known, stops_known, ok_over}
use Rattle.gaz_serve.proofs.session.Session.load.Goals as goal

pub returns-clause-tells : goal.returns-clause-tells
returns-clause-tells g c =
    change_tells g.T.Station.view c.args.station.now c.load-made.new.station c.tell_change.new.station (done_of.Load c.args.date) (g.F.Shelf.view c.args.shelf.now) (g.F.Shelf.view c.load-made.new.shelf) c.tell_change.result
    c.load-made.ensures.counts.told c.load-made.ensures.printed c.load-made.result c.load-made.ensures.blamed c.tell_change.ensures.made c.tell_change.ensures.refused c.tell_change.ensures.ends

pub returns-clause-meets : goal.returns-clause-meets
returns-clause-meets g c told =
    let v0 = g.T.Station.view c.args.station.now in
    let v2 = g.T.Station.view c.tell_change.new.station in
    let e = c.load-made.ensures in
    let shelf = g.F.Shelf.view c.args.shelf.now in
    let shelf_now = g.F.Shelf.view c.load-made.new.shelf in
    let fits = c.requires.«open».fits in
    over_known (files_of shelf_now) (λ (state : State) files. Mirrors v0.bytes state.gaz → Meets files (asks_load c.args.date) state shelf shelf_now v0 v2 c.tell_change.result)
    (λ state. over_known (files_of shelf_now) (λ (mirrors : Mirrors v0.bytes state.gaz) files. Meets files (asks_load c.args.date) state shelf shelf_now v0 v2 c.tell_change.result)
    (λ mirrors.
    let ch = e.changes told state.gaz (all_hold c.args.self.now.root v0 state.gaz (fits told) mirrors) in
    four_known (files_of shelf_now) ch.next_is ch.gives e.reached (stops_known _ _ (files_of shelf_now) (λ files. load files c.args.date) c.load-made.result told e.stopped)
    (λ files next_is gives reached stops.
    change_meets g.T.Station.view c.args.station.now c.load-made.new.station c.tell_change.new.station (done_of.Load c.args.date) shelf shelf_now c.tell_change.result e.counts.told e.printed
    files (asks_load c.args.date) state (load files c.args.date) refl tt (λ o told left. g.met.T.Station.only_now c.args.station.now o told left) (λ a told. g.met.T.Station.may_stay c.load-made.new.station a told)
    (λ told mirrors. all_hold c.args.self.now.root v0 state.gaz (fits told) mirrors)
    c.load-made.result ch.next told mirrors ch.moments next_is gives ch.leaves e.unwritten stops (if_err c.load-made.result _ _ (λ fault h. h told) e.sound) reached e.blamed c.tell_change.ensures.made c.tell_change.ensures.refused c.tell_change.ensures.ends)))

pub returns-clause-lasts : goal.returns-clause-lasts
returns-clause-lasts g c =
    let v0 = g.T.Station.view c.args.station.now in
    let e = c.load-made.ensures in
    let fits = c.requires.«open».fits in
    record {
      sound = λ told gaz mirrors.
          change_sound g.T.Station.view c.args.station.now c.load-made.new.station c.tell_change.new.station (done_of.Load c.args.date) (g.F.Shelf.view c.args.shelf.now) (g.F.Shelf.view c.load-made.new.shelf) c.tell_change.result e.counts.told e.printed
          told gaz mirrors (λ a told. g.met.T.Station.may_stay c.load-made.new.station a told) c.load-made.result (if_err c.load-made.result _ _ (λ fault h. h told) e.sound) c.tell_change.ensures.sound c.tell_change.ensures.sound_refused c.tell_change.ensures.ends;
      next = ok_over v0 c.tell_change.result _ (λ told gaz mirrors.
          let ch = e.changes told gaz (all_hold c.args.self.now.root v0 gaz (fits told) mirrors) in
          change_next g.T.Station.view c.args.station.now c.load-made.new.station c.tell_change.new.station (done_of.Load c.args.date) (g.F.Shelf.view c.args.shelf.now) (g.F.Shelf.view c.load-made.new.shelf) c.tell_change.result e.counts.told e.printed
          told gaz mirrors (λ a told. g.met.T.Station.may_stay c.load-made.new.station a told) c.load-made.result ch.next ch.leaves e.unwritten (if_err c.load-made.result _ _ (λ fault h. h told) e.sound) c.tell_change.ensures.made c.tell_change.ensures.refused c.tell_change.ensures.ends);
    }
