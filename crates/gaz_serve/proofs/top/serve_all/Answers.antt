use Rattle.std.proofs.Common.{◌≡◌, ℕ, Bool, IsTrue, ◌+◌, refl, sym, subst, arith, inl, inr, ◌∙◌}
use Rattle.gaz_outside.specs.Outside.{RisesOnce, left_of}
use Rattle.gaz_rows.specs.Holds.{AllHold}
use Rattle.gaz_turns.proofs.Told.{mirrors_now, same_printed}
use Rattle.gaz_serve.specs.Bounds.{most_opened, most_read_in, most_written_in}
use Rattle.gaz_serve.specs.Ran.{IsUnopened}
use Rattle.gaz_serve.proofs.Answered.{answered, run_opened, stops_opened, exit_opened, with_unopened, opened_status}
use Rattle.gaz_serve.proofs.Reading.{opened_reads, opened_writes}
use Rattle.gaz_serve.proofs.Unopened.{opens_nothing}
use Rattle.gaz_serve.proofs.Refusing.{served_unopened, is_fresh, refused}
use Rattle.gaz_serve.proofs.Telling.{tells_from}
use Rattle.gaz_serve.proofs.top.serve_all.Goals as goal

pub returns-in-Err : goal.returns-in-Err
returns-in-Err g c =
    served_unopened g.S.Source.view g.F.Shelf.view g.T.Station.view c.args.only_empty c.args.requests.now c.args.shelf.now c.args.station.now c.args.station.now 5 (inr (inl refl)) (g.met.F.Shelf.faults_fit c.args.shelf.now)
    (opens_nothing (g.T.Station.view c.args.station.now) (λ o told left. g.met.T.Station.only_now c.args.station.now o told left))
    (λ t o told le leaves. g.met.T.Station.counts_now c.args.station.now t o told le leaves)
    (λ is. absurd (omega (arith, is))) (λ is. absurd (omega (arith, is))) (λ is. refl) (λ told slots redo. omega arith)

pub returns-in-Err-Station : goal.returns-in-Err-Station
returns-in-Err-Station g c =
    let e = c.start.ensures in
    served_unopened g.S.Source.view g.F.Shelf.view g.T.Station.view c.args.only_empty c.args.requests.now c.args.shelf.now c.args.station.now c.start.new.station 3 (inl refl) (g.met.F.Shelf.faults_fit c.args.shelf.now)
    e.opening
    (λ t o told le leaves. g.met.T.Station.counts_now c.start.new.station t o told le leaves)
    (λ is. absurd (omega (arith, is))) (λ is. rw c.in-Err-Station.field-0-is at c.in-Err-Station.ensures.cause) (λ is. absurd (is refl)) e.reads

pub returns-in-Err-Memory : goal.returns-in-Err-Memory
returns-in-Err-Memory g c =
    let e = c.start.ensures in
    served_unopened g.S.Source.view g.F.Shelf.view g.T.Station.view c.args.only_empty c.args.requests.now c.args.shelf.now c.args.station.now c.start.new.station 5 (inr (inl refl)) (g.met.F.Shelf.faults_fit c.args.shelf.now)
    e.opening
    (λ t o told le leaves. g.met.T.Station.counts_now c.start.new.station t o told le leaves)
    (λ is. absurd (omega (arith, is))) (λ is. absurd (omega (arith, is))) (λ is. rw c.in-Err-Memory.field-0-is at c.in-Err-Memory.ensures.cause) e.reads

pub returns : goal.returns
returns g c =
    let e = c.start.ensures in
    served_unopened g.S.Source.view g.F.Shelf.view g.T.Station.view c.args.only_empty c.args.requests.now c.args.shelf.now c.args.station.now c.start.new.station 6 (inr (inr refl)) (g.met.F.Shelf.faults_fit c.args.shelf.now)
    e.opening
    (λ t o told le leaves. g.met.T.Station.counts_now c.start.new.station t o told le leaves)
    (λ is told. (c.in-Err-NotAMirror.ensures.none told _ c.in-Err-NotAMirror.field-0-is).none) (λ is. absurd (omega (arith, is))) (λ is. rw c.in-Err-NotAMirror.field-0-is at c.in-Err-NotAMirror.ensures.cause) e.reads

pub returns-in-Ok-start : goal.returns-in-Ok-start
returns-in-Ok-start g c =
    let e = c.run.ensures in
    let s = c.start.ensures in
    let old = g.T.Station.view c.args.station.now in
    let mid = g.T.Station.view c.start.new.station in
    let new = g.T.Station.view c.run.new.station in
    let shelf = g.F.Shelf.view c.args.shelf.now in
    let shelf_now = g.F.Shelf.view c.run.new.shelf in
    let others = with_unopened c.run.result e.others in
    let faults = c.in-Ok-start.ensures.cause in
    let opening = s.opening in
    let fresh = is_fresh c.args.only_empty old mid c.in-Ok-start.session.root opening.counts.told c.in-Ok-start.ensures.open.fits (λ told gaz mirrors. mirrors_now mid gaz (λ a. g.met.T.Station.may_stay c.start.new.station a (subst (λ (b : Bool). IsTrue b) (sym opening.counts.told) told)) (c.in-Ok-start.ensures.holds told gaz mirrors)) (sym c.is_in_the_way.ensures ∙ c.if-is_in_the_way.false) in
    let failed : c.run.result ≡ 3 → RisesOnce old.faults new.faults = λ is. subst (λ (n : ℕ). RisesOnce n new.faults) faults (e.station is) in
    inl ((
      record {
        answers = λ told shelf_told first mirrors.
            let here = subst (λ (b : Bool). IsTrue b) (sym opening.counts.told) told in
            let holds : IsTrue old.is_told → AllHold mid first.gaz = λ told. c.in-Ok-start.ensures.holds told first.gaz mirrors in
            let within = e.answers here shelf_told first (mirrors_now mid first.gaz (λ a. g.met.T.Station.may_stay c.start.new.station a here) (holds told)) in
            let run = within.run in
            answered first (left_of (g.S.Source.view c.args.requests.now)) (left_of (g.S.Source.view c.run.new.source)) (g.S.Source.view c.args.requests.now).faults (g.S.Source.view c.run.new.source).faults shelf shelf_now old new (IsUnopened c.args.requests.now c.run.new.source c.args.shelf.now c.run.new.shelf old new c.run.result) c.run.result
            (run_opened first _ _ shelf shelf_now old mid new c.run.result opening holds run)
            (λ told slots redo. opened_reads (most_read_in first run.turns) old mid new (most_opened slots) (s.reads told slots redo) within.reads)
            (λ told slots redo. opened_writes (most_written_in first run.turns) old mid new (slots + 1) (let most = opening.writes told slots redo in omega (arith, most)) within.writes)
            (stops_opened first _ _ shelf shelf_now old mid new c.run.result opening holds run)
            (inr (exit_opened first _ _ shelf shelf_now old mid new c.run.result opening holds run e.told))
            failed e.source others;
        failures = tells_from shelf shelf_now old mid new c.run.result (same_printed old mid opening.counts.told opening.printed) e.failures;
        none = λ six told gaz mirrors.
            let here = subst (λ (b : Bool). IsTrue b) (sym opening.counts.told) told in
            e.damaged six here gaz (mirrors_now mid gaz (λ a. g.met.T.Station.may_stay c.start.new.station a here) (c.in-Ok-start.ensures.holds told gaz mirrors));
        unopened = λ is. opened_status c.run.result e.others is;
        emptied = e.emptied;
        past = e.past;
        taken = e.taken;
        shelf_told = e.shelf_told;
        numbers = e.numbers;
        station_failed = failed;
        station_kept = λ is. e.station_kept is ∙ faults;
        source_failed = e.source;
        source_kept = e.source_kept;
        told = e.told ∙ opening.counts.told;
        others = others;
      },
      λ only told gaz mirrors. inl (fresh only told gaz mirrors),
    ))

pub returns-then-is_in_the_way : goal.returns-then-is_in_the_way
returns-then-is_in_the_way g c =
    let r = c.refuse_trial.ensures in
    let opened = c.in-Ok-start.ensures in
    inr (refused c.args.only_empty (g.T.Station.view c.args.station.now) (g.T.Station.view c.start.new.station) (g.T.Station.view c.refuse_trial.new.station) c.in-Ok-start.session.root c.refuse_trial.result
    c.start.ensures.opening opened.open.fits opened.holds
    (λ told a. g.met.T.Station.may_stay c.args.station.now a told) (λ told a. g.met.T.Station.may_stay c.start.new.station a told)
    opened.cause r.ends r.appends r.told r.failed r.kept (sym c.is_in_the_way.ensures ∙ c.if-is_in_the_way.true))
