use Rattle.std.proofs.Common.{Bool, IsTrue, sym, subst}
use Rattle.gaz_turns.specs.Turns.{State}
use Rattle.gaz_turns.proofs.Told.{mirrors_now}
use Rattle.gaz_serve.proofs.Keeping.{run_keeps}
use Rattle.gaz_serve.proofs.law.served_runs_keep.Goals as goal

pub returns : goal.returns
returns g c = record {
  law = λ old_source new_source old_shelf new_shelf old_station new_station status bytes shelf_told told_bytes told ran.
      let old = g.T.Station.view old_station in
      let new = g.T.Station.view new_station in (
        subst (λ (b : Bool). IsTrue b) (sym ran.told) told,
        λ gaz holds.
            let state : State = record { gaz = gaz } in
            let mirrors = mirrors_now old gaz (λ a. g.met.T.Station.may_stay old_station a told) holds in
            let answers = ran.answers told shelf_told state mirrors in
            run_keeps state _ _ _ _ old new status answers.run bytes told_bytes told ran.told holds,
      );
}
