use Rattle.std.proofs.Common.{IsTrue, Bool, length, subst, sym, ◌∙◌}
use Rattle.std.specs.Prelude.{Result, Ok, Err, OnOk}
use Rattle.gaz_outside.proofs.Runs.{two_start, two_first, two_second}
use Rattle.gaz_outside.proofs.laws.write_two.Goals as goal

pub returns-in-Ok-clause-confined : goal.returns-in-Ok-clause-confined
returns-in-Ok-clause-confined g c told =
    let view = g.T.Station.view in
    let old = view c.args.station.now in
    let mid = view c.write_at.new.self in
    let n = length c.args.bytes.now in
    let m = length c.args.more.now in
    let told_mid : IsTrue mid.is_told = subst (λ (b : Bool). IsTrue b) (sym c.write_at.ensures.counts.told) told in
    let start = two_start c.args.first c.args.at n c.args.second c.args.from m old (λ o left. g.met.T.Station.only_now c.args.station.now o told left) in
    let first = two_first c.args.first c.args.at n c.args.second c.args.from m c.requires.areas old old mid start (c.write_at.ensures.changed told) in
    two_second c.args.first c.args.at n c.args.second c.args.from m c.requires.areas old mid (view c.write_at-in-Ok.new.self) first (c.write_at-in-Ok.ensures.changed told_mid)

pub returns-in-Err-clause-confined : goal.returns-in-Err-clause-confined
returns-in-Err-clause-confined g c told =
    let view = g.T.Station.view in
    let old = view c.args.station.now in
    let n = length c.args.bytes.now in
    let m = length c.args.more.now in
    let start = two_start c.args.first c.args.at n c.args.second c.args.from m old (λ o left. g.met.T.Station.only_now c.args.station.now o told left) in
    two_first c.args.first c.args.at n c.args.second c.args.from m c.requires.areas old old (view c.write_at.new.self) start (c.write_at.ensures.changed told)

-- what holds in any case
in_any_case : {T E : Type 0} (result : Result T E) (P : Type 0) → P → OnOk result P
in_any_case (Ok _) P holds = holds
in_any_case (Err _) P holds = tt

pub returns-in-Ok-clause-first_written : goal.returns-in-Ok-clause-first_written
returns-in-Ok-clause-first_written g c =
    let mid = g.T.Station.view c.write_at.new.self in
    in_any_case c.write_at-in-Ok.result _ (λ told.
    let told_mid : IsTrue mid.is_told = subst (λ (b : Bool). IsTrue b) (sym c.write_at.ensures.counts.told) told in
    ((c.write_at-in-Ok.ensures.changed told_mid).others c.args.first c.requires.areas).bytes ∙ c.in-Ok.ensures.written told)
