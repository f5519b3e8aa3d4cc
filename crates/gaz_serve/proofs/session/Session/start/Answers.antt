use Rattle.std.proofs.Common.{Bool, IsTrue, subst, arith}
use Rattle.gaz_serve.proofs.session.Session.start.Goals as goal

pub returns-in-Ok-open-clause-open : goal.returns-in-Ok-open-clause-open
returns-in-Ok-open-clause-open g c =
    let old = g.T.Station.view c.args.station.now in
    let new = g.T.Station.view c.«open».new.station in
    record { fits = λ told. (c.in-Ok-open.ensures.opened (subst (λ (b : Bool). IsTrue b) c.«open».ensures.opening.counts.told told)).fits }

pub returns-in-Ok-open-clause-holds : goal.returns-in-Ok-open-clause-holds
returns-in-Ok-open-clause-holds g c told gaz mirrors = (c.in-Ok-open.ensures.opened told).holds gaz mirrors

-- no more pages are read than by an opening
pub returns-in-Ok-open-clause-reads : goal.returns-in-Ok-open-clause-reads
returns-in-Ok-open-clause-reads g c told slots redo = let most = c.«open».ensures.reads told slots redo in omega (arith, most)

pub returns-in-Err-open-clause-reads : goal.returns-in-Err-open-clause-reads
returns-in-Err-open-clause-reads g c told slots redo = let most = c.«open».ensures.reads told slots redo in omega (arith, most)
