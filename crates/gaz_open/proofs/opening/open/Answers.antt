use Rattle.std.proofs.Common.{◌≡◌, arith, subst}
use Rattle.gaz_redo.proofs.Steps.{still}
use Rattle.gaz_outside.specs.declared.station.Area.{Area}
use Rattle.std.specs.Prelude.{ℕ, List}
use Rattle.gaz_open.specs.declared.fault.Place.{Place}
use Rattle.gaz_open.specs.declared.fault.Place.TheVariants.{Log, Root}
use Rattle.gaz_open.specs.declared.fault.OpenFault.{OpenFault}
use Rattle.gaz_open.specs.declared.fault.OpenFault.TheVariants.{NotAMirror}
use Rattle.gaz_open.specs.Opens.{HasLog, IsToBlame}
use Rattle.gaz_open.proofs.Opened.{no_log_no_gaz, fits_opened, read_settled, has_none, holds_now, holds_then, all_stable}
use Rattle.gaz_open.proofs.Settling.{opening_read}
use Rattle.gaz_open.proofs.opening.open.Goals as goal

-- the place that is told
same_place : (told place : Place) → NotAMirror told ≡ NotAMirror place → told ≡ place
same_place told place is = cc is

-- Root is to blame where the log isn't
blamed_root : (why : OpenFault) (place : Place) (areas : Area → List ℕ) → why ≡ NotAMirror place → (why ≡ NotAMirror Log → ⊥) → HasLog areas → IsToBlame place areas
blamed_root why Log areas is not log = absurd (not is)
blamed_root why Root areas is not log = log

pub returns-in-Ok-false-clause-none : goal.returns-in-Ok-false-clause-none
returns-in-Ok-false-clause-none g c told place is =
    let v0 = g.T.Station.view c.args.station.now in
    let no_log = c.in-Ok-false.ensures.no_log told c.in-Ok-false.field-0-test in
    record {
      none = λ gaz mirrors. no_log_no_gaz v0.bytes gaz no_log mirrors;
      nowhere = has_none v0 (λ a. g.met.T.Station.may_stay c.args.station.now a told) (λ gaz mirrors. no_log_no_gaz v0.bytes gaz no_log mirrors);
      blamed = subst (λ (p : Place). IsToBlame p v0.bytes) (same_place Log place is) no_log;
    }

pub returns-in-Ok-clause-opening : goal.returns-in-Ok-clause-opening
returns-in-Ok-clause-opening g c =
    let v0 = g.T.Station.view c.args.station.now in
    let v1 = g.T.Station.view c.settle.new.station in
    let v2 = g.T.Station.view c.read_mirror.new.station in
    opening_read v0 v1 v2 _ c.settle.ensures.opening (λ a told. g.met.T.Station.may_stay c.args.station.now a told) (λ told. c.in-Ok-true.ensures.settled told c.in-Ok-true.field-0-test) c.read_mirror.ensures.stays c.read_mirror.ensures.counts (λ told. c.read_mirror.ensures.costs)

pub returns-in-Err-read_mirror-clause-opening : goal.returns-in-Err-read_mirror-clause-opening
returns-in-Err-read_mirror-clause-opening g c =
    let v0 = g.T.Station.view c.args.station.now in
    let v1 = g.T.Station.view c.settle.new.station in
    let v2 = g.T.Station.view c.read_mirror.new.station in
    opening_read v0 v1 v2 _ c.settle.ensures.opening (λ a told. g.met.T.Station.may_stay c.args.station.now a told) (λ told. c.in-Ok-true.ensures.settled told c.in-Ok-true.field-0-test) c.read_mirror.ensures.stays c.read_mirror.ensures.counts (λ told. c.read_mirror.ensures.costs)

pub returns-in-Ok-clause-opened : goal.returns-in-Ok-clause-opened
returns-in-Ok-clause-opened g c told =
    let v0 = g.T.Station.view c.args.station.now in
    let v1 = g.T.Station.view c.settle.new.station in
    let v2 = g.T.Station.view c.read_mirror.new.station in
    let told1 = still v0.is_told v1.is_told c.settle.ensures.opening.counts.told told in
    let settled = c.in-Ok-true.ensures.settled told c.in-Ok-true.field-0-test in
    let run = c.read_mirror.ensures.stays told1 in
    record {
      fits = fits_opened v0 v1 v2 settled run _ (c.in-Ok.ensures.names told1);
      stable = all_stable v0 v1 v2 settled run;
      holds = holds_then v0 v1 v2 settled run;
    }

pub returns-in-Ok-clause-one : goal.returns-in-Ok-clause-one
returns-in-Ok-clause-one g c told gaz holds =
    let v0 = g.T.Station.view c.args.station.now in
    (returns-in-Ok-clause-opened g c told).holds gaz (holds_now v0 gaz (λ a. g.met.T.Station.may_stay c.args.station.now a told) holds)

pub returns-in-Err-read_mirror-clause-none : goal.returns-in-Err-read_mirror-clause-none
returns-in-Err-read_mirror-clause-none g c told place is =
    let v0 = g.T.Station.view c.args.station.now in
    let v1 = g.T.Station.view c.settle.new.station in
    let v2 = g.T.Station.view c.read_mirror.new.station in
    let told1 = still v0.is_told v1.is_told c.settle.ensures.opening.counts.told told in
    let settled = c.in-Ok-true.ensures.settled told c.in-Ok-true.field-0-test in
    let run = c.read_mirror.ensures.stays told1 in
    record {
      none = λ gaz mirrors. c.in-Err-read_mirror.ensures.none told1 place is gaz (read_settled v0 v1 v2 settled run gaz mirrors);
      nowhere = has_none v0 (λ a. g.met.T.Station.may_stay c.args.station.now a told) (λ gaz mirrors. c.in-Err-read_mirror.ensures.none told1 place is gaz (read_settled v0 v1 v2 settled run gaz mirrors));
      blamed = blamed_root c.in-Err-read_mirror.fault place v0.bytes is c.in-Err-read_mirror.ensures.place (c.in-Ok-true.ensures.log told c.in-Ok-true.field-0-test);
    }

pub returns-in-Ok-false-clause-reads : goal.returns-in-Ok-false-clause-reads
returns-in-Ok-false-clause-reads g c told slots redo = let most = c.settle.ensures.reads told slots redo in omega (arith, most)

pub returns-in-Err-clause-reads : goal.returns-in-Err-clause-reads
returns-in-Err-clause-reads g c told slots redo = let most = c.settle.ensures.reads told slots redo in omega (arith, most)

pub returns-in-Ok-clause-reads : goal.returns-in-Ok-clause-reads
returns-in-Ok-clause-reads g c told slots redo =
    let so_far = c.settle.ensures.reads told slots redo in let further = c.read_mirror.ensures.costs.reads in omega (arith, so_far, further)

pub returns-in-Err-read_mirror-clause-reads : goal.returns-in-Err-read_mirror-clause-reads
returns-in-Err-read_mirror-clause-reads g c told slots redo =
    let so_far = c.settle.ensures.reads told slots redo in let further = c.read_mirror.ensures.costs.reads in omega (arith, so_far, further)
