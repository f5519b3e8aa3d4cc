use Rattle.std.proofs.Common.{◌≡◌, ◌+◌, List, ℕ, length, ◌++◌, subst, ◌∙◌, ap, arith, append_assoc, length-append}
use Rattle.gaz_outside.specs.declared.station.Area.TheVariants.{Log}
use Rattle.gaz_outside.specs.Station.{overlaid}
use Rattle.gaz_redo.specs.Batch.{once_out}
use Rattle.gaz_redo.specs.Slots.{StartsWith}
use Rattle.gaz_redo.specs.Content.{head_of}
use Rattle.gaz_redo.proofs.Batches.{only_there, any_more}
use Rattle.gaz_redo.proofs.Written.{append_written}
use Rattle.gaz_redo.proofs.Steps.{still}
use Rattle.gaz_redo.proofs.place.put_slot.Goals as goal

pub returns-in_err-put-clause-confined : goal.returns-in_err-put-clause-confined
returns-in_err-put-clause-confined g c told =
    let view = g.T.Station.view in
    only_there c.args.batch.now Log (view c.args.station.now) (view c.put.new.station) c.requires.area (c.put.ensures.confined told)

pub returns-clause-confined : goal.returns-clause-confined
returns-clause-confined g c told =
    let view = g.T.Station.view in
    let v0 = view c.args.station.now in
    let v1 = view c.put.new.station in
    let told1 = still v0.is_told v1.is_told c.put.ensures.counts.told told in
    any_more c.put.new.self Log v0 v1 (view c.put-2.new.station) c.in_ok-put.ensures.takes.0
    (only_there c.args.batch.now Log v0 v1 c.requires.area (c.put.ensures.confined told)) (c.put-2.ensures.confined told1)

pub returns-clause-logged : goal.returns-clause-logged
returns-clause-logged g c told front place starts =
    let view = g.T.Station.view in
    let v0 = view c.args.station.now in
    let v1 = view c.put.new.station in
    let v2 = view c.put-2.new.station in
    let told1 = still v0.is_told v1.is_told c.put.ensures.counts.told told in
    let head = head_of c.args.image.now.home.area c.args.image.now.home.page in
    let image = c.args.image.now.bytes.items in
    let log0 = once_out c.args.batch.now v0.bytes Log in
    let log1 = once_out c.put.new.self v1.bytes Log in
    let log2 = once_out c.put-2.new.self v2.bytes Log in
    let first : StartsWith (front ++ head) log1 =
    append_written front head log0 log1 c.args.at place starts
    (c.in_ok-put.ensures.placed told Log ∙ ap (λ (b : List ℕ). overlaid log0 c.args.at b) c.slot_head.ensures) in
    let place2 : length (front ++ head) ≡ c.args.at + 16 = omega (arith, length-append front head, place) in
    let second : StartsWith ((front ++ head) ++ image) log2 =
    append_written (front ++ head) image log1 log2 (c.args.at + 16) place2 first
    (c.in_ok-put-2.ensures.placed told1 Log ∙ ap (λ (b : List ℕ). overlaid log1 (c.args.at + 16) b) c.deref.ensures.value) in
    subst (λ (l : List ℕ). StartsWith l log2) (append_assoc front head image) second

pub returns-in_err-put-2-clause-confined : goal.returns-in_err-put-2-clause-confined
returns-in_err-put-2-clause-confined g c told =
    let view = g.T.Station.view in
    let v0 = view c.args.station.now in
    let v1 = view c.put.new.station in
    let told1 = still v0.is_told v1.is_told c.put.ensures.counts.told told in
    any_more c.put.new.self Log v0 v1 (view c.put-2.new.station) c.in_ok-put.ensures.takes.0
    (only_there c.args.batch.now Log v0 v1 c.requires.area (c.put.ensures.confined told)) (c.put-2.ensures.confined told1)
