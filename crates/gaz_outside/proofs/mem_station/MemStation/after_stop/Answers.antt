use Rattle.std.proofs.Common.{◌≡◌, [], ◌∷◌, reverse, rules, subst, sym, ap}
use Rattle.gaz_outside.specs.declared.station.Area.{Area}
use Rattle.gaz_outside.specs.declared.event.Event.TheVariants.{Began}
use Rattle.gaz_outside.specs.Events.{MayLeave, area_bytes, text_of}
use Rattle.gaz_outside.specs.Stopped.{stopped}
use Rattle.gaz_outside.proofs.StopOutcomes.{may_be_stopped, begins_with_outcome}
use Rattle.gaz_outside.proofs.mem_station.MemStation.after_stop.Goals as goal

pub returns-clause-outcome : goal.returns-clause-outcome
returns-clause-outcome c =
    let events = reverse c.args.self.now.record_of_calls.items in
    let begun = c.in_ok-copy.field-0 in
    let left : (a : Area) → area_bytes begun a ≡ stopped c.args.keep c.args.fill events [] a = λ a. search rules in
    let text : c.in_ok-to_vec.field-0.items ≡ text_of events = search rules in
    let kept : c.push.new.self.items ≡ Began begun c.in_ok-to_vec.field-0 ∷ [] = search rules in
    let leaves = begins_with_outcome events c.push.new.self.items begun c.in_ok-to_vec.field-0 kept (λ a. subst (MayLeave events a) (sym (left a)) (may_be_stopped c.args.keep c.args.fill events [] a)) text in
    record { areas = leaves.0; text = leaves.1 }

pub returns-clause-kept : goal.returns-clause-kept
returns-clause-kept c =
    let begun = c.in_ok-copy.field-0 in
    let text = c.in_ok-to_vec.field-0 in
    let kept : c.push.new.self.items ≡ Began begun text ∷ [] = search rules in
    (begun, text, ap reverse kept)
