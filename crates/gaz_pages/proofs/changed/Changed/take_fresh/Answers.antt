use Rattle.std.proofs.Common.{◌+◌, ◌<◌, ◌^◌, List, refl, subst, sym, arith}
use Rattle.gaz_redo.specs.Slots.{Slot}
use Rattle.gaz_pages.specs.Laid.{AreKept, AreLaid}
use Rattle.gaz_pages.proofs.Changing.{others_put, few_put, laid_take, kept_take}
use Rattle.gaz_pages.proofs.changed.Changed.take_fresh.Goals as goal

-- the page that was never taken has an image now
pub invariant_of-self : goal.invariant_of-self
invariant_of-self c =
    let self = c.args.self.now in
    let small : self.fresh < 2 ^ 32 = omega arith in
    record {
      kept = subst (λ (l : List Slot). AreKept (self.fresh + 1) l self.past) (sym c.in-Ok.ensures.set)
          (kept_take c.args.area self.fresh _ c.requires small refl self.fresh self.images self.past self.kept refl);
    }

pub returns-in-Ok-clause-others : goal.returns-in-Ok-clause-others
returns-in-Ok-clause-others c file n differs =
    let self = c.args.self.now in
    let small : self.fresh < 2 ^ 32 = omega arith in
    others_put c.args.area self.fresh _ c.requires small refl self.images c.set.new.self self.past file n c.in-Ok.ensures.set differs

pub returns-in-Ok-clause-few : goal.returns-in-Ok-clause-few
returns-in-Ok-clause-few c =
    let self = c.args.self.now in
    few_put _ self.images c.set.new.self self.past self.past c.in-Ok.ensures.set refl

pub returns-in-Ok-clause-still : goal.returns-in-Ok-clause-still
returns-in-Ok-clause-still c before file are =
    let self = c.args.self.now in
    let small : self.fresh < 2 ^ 32 = omega arith in
    subst (λ (l : List Slot). AreLaid c.args.area before (self.fresh + 1) l self.past file) (sym c.in-Ok.ensures.set)
    (laid_take c.args.area self.fresh _ c.requires small refl before self.fresh self.images self.past file self.kept.in_order are refl)
