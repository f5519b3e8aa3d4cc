use Rattle.std.proofs.Common.{◌<◌, ◌^◌, List, arith}
use Rattle.std.proofs.lemmas.Bool.Decides.{nat_tests}
use Rattle.gaz_redo.specs.Slots.{Slot}
use Rattle.gaz_pages.specs.Laid.{AreKept}
use Rattle.gaz_pages.proofs.Changing.{by_result, kept_put, kept_past}
use Rattle.gaz_pages.proofs.changed.Changed.set.Goals as goal

-- an image of a page that was taken
pub invariant_of-self : goal.invariant_of-self
invariant_of-self c =
    let self = c.args.self.now in
    let home = c.args.home in
    let small : home.page < 2 ^ 32 = omega arith in
    let low : home.page < self.fresh = let test = c.if-home-self.true in grind (arith, nat_tests) in
    record {
      kept = by_result (λ (l : List Slot). AreKept self.fresh l self.past) c.set.result c.set.new.self _ self.images c.set.ensures.set c.set.ensures.kept
          (kept_put home.area home.page c.args.bytes.now c.requires.page small c.requires.size self.fresh self.images self.past self.kept low) self.kept;
    }

-- of one past them
pub invariant_of-self-else-home-self : goal.invariant_of-self-else-home-self
invariant_of-self-else-home-self c =
    let self = c.args.self.now in
    let home = c.args.home in
    let small : home.page < 2 ^ 32 = omega arith in
    let set = c.set-else-home-self in
    record {
      kept = by_result (λ (l : List Slot). AreKept self.fresh self.images l) set.result set.new.self _ self.past set.ensures.set set.ensures.kept
          (kept_past home.area home.page c.args.bytes.now c.requires.page small c.requires.size self.fresh self.images self.past self.kept) self.kept;
    }
