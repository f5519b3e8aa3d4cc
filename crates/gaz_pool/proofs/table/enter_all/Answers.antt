use Rattle.std.proofs.Common.{◌∙◌, ◌<◌, length, ap, sym, arith}
use Rattle.gaz_places.specs.Places.{found_in}
use Rattle.gaz_pool.specs.Frames.{pages_in}
use Rattle.gaz_pool.proofs.Found.{next_new, next_unused, next_entered}
use Rattle.gaz_pool.proofs.Lists.{number_at, pages_long}
use Rattle.gaz_pool.proofs.table.enter_all.Goals as goal

-- the next page has no place yet, and the place no page
pub put-requires-clause-new : goal.put-requires-clause-new
put-requires-clause-new c =
    let frames = c.args.frames.now in
    let place = c.loop-place.place in
    let there : place < length (pages_in frames) = omega (arith, c.loop-place-test.true, pages_long frames) in
    ap (found_in c.loop-place.places) (c.number.ensures ∙ sym (number_at frames place c.loop-place-test.true))
    ∙ next_new (found_in c.loop-place.places) (pages_in frames) place c.requires.once there c.loop-place.invariant.found

pub put-requires-clause-unused : goal.put-requires-clause-unused
put-requires-clause-unused c other =
    let frames = c.args.frames.now in
    next_unused (found_in c.loop-place.places) (pages_in frames) c.loop-place.place other (omega (arith, c.loop-place-test.true, pages_long frames)) c.loop-place.invariant.found

-- and now it has it
pub loop-place-preserved : goal.loop-place-preserved
loop-place-preserved c =
    let frames = c.args.frames.now in
    let place = c.loop-place.place in
    let there : place < length (pages_in frames) = omega (arith, c.loop-place-test.true, pages_long frames) in
    let number = c.number.ensures ∙ sym (number_at frames place c.loop-place-test.true) in
    record {
      found = next_entered (found_in c.loop-place.places) (found_in c.put.new.self) (pages_in frames) place c.requires.once there c.loop-place.invariant.found
          (ap (found_in c.put.new.self) (sym number) ∙ c.put.ensures.here)
          (λ other differs. c.put.ensures.others other (λ same. differs (same ∙ number)));
      most = c.put.ensures.most ∙ c.loop-place.invariant.most;
    }
