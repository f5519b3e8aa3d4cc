use Rattle.std.proofs.Common.{arith, ap, sym, set}
use Rattle.std.proofs.lemmas.List.{length-set}
use Rattle.gaz_places.specs.Places.{found_in}
use Rattle.gaz_pool.specs.declared.frame.Frame.{Frame}
use Rattle.gaz_pool.specs.Frames.{number_of, settled}
use Rattle.gaz_pool.proofs.Lists.{frame_read}
use Rattle.gaz_pool.proofs.Pages.{found_filled}
use Rattle.gaz_pool.proofs.table.Table.settle.Goals as goal

-- the page is the same
pub invariant_of-self-clause-found : goal.invariant_of-self-clause-found
invariant_of-self-clause-found c =
    let self = c.args.self.now in
    let frame = c.index_mut.result.now in
    found_filled (found_in self.places) self.frames.items c.args.place (settled frame)
    (ap number_of (sym (frame_read self.frames.items c.args.place frame c.requires.there c.index_mut.ensures.value))) self.found

pub invariant_of-self-clause-within : goal.invariant_of-self-clause-within
invariant_of-self-clause-within c =
    let self = c.args.self.now in
    omega (arith, self.within, length-set self.frames.items c.args.place (settled c.index_mut.result.now))

pub returns-clause-frames : goal.returns-clause-frames
returns-clause-frames c =
    let self = c.args.self.now in
    let frame = c.index_mut.result.now in
    ap (λ (f : Frame). set self.frames.items c.args.place (settled f)) (sym (frame_read self.frames.items c.args.place frame c.requires.there c.index_mut.ensures.value))
