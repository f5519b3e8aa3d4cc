use Rattle.std.proofs.Common.{◌≡◌, arith, ap, sym, ◌∙◌, set, List, ℕ}
use Rattle.std.proofs.lemmas.List.{length-set}
use Rattle.gaz_places.specs.Places.{found_in}
use Rattle.gaz_pool.specs.declared.frame.Frame.{Frame}
use Rattle.gaz_pool.specs.Frames.{number_of, filled}
use Rattle.gaz_pool.proofs.Lists.{frame_read}
use Rattle.gaz_pool.proofs.Pages.{found_filled}
use Rattle.gaz_pool.proofs.table.Table.fill.Goals as goal

-- the page is the same
pub invariant_of-self-clause-found : goal.invariant_of-self-clause-found
invariant_of-self-clause-found c =
    let self = c.args.self.now in
    let frame = c.index_mut-frame.result.now in
    found_filled (found_in self.places) self.frames.items c.args.place (filled c.copy_from_slice.new.self c.args.waits frame)
    (ap number_of (sym (frame_read self.frames.items c.args.place frame c.requires.there c.index_mut-frame.ensures.value))) self.found

pub invariant_of-self-clause-within : goal.invariant_of-self-clause-within
invariant_of-self-clause-within c =
    let self = c.args.self.now in
    omega (arith, self.within, length-set self.frames.items c.args.place (filled c.copy_from_slice.new.self c.args.waits c.index_mut-frame.result.now))

pub returns-clause-frames : goal.returns-clause-frames
returns-clause-frames c =
    let self = c.args.self.now in
    let frame = c.index_mut-frame.result.now in
    let bytes : c.copy_from_slice.new.self ≡ c.args.bytes.now = c.copy_from_slice.ensures.after in
    ap (λ (b : List ℕ). set self.frames.items c.args.place (filled b c.args.waits frame)) bytes
    ∙ ap (λ (f : Frame). set self.frames.items c.args.place (filled c.args.bytes.now c.args.waits f)) (sym (frame_read self.frames.items c.args.place frame c.requires.there c.index_mut-frame.ensures.value))
