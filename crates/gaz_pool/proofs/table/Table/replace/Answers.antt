use Rattle.std.proofs.Common.{◌≡◌, ◌<◌, ◌∙◌, length, ap, subst, sym, arith, get_or}
use Rattle.std.proofs.lemmas.List.{map-set, length-set}
use Rattle.gaz_places.specs.Places.{found_in}
use Rattle.gaz_pool.specs.Frames.{number_of, pages_in, frame_at}
use Rattle.gaz_pool.specs.Table.{AreFound}
use Rattle.gaz_pool.proofs.Found.{found_none, place_unused, found_replaced}
use Rattle.gaz_pool.proofs.Lists.{frame_read, number_at, pages_long}
use Rattle.gaz_pool.proofs.table.Table.replace.Goals as goal

pub overflow_cast-place : goal.overflow_cast-place
overflow_cast-place c = let self = c.args.self.now in omega (arith, self.within, self.few, c.requires.there)

-- The page that was there has no place, nor has the new one yet, and the place no page.
pub put-requires-clause-new : goal.put-requires-clause-new
put-requires-clause-new c =
    let self = c.args.self.now in
    let frame : frame_at self.frames.items c.args.place ≡ c.index-last.result.now = frame_read self.frames.items c.args.place c.index-last.result.now c.requires.there c.index-last.ensures in
    let within : c.args.place < length (pages_in self.frames.items) = omega (arith, c.requires.there, pages_long self.frames.items) in
    let was : get_or (pages_in self.frames.items) c.args.place 0 ≡ c.number.result = number_at self.frames.items c.args.place c.requires.there ∙ ap number_of frame ∙ sym c.number.ensures in
    ap (found_in c.take_out.new.self) c.number-2.ensures
    ∙ c.take_out.ensures.others (number_of c.args.frame) (λ same. c.requires.new (c.args.place, within, was ∙ sym same))
    ∙ found_none (found_in self.places) (pages_in self.frames.items) (number_of c.args.frame) self.found c.requires.new

pub put-requires-clause-unused : goal.put-requires-clause-unused
put-requires-clause-unused c other =
    let self = c.args.self.now in
    let frame : frame_at self.frames.items c.args.place ≡ c.index-last.result.now = frame_read self.frames.items c.args.place c.index-last.result.now c.requires.there c.index-last.ensures in
    let within : c.args.place < length (pages_in self.frames.items) = omega (arith, c.requires.there, pages_long self.frames.items) in
    let was : get_or (pages_in self.frames.items) c.args.place 0 ≡ c.number.result = number_at self.frames.items c.args.place c.requires.there ∙ ap number_of frame ∙ sym c.number.ensures in
    place_unused (found_in self.places) (found_in c.take_out.new.self) (pages_in self.frames.items) c.args.place other self.found within
    (ap (found_in c.take_out.new.self) was ∙ c.take_out.ensures.gone)
    (λ n differs. c.take_out.ensures.others n (λ same. differs (same ∙ sym was)))

-- and now it has it
pub invariant_of-self-clause-found : goal.invariant_of-self-clause-found
invariant_of-self-clause-found c =
    let self = c.args.self.now in
    let number = c.number-2.ensures in
    let frame : frame_at self.frames.items c.args.place ≡ c.index-last.result.now = frame_read self.frames.items c.args.place c.index-last.result.now c.requires.there c.index-last.ensures in
    let within : c.args.place < length (pages_in self.frames.items) = omega (arith, c.requires.there, pages_long self.frames.items) in
    let was : get_or (pages_in self.frames.items) c.args.place 0 ≡ c.number.result = number_at self.frames.items c.args.place c.requires.there ∙ ap number_of frame ∙ sym c.number.ensures in
    subst (AreFound (found_in c.put.new.self)) (sym (map-set number_of self.frames.items c.args.place c.args.frame))
    (found_replaced (found_in self.places) (found_in c.take_out.new.self) (found_in c.put.new.self) (pages_in self.frames.items) c.args.place (number_of c.args.frame) self.found within c.requires.new
    (ap (found_in c.take_out.new.self) was ∙ c.take_out.ensures.gone)
    (λ n differs. c.take_out.ensures.others n (λ same. differs (same ∙ sym was)))
    (ap (found_in c.put.new.self) (sym number) ∙ c.put.ensures.here)
    (λ n differs. c.put.ensures.others n (λ same. differs (same ∙ number))))

pub invariant_of-self-clause-within : goal.invariant_of-self-clause-within
invariant_of-self-clause-within c = let self = c.args.self.now in omega (arith, self.within, length-set self.frames.items c.args.place c.args.frame, c.put.ensures.most, c.take_out.ensures.most)
