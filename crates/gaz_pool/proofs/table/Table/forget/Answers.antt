use Rattle.std.proofs.Common.{◌≡◌, ◌∙◌, List, subst, sym, rules}
use Rattle.std.proofs.lemmas.Fn.{filter_same}
use Rattle.gaz_places.specs.Places.{found_in}
use Rattle.gaz_pool.specs.declared.frame.Frame.{Frame}
use Rattle.gaz_pool.specs.Frames.{pages_in, is_beside, without_side}
use Rattle.gaz_pool.specs.Table.{OneEach}
use Rattle.gaz_pool.proofs.Filtered.{once_filtered}
use Rattle.gaz_pool.proofs.Found.{found_once}
use Rattle.gaz_pool.proofs.table.Table.forget.Goals as goal

-- those of the side are gone
pub returns-clause-frames : goal.returns-clause-frames
returns-clause-frames c = filter_same _ (is_beside c.args.side) _ (λ frame b f called. search rules) c.args.self.now.frames.items c.retain.new.self.items c.retain.ensures.filtered

pub enter_all-requires-clause-once : goal.enter_all-requires-clause-once
enter_all-requires-clause-once c =
    let table = c.args.self.now in
    let left : c.retain.new.self.items ≡ without_side c.args.side table.frames.items = filter_same _ (is_beside c.args.side) _ (λ frame b f called. search rules) table.frames.items c.retain.new.self.items c.retain.ensures.filtered in
    subst (λ (l : List Frame). OneEach (pages_in l)) (sym (c.deref.ensures.value ∙ left))
    (once_filtered (is_beside c.args.side) table.frames.items (found_once (found_in table.places) (pages_in table.frames.items) table.found))
