use Rattle.std.proofs.Common.{◌≡◌, false, sym, ◌∙◌, subst}
use Rattle.gaz_pool.specs.declared.frame.Frame.{Frame}
use Rattle.gaz_pool.specs.Frames.{NoneWaits}
use Rattle.gaz_framed.proofs.Kept.{dropped_any, all_without}
use Rattle.gaz_framed.proofs.keep.drop_of.Goals as goal

-- the frames of the side are dropped
pub returns-in-Some-clause-follows : goal.returns-in-Some-clause-follows
returns-in-Some-clause-follows c =
    dropped_any c.args.area c.in-Some.side c.args.pool.now.table.frames.items c.forget.new.self.table.frames.items (sym c.side_of.ensures ∙ c.in-Some.is) c.forget.ensures.frames

pub returns-in-Some-clause-none : goal.returns-in-Some-clause-none
returns-in-Some-clause-none c none = subst NoneWaits (sym c.forget.ensures.frames) (all_without (λ (f : Frame). f.waits ≡ false) c.in-Some.side c.args.pool.now.table.frames.items none)
