use Rattle.std.proofs.Common.{◌*◌, ◌+◌, take, refl, sym, ◌∙◌, subst}
use Rattle.gaz_pool.specs.Frames.{NoneWaits}
use Rattle.gaz_framed.proofs.Kept.{follows_none, follows_more, none_given, front_long, page_long, page_on}
use Rattle.gaz_framed.proofs.keep.refresh_all.Goals as goal

-- no page was given yet
pub loop-n-init : goal.loop-n-init
loop-n-init c = record { follows = follows_none c.args.side (4096 * c.args.first) c.args.pool.now.table.frames.items; none = λ none. none; room = refl }

-- and so has the next
pub loop-n-preserved : goal.loop-n-preserved
loop-n-preserved c =
    let n = c.loop-n.n in
    let bytes = c.args.bytes.now in
    let frames = c.loop-n.pool.table.frames.items in
    record {
      follows = follows_more c.args.side c.args.first n (take (4096 * n) bytes) _ (take (4096 * (n + 1)) bytes) c.args.pool.now.table.frames.items frames c.refresh.new.self.table.frames.items
          (front_long bytes n c.requires.whole c.loop-n-test.true) (page_long bytes n c.requires.whole c.loop-n-test.true) (page_on bytes n c.requires.whole c.loop-n-test.true) c.refresh.ensures.frames c.loop-n.invariant.follows;
      none = λ none. subst NoneWaits (sym c.refresh.ensures.frames) (none_given c.args.side (c.args.first + n) _ frames (c.loop-n.invariant.none none));
      room = c.refresh.ensures.room ∙ c.loop-n.invariant.room;
    }
