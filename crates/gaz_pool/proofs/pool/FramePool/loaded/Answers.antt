use Rattle.std.proofs.Common.{◌≤◌, length, ap, sym, subst}
use Rattle.std.proofs.lemmas.Option.{slice_get_past}
use Rattle.std.specs.Prelude.{List}
use Rattle.gaz_pool.specs.declared.frame.Frame.{Frame}
use Rattle.gaz_pool.specs.Pool.{bytes_or}
use Rattle.gaz_pool.proofs.pool.FramePool.loaded.Goals as goal

-- zeros where no frame was asked for
pub returns-in-None-clause-bytes : goal.returns-in-None-clause-bytes
returns-in-None-clause-bytes c =
    let pool = c.args.self.now in
    let past : length pool.table.frames.items ≤ pool.asked = subst (λ (frames : List Frame). length frames ≤ pool.asked) c.deref.ensures.value c.in-None.ensures.lookup.3 in
    ap bytes_or (sym (slice_get_past pool.table.frames.items pool.asked past))
