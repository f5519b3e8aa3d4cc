use Rattle.std.proofs.Common.{refl, subst, ◌∙◌, arith}
use Rattle.std.specs.Prelude.{Some, []}
use Rattle.gaz_tree.specs.Pairs.{put}
use Rattle.gaz_keys.specs.Lines.{more_keys}
use Rattle.gaz_rows.specs.Change.{HasCome}
use Rattle.gaz_rows.specs.Steps.{pair_at}
use Rattle.gaz_rows.specs.Work.{put_zeros, missing_in}
use Rattle.gaz_rows.proofs.SteppedRoots.{changed_root, come_fault}
use Rattle.gaz_rows.proofs.store.RowStore.come.Goals as goal

pub returns-in-Ok-add_line-clause-come : goal.returns-in-Ok-add_line-clause-come
returns-in-Ok-add_line-clause-come g c told pairs places laid =
    let v = g.P.Pages.view in
    let root = c.add_line.new.self.root in
    let same = c.as_slice.ensures ∙ c.in-Ok.ensures.keys in
    let come = subst (λ more. HasCome (v c.args.self.now.pages) (v c.add_line.new.self.pages) root pairs places c.args.key.now more c.args.line.now) same
    (c.in-Ok-add_line.ensures.come told pairs places laid) in
    record {
      place = come.place;
      changed = changed_root (v c.args.self.now.pages) (v c.add_line.new.self.pages) root (record root { counts = c.set_count.new.counts })
          (put_zeros (missing_in [] (more_keys c.args.table c.args.line.now)) (put (pair_at c.args.key.now come.place) pairs)) places (Some c.args.line.now) come.place refl refl refl come.changed;
    }

pub returns-in-Err-add_line-clause-fault : goal.returns-in-Err-add_line-clause-fault
returns-in-Err-add_line-clause-fault g c =
    let count = c.count_of-count.ensures in
    let limit = c.limit_of.ensures in
    let less = c.if-count-limit_of.false in
    come_fault c.args.table c.args.self.now.root (g.P.Pages.view c.args.self.now.pages) c.in-Err-add_line.fault c.from.result
    (λ told pairs places laid left. c.in-Err-add_line.ensures.damaged told pairs places laid left) (omega (arith, count, limit, less)) c.from.ensures
