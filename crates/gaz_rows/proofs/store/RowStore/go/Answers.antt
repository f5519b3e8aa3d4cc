use Rattle.std.proofs.Common.{refl, subst, ◌∙◌}
use Rattle.std.specs.Prelude.{None, []}
use Rattle.gaz_leaf.specs.Node.{key_of}
use Rattle.gaz_tree.specs.Pairs.{without}
use Rattle.gaz_keys.specs.Lines.{more_keys}
use Rattle.gaz_rows.specs.Laid.{all_but}
use Rattle.gaz_rows.specs.Change.{HasGone}
use Rattle.gaz_rows.specs.Work.{without_all, missing_in}
use Rattle.gaz_rows.proofs.SteppedRoots.{changed_root, change_fault}
use Rattle.gaz_rows.proofs.store.RowStore.go.Goals as goal

pub returns-in-Ok-remove_line-clause-gone : goal.returns-in-Ok-remove_line-clause-gone
returns-in-Ok-remove_line-clause-gone g c told pairs places laid there =
    let v = g.P.Pages.view in
    let root = c.remove_line.new.self.root in
    let same = c.as_slice.ensures ∙ c.in-Ok.ensures.keys in
    let gone = subst (λ more. HasGone (v c.args.self.now.pages) (v c.remove_line.new.self.pages) root pairs places c.args.key.now more c.args.place) same
    (c.in-Ok-remove_line.ensures.gone told pairs places laid there) in
    record {
      changed = changed_root (v c.args.self.now.pages) (v c.remove_line.new.self.pages) root (record root { counts = c.set_count.new.counts })
          (without_all (missing_in [] (more_keys c.args.table c.args.was.now)) (without (key_of c.args.key.now) pairs)) (all_but c.args.place places) None 0 refl refl refl gone.changed;
    }

pub returns-in-Err-remove_line-clause-fault : goal.returns-in-Err-remove_line-clause-fault
returns-in-Err-remove_line-clause-fault g c =
    change_fault c.args.table c.args.self.now.root (g.P.Pages.view c.args.self.now.pages) c.args.place c.args.was.now c.in-Err-remove_line.fault c.from.result
    (λ told pairs places laid there left. c.in-Err-remove_line.ensures.damaged told pairs places laid there left) c.from.ensures
