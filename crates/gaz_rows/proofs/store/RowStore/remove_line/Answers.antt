use Rattle.std.proofs.Common.{◌∙◌, [], ◌∷◌, sym, subst, ap, arith}
use Rattle.std.specs.Prelude.{IsTrue}
use Rattle.gaz_page.specs.declared.tree_root.Root.{Root}
use Rattle.gaz_leaf.specs.Node.{key_of}
use Rattle.gaz_tree.specs.Pairs.{without}
use Rattle.gaz_rows.specs.Work.{without_all, missing_in}
use Rattle.gaz_rows.specs.Laid.{IsLaid}
use Rattle.gaz_rows.proofs.Working.{map_ok, less_room, turns_on, without_fewer}
use Rattle.gaz_rows.proofs.Changing.{gone_by}
use Rattle.gaz_rows.proofs.store.RowStore.remove_line.Goals as goal

pub returns-in-Err-clause-damaged : goal.returns-in-Err-clause-damaged
returns-in-Err-clause-damaged g c told pairs places laid there left =
    let enough = left.few in
    c.in-Err.ensures.damaged told pairs (c.args.self.now.root.heap ∷ []) places laid (less_room 200 0 (g.P.Pages.view c.args.self.now.pages) (omega arith) left.room) (omega (arith, enough))

pub returns-in-Ok-remove_missing-clause-gone : goal.returns-in-Ok-remove_missing-clause-gone
returns-in-Ok-remove_missing-clause-gone g c =
    let v = g.P.Pages.view in
    let old = v c.args.self.now.pages in
    let one = v c.remove_key.new.self.pages in
    let two = v c.remove_missing.new.self.pages in
    let new = v c.drop_record.new.self.pages in
    let root = c.args.self.now.root in
    let key = key_of c.args.key.now in
    let more = missing_in [] c.args.more.now in
    map_ok c.drop_record.result
    (λ drops told pairs places laid there.
    let told_one : IsTrue one.is_told = subst IsTrue (sym c.remove_key.ensures.goes_on.told) told in
    let told_two : IsTrue two.is_told = subst IsTrue (sym c.remove_missing.ensures.goes_on.told) told_one in
    let turned = turns_on 0 0 (without key) (without_all more) old one two root c.remove_key.new.self.root c.remove_missing.new.self.root
    (c.in-Ok.ensures.turns told) (c.in-Ok-remove_missing.ensures.turns told_one) in
    record {
      changed = gone_by 0 (λ ps. without_all more (without key ps)) old two new root c.remove_missing.new.self.root c.drop_record.new.self.root pairs places c.args.place laid turned
          (ap (λ (r : Root). r.heap) c.remove_missing.ensures.root ∙ ap (λ (r : Root). r.heap) c.remove_key.ensures.root) c.drop_record.ensures.root
          (λ laid_two. drops told_two (without_all more (without key pairs)) places laid_two there);
    })
    c.drop_record.ensures.dropped

pub returns-in-Ok-remove_missing-clause-damaged : goal.returns-in-Ok-remove_missing-clause-damaged
returns-in-Ok-remove_missing-clause-damaged g c told pairs places laid there left =
    let v = g.P.Pages.view in
    let one = v c.remove_key.new.self.pages in
    let two = v c.remove_missing.new.self.pages in
    let root = c.args.self.now.root in
    let key = key_of c.args.key.now in
    let more = missing_in [] c.args.more.now in
    let told_one : IsTrue one.is_told = subst IsTrue (sym c.remove_key.ensures.goes_on.told) told in
    let told_two : IsTrue two.is_told = subst IsTrue (sym c.remove_missing.ensures.goes_on.told) told_one in
    let turned = turns_on 0 0 (without key) (without_all more) (v c.args.self.now.pages) one two root c.remove_key.new.self.root c.remove_missing.new.self.root
    (c.in-Ok.ensures.turns told) (c.in-Ok-remove_missing.ensures.turns told_one) pairs (root.heap ∷ []) places laid in
    let heap = ap (λ (r : Root). r.heap) c.remove_missing.ensures.root ∙ ap (λ (r : Root). r.heap) c.remove_key.ensures.root in
    c.drop_record.ensures.damaged told_two (without_all more (without key pairs)) places
    (subst (λ h. IsLaid two c.remove_missing.new.self.root (without_all more (without key pairs)) (h ∷ []) places) (sym heap) turned.laid) there

pub returns-in-Err-remove_missing-clause-damaged : goal.returns-in-Err-remove_missing-clause-damaged
returns-in-Err-remove_missing-clause-damaged g c told pairs places laid there left =
    let v = g.P.Pages.view in
    let one = v c.remove_key.new.self.pages in
    let enough = left.few in
    let told_one : IsTrue one.is_told = subst IsTrue (sym c.remove_key.ensures.goes_on.told) told in
    let turned = c.in-Ok.ensures.turns told pairs (c.args.self.now.root.heap ∷ []) places laid in
    let less = without_fewer (key_of c.args.key.now) pairs in
    c.in-Err-remove_missing.ensures.damaged told_one (without (key_of c.args.key.now) pairs) (c.args.self.now.root.heap ∷ []) places turned.laid
    (turned.room 0 (less_room 200 0 (v c.args.self.now.pages) (omega arith) left.room)) (omega (arith, less, enough))
