use Rattle.std.proofs.Common.{◌+◌, ◌*◌, ◌∙◌, [], ◌∷◌, length, sym, subst, ap, arith}
use Rattle.std.specs.Prelude.{IsTrue}
use Rattle.gaz_page.specs.declared.tree_root.Root.{Root}
use Rattle.gaz_leaf.specs.Node.{Pair}
use Rattle.gaz_tree.specs.Pairs.{put}
use Rattle.gaz_tree.proofs.Lists.{length-put_most}
use Rattle.gaz_rows.specs.Work.{put_zeros, missing_in}
use Rattle.gaz_rows.specs.Steps.{pair_at}
use Rattle.gaz_rows.proofs.Working.{map_ok, less_room, turns_on}
use Rattle.gaz_rows.proofs.Changing.{come_by, sound_behind}
use Rattle.gaz_rows.proofs.store.RowStore.add_line.Goals as goal

pub returns-in-Err-clause-damaged : goal.returns-in-Err-clause-damaged
returns-in-Err-clause-damaged g c told pairs places laid left =
    c.in-Err.ensures.damaged told pairs places laid (less_room 200 34 (g.P.Pages.view c.args.self.now.pages) (omega arith) left.room)

pub returns-in-Ok-put_key-clause-come : goal.returns-in-Ok-put_key-clause-come
returns-in-Ok-put_key-clause-come g c =
    let v = g.P.Pages.view in
    let old = v c.args.self.now.pages in
    let one = v c.add_record.new.self.pages in
    let two = v c.put_key.new.self.pages in
    let new = v c.put_missing.new.self.pages in
    let p : Pair = pair_at c.args.key.now c.in-Ok.place in
    let more = missing_in [] c.args.more.now in
    map_ok c.put_missing.result
    (λ zeros told pairs places laid.
    let told_one : IsTrue one.is_told = subst IsTrue (sym c.add_record.ensures.costs.counts.told) told in
    let told_two : IsTrue two.is_told = subst IsTrue (sym c.put_key.ensures.goes_on.told) told_one in
    let added = c.in-Ok.ensures.added told pairs places laid in
    let turned = turns_on 7 (7 * length c.args.more.now) (put p) (put_zeros more) one two new c.add_record.new.self.root c.put_key.new.self.root c.put_missing.new.self.root
    (c.in-Ok-put_key.ensures.turns told_one) (zeros told_two) in
    record {
      place = c.in-Ok.place;
      changed = come_by (7 + 7 * length c.args.more.now) (λ ps. put_zeros more (put p ps)) old one new c.add_record.new.self.root c.put_missing.new.self.root pairs places c.args.line.now c.in-Ok.place
          added.laid added.there added.unlisted added.same turned
          (ap (λ (r : Root). r.heap) c.put_missing.ensures.root ∙ ap (λ (r : Root). r.heap) c.put_key.ensures.root);
    })
    c.put_missing.ensures.turns

pub returns-in-Ok-put_key-clause-damaged : goal.returns-in-Ok-put_key-clause-damaged
returns-in-Ok-put_key-clause-damaged g c told pairs places laid left =
    let v = g.P.Pages.view in
    let one = v c.add_record.new.self.pages in
    let two = v c.put_key.new.self.pages in
    let p : Pair = pair_at c.args.key.now c.in-Ok.place in
    let few = c.requires.few in
    let enough = left.few in
    let told_one : IsTrue one.is_told = subst IsTrue (sym c.add_record.ensures.costs.counts.told) told in
    let told_two : IsTrue two.is_told = subst IsTrue (sym c.put_key.ensures.goes_on.told) told_one in
    let added = c.in-Ok.ensures.added told pairs places laid in
    let n = length c.args.more.now in
    let sound = sound_behind c.put_missing.result 7 (7 * n) 1 n (put p) one two c.add_record.new.self.root c.put_key.new.self.root (c.in-Ok-put_key.ensures.turns told_one) (length-put_most p) (c.put_missing.ensures.damaged told_two) in
    sound pairs (c.add_record.new.self.root.heap ∷ []) (c.in-Ok.place ∷ places) added.laid
    (added.room (7 + 7 * n) (less_room 200 (7 + 7 * n + 17) (v c.args.self.now.pages) (omega (arith, few)) left.room)) (omega (arith, few, enough))

pub returns-in-Err-put_key-clause-damaged : goal.returns-in-Err-put_key-clause-damaged
returns-in-Err-put_key-clause-damaged g c told pairs places laid left =
    let v = g.P.Pages.view in
    let one = v c.add_record.new.self.pages in
    let enough = left.few in
    let told_one : IsTrue one.is_told = subst IsTrue (sym c.add_record.ensures.costs.counts.told) told in
    let added = c.in-Ok.ensures.added told pairs places laid in
    c.in-Err-put_key.ensures.damaged told_one pairs (c.add_record.new.self.root.heap ∷ []) (c.in-Ok.place ∷ places) added.laid
    (added.room 7 (less_room 200 (7 + 17) (v c.args.self.now.pages) (omega arith) left.room)) (omega (arith, enough))
