use Rattle.std.proofs.Common.{◌+◌, ◌*◌, ◌∙◌, [], ◌∷◌, length, sym, subst, ap, arith}
use Rattle.std.specs.Prelude.{IsTrue}
use Rattle.gaz_page.specs.declared.tree_root.Root.{Root}
use Rattle.gaz_leaf.specs.Node.{Pair}
use Rattle.gaz_tree.specs.Pairs.{put}
use Rattle.gaz_tree.proofs.Lists.{length-put_most}
use Rattle.gaz_rows.specs.Work.{put_zeros, without_all, missing_in}
use Rattle.gaz_rows.specs.Steps.{pair_at}
use Rattle.gaz_rows.specs.Laid.{all_but}
use Rattle.gaz_rows.proofs.Working.{map_ok, less_room, turns_on}
use Rattle.gaz_rows.proofs.Changing.{come_by, sound_behind, without_all_fewer}
use Rattle.gaz_rows.proofs.store.RowStore.replace_line.Goals as goal

pub returns-in-Err-clause-damaged : goal.returns-in-Err-clause-damaged
returns-in-Err-clause-damaged g c told pairs places laid there left =
    c.in-Err.ensures.damaged told pairs places laid there (less_room 200 34 (g.P.Pages.view c.args.self.now.pages) (omega arith) left.room)

pub returns-in-Err-remove_missing-clause-damaged : goal.returns-in-Err-remove_missing-clause-damaged
returns-in-Err-remove_missing-clause-damaged g c told pairs places laid there left =
    let v = g.P.Pages.view in
    let one = v c.put_for.new.self.pages in
    let enough = left.few in
    let told_one : IsTrue one.is_told = subst IsTrue (sym c.put_for.ensures.costs.counts.told) told in
    let stands = c.in-Ok.ensures.put told pairs places laid there in
    c.in-Err-remove_missing.ensures.damaged told_one pairs (c.put_for.new.self.root.heap ∷ []) (c.in-Ok.place ∷ all_but c.args.place places) stands.laid
    (stands.room 0 (less_room 200 17 (v c.args.self.now.pages) (omega arith) left.room)) (omega (arith, enough))

pub returns-in-Ok-put_key-clause-replaced : goal.returns-in-Ok-put_key-clause-replaced
returns-in-Ok-put_key-clause-replaced g c =
    let v = g.P.Pages.view in
    let old = v c.args.self.now.pages in
    let one = v c.put_for.new.self.pages in
    let two = v c.remove_missing.new.self.pages in
    let three = v c.put_key.new.self.pages in
    let new = v c.put_missing.new.self.pages in
    let p : Pair = pair_at c.args.key.now c.in-Ok.place in
    let gone = missing_in c.args.more.now c.args.was.now in
    let come = missing_in c.args.was.now c.args.more.now in
    map_ok c.put_missing.result
    (λ zeros told pairs places laid there.
    let told_one : IsTrue one.is_told = subst IsTrue (sym c.put_for.ensures.costs.counts.told) told in
    let told_two : IsTrue two.is_told = subst IsTrue (sym c.remove_missing.ensures.goes_on.told) told_one in
    let told_three : IsTrue three.is_told = subst IsTrue (sym c.put_key.ensures.goes_on.told) told_two in
    let stands = c.in-Ok.ensures.put told pairs places laid there in
    let first = turns_on 0 7 (without_all gone) (put p) one two three c.put_for.new.self.root c.remove_missing.new.self.root c.put_key.new.self.root
    (c.in-Ok-remove_missing.ensures.turns told_one) (c.in-Ok-put_key.ensures.turns told_two) in
    let turned = turns_on (0 + 7) (7 * length c.args.more.now) (λ ps. put p (without_all gone ps)) (put_zeros come) one three new c.put_for.new.self.root c.put_key.new.self.root c.put_missing.new.self.root
    first (zeros told_three) in
    record {
      place_now = c.in-Ok.place;
      stays = c.in-Ok.ensures.stays told;
      changed = come_by (0 + 7 + 7 * length c.args.more.now) (λ ps. put_zeros come (put p (without_all gone ps))) old one new c.put_for.new.self.root c.put_missing.new.self.root pairs (all_but c.args.place places) c.args.line.now c.in-Ok.place
          stands.laid stands.there stands.unlisted stands.same turned
          (ap (λ (r : Root). r.heap) c.put_missing.ensures.root ∙ ap (λ (r : Root). r.heap) c.put_key.ensures.root ∙ ap (λ (r : Root). r.heap) c.remove_missing.ensures.root);
    })
    c.put_missing.ensures.turns

pub returns-in-Ok-put_key-clause-damaged : goal.returns-in-Ok-put_key-clause-damaged
returns-in-Ok-put_key-clause-damaged g c told pairs places laid there left =
    let v = g.P.Pages.view in
    let one = v c.put_for.new.self.pages in
    let two = v c.remove_missing.new.self.pages in
    let three = v c.put_key.new.self.pages in
    let p : Pair = pair_at c.args.key.now c.in-Ok.place in
    let gone = missing_in c.args.more.now c.args.was.now in
    let few = c.requires.few in
    let enough = left.few in
    let told_one : IsTrue one.is_told = subst IsTrue (sym c.put_for.ensures.costs.counts.told) told in
    let told_two : IsTrue two.is_told = subst IsTrue (sym c.remove_missing.ensures.goes_on.told) told_one in
    let told_three : IsTrue three.is_told = subst IsTrue (sym c.put_key.ensures.goes_on.told) told_two in
    let stands = c.in-Ok.ensures.put told pairs places laid there in
    let n = length c.args.more.now in
    let second = sound_behind c.put_missing.result 7 (7 * n) 1 n (put p) two three c.remove_missing.new.self.root c.put_key.new.self.root (c.in-Ok-put_key.ensures.turns told_two) (length-put_most p) (c.put_missing.ensures.damaged told_three) in
    let turned = c.in-Ok-remove_missing.ensures.turns told_one pairs (c.put_for.new.self.root.heap ∷ []) (c.in-Ok.place ∷ all_but c.args.place places) stands.laid in
    let less = without_all_fewer gone pairs in
    second (without_all gone pairs) (c.put_for.new.self.root.heap ∷ []) (c.in-Ok.place ∷ all_but c.args.place places) turned.laid
    (turned.room (7 + 7 * n) (less_room (7 + 7 * n) (7 + 7 * n + 0) one (omega arith) (stands.room (7 + 7 * n) (less_room 200 (7 + 7 * n + 17) (v c.args.self.now.pages) (omega (arith, few)) left.room))))
    (omega (arith, few, enough, less))

pub returns-in-Err-put_key-clause-damaged : goal.returns-in-Err-put_key-clause-damaged
returns-in-Err-put_key-clause-damaged g c told pairs places laid there left =
    let v = g.P.Pages.view in
    let one = v c.put_for.new.self.pages in
    let two = v c.remove_missing.new.self.pages in
    let gone = missing_in c.args.more.now c.args.was.now in
    let enough = left.few in
    let told_one : IsTrue one.is_told = subst IsTrue (sym c.put_for.ensures.costs.counts.told) told in
    let told_two : IsTrue two.is_told = subst IsTrue (sym c.remove_missing.ensures.goes_on.told) told_one in
    let stands = c.in-Ok.ensures.put told pairs places laid there in
    let turned = c.in-Ok-remove_missing.ensures.turns told_one pairs (c.put_for.new.self.root.heap ∷ []) (c.in-Ok.place ∷ all_but c.args.place places) stands.laid in
    let less = without_all_fewer gone pairs in
    c.in-Err-put_key.ensures.damaged told_two (without_all gone pairs) (c.put_for.new.self.root.heap ∷ []) (c.in-Ok.place ∷ all_but c.args.place places) turned.laid
    (turned.room 7 (less_room 7 (7 + 0) one (omega arith) (stands.room 7 (less_room 200 (7 + 17) (v c.args.self.now.pages) (omega arith) left.room))))
    (omega (arith, enough, less))
