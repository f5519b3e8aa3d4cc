use Rattle.std.proofs.Common.{refl, arith}
use Rattle.gaz_tree.specs.declared.tree.Tree.{Tree}
use Rattle.gaz_plain.specs.Gazetteer.{empty}
use Rattle.gaz_rows.specs.Stands.{counts_of}
use Rattle.gaz_rows.proofs.Begun.{begun, none_taken, undamaged}
use Rattle.gaz_rows.proofs.empty.empty_root.Goals as goal

pub returns-in-Err-clause-undamaged : goal.returns-in-Err-clause-undamaged
returns-in-Err-clause-undamaged g c told =
    let untaken = c.requires.untaken told in
    undamaged Tree (g.P.Pages.view c.args.pages.now) c.in-Err.fault c.from.result untaken.0 untaken.1 (c.in-Err.ensures.damaged told) c.from.ensures

pub returns-clause-store : goal.returns-clause-store
returns-clause-store g c told =
    let view = g.P.Pages.view in
    let old = view c.args.pages.now in
    let untaken = c.requires.untaken told in
    let first = untaken.0 in
    let tree = c.in-Ok.tree in
    let chain = none_taken old untaken.1 in
    begun old (view c.empty.new.pages) (record { side = c.args.side; height = tree.height; top = tree.top; fresh = 2; free = 0; day = c.args.day; counts = counts_of empty; heap = 0 }) untaken.0 untaken.1 (c.in-Ok.ensures.stands told chain (omega (arith, first))) (c.in-Ok.ensures.trades told chain (omega (arith, first))) refl refl
