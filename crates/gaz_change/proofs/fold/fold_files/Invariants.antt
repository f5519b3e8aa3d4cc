use Rattle.std.proofs.Common.{◌≡◌, ◌≤◌, ◌+◌, ◌*◌, ◌^◌, IsTrue, drop}
use Rattle.std.specs.Prelude.{IfSome, Ok}
use Rattle.gaz_outside.specs.Outside.{SameFiles, SameNumbers, files_of}
use Rattle.gaz_lines.specs.Cutter.{line_limit_of, file_limit_of}
use Rattle.gaz_plain.specs.Gazetteer.{Gazetteer}
use Rattle.gaz_rows.specs.Store.{IsStore}
use Rattle.gaz_rows.specs.Stepping.{HasNewCounts}
use Rattle.gaz_change.specs.Change.{IsUnblamed, FoldCosts, lines_of}
use Rattle.gaz_change.proofs.Reading.{FilesStored}
use Rattle.gaz_change.proofs.fold.fold_files.Given as goal

-- the first files were folded, and the others are to be
abbrev pub invariant-loop-place : goal.invariant-loop-place
invariant-loop-place g l =
    let shelf = g.F.Shelf.view l.fn.shelf in
    let shelf_now = g.F.Shelf.view l.shelf in
    let first = g.P.Pages.view l.fn.store.pages in
    let now = g.P.Pages.view l.store.pages in
    record {
      stored : IsTrue first.is_told → (gaz : Gazetteer) → IsStore gaz first l.fn.store.root → FilesStored (files_of shelf) l.names l.place gaz now l.store.root;
      low : l.fn.store.root.height ≤ 6 → l.store.root.height ≤ 6;
      few : l.fn.store.root.height ≤ 6 → IfSome (files_of shelf) (λ files. now.changed + 320 * lines_of files (drop l.place l.names) ≤ first.changed + 320 * lines_of files l.names);
      root : HasNewCounts l.fn.store.root l.store.root;
      costs : FoldCosts first now (Ok tt);
      keeps : g.P.Pages.keeps l.fn.store.pages l.store.pages;
      line_limit : line_limit_of l.cutter ≡ 65535;
      file_limit : file_limit_of l.cutter ≡ 2 ^ 40;
      numbers : SameNumbers shelf shelf_now;
      same : SameFiles shelf shelf_now;
      unblamed : IsUnblamed shelf shelf_now;
    }
