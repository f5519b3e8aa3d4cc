use Rattle.std.proofs.Common.{◌≡◌, ◌≤◌, ◌*◌, ◌^◌, IsTrue}
use Rattle.std.specs.Prelude.{IfSome, [], Ok}
use Rattle.gaz_outside.specs.Outside.{SameFiles, SameNumbers, bytes_of}
use Rattle.gaz_lines.specs.Cutter.{rest, HasEnded, MayReadFile, place_of, line_limit_of, file_limit_of, allowed_of, line_of}
use Rattle.gaz_lines.specs.Files.{left_at}
use Rattle.gaz_plain.specs.Gazetteer.{Gazetteer}
use Rattle.gaz_rows.specs.Store.{IsStore}
use Rattle.gaz_rows.specs.Stepping.{HasNewCounts}
use Rattle.gaz_rows.specs.Work.{ChangesFew}
use Rattle.gaz_change.specs.Change.{IsUnblamed, FoldCosts}
use Rattle.gaz_change.proofs.Stored.{Counted, Stored}
use Rattle.gaz_change.proofs.fold.fold_file.Given as goal

abbrev pub invariant-loop-line : goal.invariant-loop-line
invariant-loop-line g l =
    let shelf = g.F.Shelf.view l.fn.shelf in
    let shelf_now = g.F.Shelf.view l.shelf in
    let first = g.P.Pages.view l.fn.store.pages in
    let now = g.P.Pages.view l.store.pages in
    record {
      stored : IsTrue first.is_told → (gaz : Gazetteer) → IsStore gaz first l.fn.store.root → Stored (bytes_of shelf l.file) l.name gaz (line_of l.cutter) (rest l.cutter (left_at shelf_now l.file (place_of l.cutter))) now l.store.root;
      counted : IfSome (bytes_of shelf l.file) (λ bytes. Counted (line_of l.cutter) (rest l.cutter (left_at shelf_now l.file (place_of l.cutter))) bytes);
      few : l.fn.store.root.height ≤ 6 → ChangesFew (320 * line_of l.cutter) first now l.fn.store.root l.store.root;
      root : HasNewCounts l.fn.store.root l.store.root;
      costs : FoldCosts first now (Ok tt);
      keeps : g.P.Pages.keeps l.fn.store.pages l.store.pages;
      reads : MayReadFile l.cutter l.file;
      ended : HasEnded l.cutter → IfSome (left_at shelf_now l.file (place_of l.cutter)) (λ bytes. bytes ≡ []);
      line_limit : line_limit_of l.cutter ≡ 65535;
      file_limit : file_limit_of l.cutter ≡ 2 ^ 40;
      numbers : SameNumbers shelf shelf_now;
      same : SameFiles shelf shelf_now;
      unblamed : IsUnblamed shelf shelf_now;
    }

abbrev pub decreases-loop-line : goal.decreases-loop-line
decreases-loop-line g l = allowed_of l.cutter
