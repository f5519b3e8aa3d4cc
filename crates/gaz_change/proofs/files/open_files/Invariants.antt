use Rattle.std.proofs.Common.{◌≡◌, take}
use Rattle.std.specs.Prelude.{IfSome}
use Rattle.gaz_outside.specs.Outside.{FindsFiles, files_of}
use Rattle.gaz_change.specs.Change.{AreOpen, AreThere, IsUnblamed}
use Rattle.gaz_change.proofs.files.open_files.Given as goal

-- the first files are open
abbrev pub invariant-loop-place : goal.invariant-loop-place
invariant-loop-place g l =
    let first = g.F.Shelf.view l.fn.shelf in
    let now = g.F.Shelf.view l.shelf in
    record {
      opened : AreOpen (take l.place l.names) (take l.place l.numbers) now;
      there : IfSome (files_of now) (λ files. AreThere files (take l.place l.names));
      fresh : l.place ≡ 0 → now ≡ first;
      found : FindsFiles first now;
      unblamed : IsUnblamed first now;
    }
