use Rattle.std.proofs.Common.{◌≡◌, ◌-◌, suc, ◌<◌, None, refl, subst, arith}
use Rattle.std.specs.Prelude.{Ok, Bool}
use Rattle.gaz_leaf.specs.Node.{key_in, count_of}
use Rattle.gaz_scan.specs.Seek.{Copies}
use Rattle.gaz_leaf.proofs.Keys.{joined_fits}
use Rattle.gaz_scan.proofs.Places.{under_whole}
use Rattle.gaz_scan.proofs.Scans.{filled_past, filled_more, filled_none, fill_failed}
use Rattle.std.specs.Prelude.{IsTrue}
use Rattle.std.proofs.Common.{ap, inl, sym}
use Rattle.gaz_tree.proofs.Down.{down_map}
use Rattle.gaz_scan.specs.declared.copied.Copied.{Copied}
use Rattle.gaz_scan.proofs.Downs.{stayed, past_none, went_found}
use Rattle.gaz_scan.proofs.scan.Scan.fill_from.Goals as goal

pub returns-then-is_below-clause-fills : goal.returns-then-is_below-clause-fills
returns-then-is_below-clause-fills g c told left comes =
    filled_past (g.P.Pages.view c.args.pages.now).page c.args.self.now c.args.key left c.requires.empty c.requires.next (c.is_below.ensures.0 c.if-is_below.true) comes

pub returns-in-Ok-true-clause-fills : goal.returns-in-Ok-true-clause-fills
returns-in-Ok-true-clause-fills g c told left comes =
    let v = g.P.Pages.view in
    let fits = joined_fits c.args.key.a c.args.key.b c.args.key.c c.args.key.d (omega arith) (omega arith) (omega arith) (omega arith) in
    let s = c.args.self.now in
    filled_more (v c.args.pages.now).page (v c.seek_below.new.pages).page s (record { tree = s.tree; copied = c.seek_below.new.copied; next = c.after_last-self.result; high = s.high }) c.args.key left c.in-Ok-true.field-0 c.in-Ok-true.field-0-test (c.in-Ok-true.ensures.reads.same (λ failed. failed) told).pages c.requires.empty c.requires.next
    refl refl fits (c.in-Ok-true.ensures.sought told) c.after_last-self.ensures comes

pub returns-in-Ok-false-clause-fills : goal.returns-in-Ok-false-clause-fills
returns-in-Ok-false-clause-fills g c told left comes =
    let v = g.P.Pages.view in
    let fits = joined_fits c.args.key.a c.args.key.b c.args.key.c c.args.key.d (omega arith) (omega arith) (omega arith) (omega arith) in
    let s = c.args.self.now in
    filled_none (v c.args.pages.now).page (v c.seek_below.new.pages).page s (record { tree = s.tree; copied = c.seek_below.new.copied; next = None; high = s.high }) c.args.key left c.in-Ok-false.field-0 c.in-Ok-false.field-0-test (c.in-Ok-false.ensures.reads.same (λ failed. failed) told).pages c.requires.empty c.requires.next
    refl refl c.in-Ok-false.ensures.copies refl fits (c.in-Ok-false.ensures.sought told) comes

pub returns-in-Err-clause-fills : goal.returns-in-Err-clause-fills
returns-in-Err-clause-fills g c told left comes =
    let v = g.P.Pages.view in
    let fits = joined_fits c.args.key.a c.args.key.b c.args.key.c c.args.key.d (omega arith) (omega arith) (omega arith) (omega arith) in
    let s = c.args.self.now in
    fill_failed (v c.args.pages.now).page (v c.seek_below.new.pages).page s (record { tree = s.tree; copied = c.seek_below.new.copied; next = s.next; high = s.high }) (key_in c.args.key) left c.in-Err.fault c.seek_below.new.copied
    (λ i. record { tree = s.tree; copied = c.in-Err.ensures.copies i; next = s.next; high = s.high }) fits (c.in-Err.ensures.sought told) comes

pub after_last-self-requires : goal.after_last-self-requires
after_last-self-requires g c =
    let one : c.seek_below.new.copied.at < count_of c.seek_below.new.copied.bytes = subst (λ (b : Bool). Copies (Ok b) c.args.self.now.copied c.seek_below.new.copied) c.in-Ok-true.field-0-test c.in-Ok-true.ensures.copies in
    record { some = omega arith }

pub returns-in-Err-clause-names : goal.returns-in-Err-clause-names
returns-in-Err-clause-names g c told =
    let tree = c.args.self.now.tree in
    let some = c.if-self-eq0.false in
    let tall : tree.height ≡ suc (tree.height - 1) = omega arith in
    under_whole Bool Unit (g.P.Pages.view c.args.pages.now).page tree.height (tree.height - 1) tree.top c.in-Err.fault tall (c.in-Err.ensures.names told (tree.height - 1) (omega arith))

pub returns-then-is_below-clause-down : goal.returns-then-is_below-clause-down
returns-then-is_below-clause-down g c told =
    let s = c.args.self.now in
    stayed (g.P.Pages.view c.args.pages.now).page s s refl (past_none s c.args.key c.requires.next (c.is_below.ensures.0 c.if-is_below.true))

pub returns-in-Ok-true-clause-down : goal.returns-in-Ok-true-clause-down
returns-in-Ok-true-clause-down g c told =
    let s = c.args.self.now in
    let pages = (g.P.Pages.view c.args.pages.now).page in
    let copied = c.seek_below.new.copied in
    went_found pages s (record { tree = s.tree; copied = copied; next = c.after_last-self.result; high = s.high })
    (down_map pages (λ leaf. IsTrue c.in-Ok-true.field-0 → copied.bytes ≡ pages leaf) (λ leaf. copied.bytes ≡ pages leaf) (s.tree.height - 1) s.tree.top (λ n is. is (subst IsTrue (sym c.in-Ok-true.field-0-test) refl)) (c.in-Ok-true.ensures.down told))

pub returns-in-Ok-false-clause-down : goal.returns-in-Ok-false-clause-down
returns-in-Ok-false-clause-down g c told =
    let s = c.args.self.now in
    let pages = (g.P.Pages.view c.args.pages.now).page in
    let copied = c.seek_below.new.copied in
    let stays = subst (λ (b : Bool). Copies (Ok b) s.copied copied) c.in-Ok-false.field-0-test c.in-Ok-false.ensures.copies in
    record {
      sought = λ _. down_map pages (λ leaf. IsTrue c.in-Ok-false.field-0 → copied.bytes ≡ pages leaf) (λ leaf. Unit {0}) (s.tree.height - 1) s.tree.top (λ n is. tt) (c.in-Ok-false.ensures.down told);
      copied = inl (ap (λ (k : Copied). k.bytes) stays);
    }
