use Rattle.std.proofs.Common.{◌≡◌, ◌-◌, suc, sym, subst, ◌∙◌, arith}
use Rattle.std.specs.Prelude.{IsTrue, Bool, ℕ, List, Err}
use Rattle.gaz_tree.specs.Tree.{children_of}
use Rattle.gaz_scan.specs.Seek.{IsAmong, NamesUnder}
use Rattle.gaz_scan.specs.declared.turn.Turn.{Turn}
use Rattle.gaz_leaf.specs.declared.kind.Kind.TheVariants.{Inner}
use Rattle.gaz_leaf.specs.Node.{key_in, IsPage}
use Rattle.gaz_scan.proofs.Places.{under_child, under_same, under_failed}
use Rattle.gaz_scan.proofs.Finds.{turned, found_here, found_next, here_failed}
use Rattle.gaz_tree.specs.Calls.{LeadsDown}
use Rattle.gaz_tree.proofs.Down.{down_step, down_map}
use Rattle.gaz_scan.proofs.Downs.{leaf_found, found_after, if_map}
use Rattle.gaz_scan.proofs.seek.+seek_below.Goals as goal

pub returns-then-level-eq0-clause-names : goal.returns-then-level-eq0-clause-names
returns-then-level-eq0-clause-names g t c told most le =
    let is = c.if-level-eq0.true in
    subst (λ (l : ℕ). NamesUnder (g.P.Pages.view c.args.pages.now).page most l c.args.page c.copy_from.result) (sym is) (c.copy_from.ensures.names told most)

pub returns-in-Err-clause-names : goal.returns-in-Err-clause-names
returns-in-Err-clause-names g t c told most le =
    let some = c.if-level-eq0.false in
    let next : suc (c.args.level - 1) ≡ c.args.level = omega arith in
    under_failed Turn Bool (g.P.Pages.view c.args.pages.now).page most c.args.level c.args.page c.in-Err.fault
    (subst (λ (l : ℕ). NamesUnder {T = Turn} (g.P.Pages.view c.args.pages.now).page most l c.args.page (Err c.in-Err.fault)) next (c.in-Err.ensures.names told most (c.args.level - 1) (omega arith)))

pub returns-in-Ok-false-clause-names : goal.returns-in-Ok-false-clause-names
returns-in-Ok-false-clause-names g t c told most le =
    let v = g.P.Pages.view in
    let reads = c.in-Ok.ensures.reads in
    let still : IsTrue (v c.read_turn.new.pages).is_told = subst IsTrue (sym reads.counts.told) told in
    let more = c.in-Ok-false.ensures.reads in
    let stays : IsTrue (v c.seek_below.new.pages).is_told = subst IsTrue (sym more.counts.told) still in
    let some = c.if-level-eq0.false in
    let next : c.args.level ≡ suc (c.args.level - 1) = omega arith in
    let same = (more.same (λ failed. failed) still).pages ∙ (reads.same (λ failed. failed) told).pages in
    under_same (v c.args.pages.now).page (v c.seek_below.new.pages).page most c.args.level (c.args.level - 1) c.args.page c.follow.result next same
    (c.follow.ensures.names stays most c.args.page (omega arith)
    (subst (λ (m : ℕ → List ℕ). IsAmong c.in-Ok.turn.next (children_of m c.args.page)) (sym same) (c.in-Ok.ensures.behind told)))

pub returns-in-Err-seek_below-clause-names : goal.returns-in-Err-seek_below-clause-names
returns-in-Err-seek_below-clause-names g t c told most le =
    let v = g.P.Pages.view in
    let reads = c.in-Ok.ensures.reads in
    let still : IsTrue (v c.read_turn.new.pages).is_told = subst IsTrue (sym reads.counts.told) told in
    let some = c.if-level-eq0.false in
    let next : c.args.level ≡ suc (c.args.level - 1) = omega arith in
    under_child {T = Bool} (v c.args.pages.now).page (v c.read_turn.new.pages).page most c.args.level (c.args.level - 1) c.args.page c.in-Ok.turn.child (Err c.in-Err-seek_below.fault) next
    (reads.same (λ failed. failed) told).pages (c.in-Ok.ensures.child told) (c.in-Err-seek_below.ensures.names still most (omega arith))

pub returns-in-Ok-true-clause-sought : goal.returns-in-Ok-true-clause-sought
returns-in-Ok-true-clause-sought g t c told low high head lo hi =
    let v = g.P.Pages.view in
    let old = (v c.args.pages.now).page in
    let reads = c.in-Ok.ensures.reads in
    let still : IsTrue (v c.read_turn.new.pages).is_told = subst IsTrue (sym reads.counts.told) told in
    let some = c.if-level-eq0.false in
    let next : c.args.level ≡ suc (c.args.level - 1) = omega arith in
    found_here old (v c.read_turn.new.pages).page c.args.level (c.args.level - 1) c.args.page low high (key_in c.args.key) c.in-Ok.turn c.seek_below.new.copied c.in-Ok-true.field-0 c.in-Ok-true.field-0-test (reads.same (λ failed. failed) told).pages
    (turned old c.args.level (c.args.level - 1) c.args.page low high (key_in c.args.key) c.in-Ok.turn next head lo hi (c.in-Ok.ensures.turns told))
    (c.in-Ok-true.ensures.sought still)

pub returns-in-Ok-false-clause-sought : goal.returns-in-Ok-false-clause-sought
returns-in-Ok-false-clause-sought g t c told low high head lo hi =
    let v = g.P.Pages.view in
    let old = (v c.args.pages.now).page in
    let reads = c.in-Ok.ensures.reads in
    let still : IsTrue (v c.read_turn.new.pages).is_told = subst IsTrue (sym reads.counts.told) told in
    let more = c.in-Ok-false.ensures.reads in
    let stays : IsTrue (v c.seek_below.new.pages).is_told = subst IsTrue (sym more.counts.told) still in
    let some = c.if-level-eq0.false in
    let next : c.args.level ≡ suc (c.args.level - 1) = omega arith in
    let same = (reads.same (λ failed. failed) told).pages in
    found_next old (v c.read_turn.new.pages).page (v c.seek_below.new.pages).page c.args.level (c.args.level - 1) c.args.page low high (key_in c.args.key) c.in-Ok.turn
    c.seek_below.new.copied c.in-Ok-false.field-0 c.in-Ok-false.field-0-test c.follow.result c.follow.new.copied same ((more.same (λ failed. failed) still).pages ∙ same)
    (turned old c.args.level (c.args.level - 1) c.args.page low high (key_in c.args.key) c.in-Ok.turn next head lo hi (c.in-Ok.ensures.turns told))
    (c.in-Ok-false.ensures.sought still) (c.follow.ensures.sought stays)

pub returns-in-Err-seek_below-clause-sought : goal.returns-in-Err-seek_below-clause-sought
returns-in-Err-seek_below-clause-sought g t c told low high head lo hi =
    let v = g.P.Pages.view in
    let old = (v c.args.pages.now).page in
    let reads = c.in-Ok.ensures.reads in
    let still : IsTrue (v c.read_turn.new.pages).is_told = subst IsTrue (sym reads.counts.told) told in
    let some = c.if-level-eq0.false in
    let next : c.args.level ≡ suc (c.args.level - 1) = omega arith in
    here_failed old (v c.read_turn.new.pages).page c.args.level (c.args.level - 1) c.args.page low high (key_in c.args.key) c.in-Ok.turn c.in-Err-seek_below.fault c.seek_below.new.copied (reads.same (λ failed. failed) told).pages
    (turned old c.args.level (c.args.level - 1) c.args.page low high (key_in c.args.key) c.in-Ok.turn next head lo hi (c.in-Ok.ensures.turns told))
    (c.in-Err-seek_below.ensures.sought still)

pub returns-then-level-eq0-clause-down : goal.returns-then-level-eq0-clause-down
returns-then-level-eq0-clause-down g t c =
    let v = g.P.Pages.view c.args.pages.now in
    leaf_found (IsTrue v.is_told) v.page c.args.level c.args.page c.copy_from.new.copied.bytes c.copy_from.result c.if-level-eq0.true c.copy_from.ensures.own c.copy_from.ensures.shows

pub returns-in-Ok-true-clause-down : goal.returns-in-Ok-true-clause-down
returns-in-Ok-true-clause-down g t c told =
    let v = g.P.Pages.view in
    let reads = c.in-Ok.ensures.reads in
    let still : IsTrue (v c.read_turn.new.pages).is_told = subst IsTrue (sym reads.counts.told) told in
    let some = c.if-level-eq0.false in
    let next : c.args.level ≡ suc (c.args.level - 1) = omega arith in
    let bytes = c.seek_below.new.copied.bytes in
    let found = c.in-Ok-true.field-0 in
    let down = down_step (λ m leaf. IsTrue found → bytes ≡ m leaf) (v c.args.pages.now).page (v c.read_turn.new.pages).page c.args.level (c.args.level - 1) c.args.page c.in-Ok.turn.child next
    (reads.same (λ failed. failed) told).pages (c.in-Ok.ensures.own told) (c.in-Ok.ensures.child told) (c.in-Ok-true.ensures.down still) in
    subst (λ (b : Bool). LeadsDown (v c.args.pages.now).page (λ leaf. IsTrue b → bytes ≡ (v c.args.pages.now).page leaf) c.args.level c.args.page) c.in-Ok-true.field-0-test down

pub returns-in-Ok-false-clause-down : goal.returns-in-Ok-false-clause-down
returns-in-Ok-false-clause-down g t c =
    let v = g.P.Pages.view in
    let old = v c.args.pages.now in
    let reads = c.in-Ok.ensures.reads in
    let some = c.if-level-eq0.false in
    let next : c.args.level ≡ suc (c.args.level - 1) = omega arith in
    let still : IsTrue old.is_told → IsTrue (v c.read_turn.new.pages).is_told = λ told. subst IsTrue (sym reads.counts.told) told in
    let more = c.in-Ok-false.ensures.reads in
    let same : IsTrue old.is_told → (v c.seek_below.new.pages).page ≡ old.page = λ told. (more.same (λ failed. failed) (still told)).pages ∙ (reads.same (λ failed. failed) told).pages in
    let bytes = c.seek_below.new.copied.bytes in
    let found = c.in-Ok-false.field-0 in
    let last = c.follow.new.copied.bytes in
    found_after (IsTrue old.is_told) old.page c.args.level c.args.page last c.follow.result
    (λ told. down_map old.page (λ leaf. IsTrue found → bytes ≡ old.page leaf) (λ leaf. Unit {0}) c.args.level c.args.page (λ n is. tt)
    (down_step (λ m leaf. IsTrue found → bytes ≡ m leaf) old.page (v c.read_turn.new.pages).page c.args.level (c.args.level - 1) c.args.page c.in-Ok.turn.child next
    (reads.same (λ failed. failed) told).pages (c.in-Ok.ensures.own told) (c.in-Ok.ensures.child told) (c.in-Ok-false.ensures.down (still told))))
    (if_map _ _ c.follow.result (λ b down true_ told.
    subst (λ (l : ℕ). LeadsDown old.page (λ leaf. last ≡ old.page leaf) l c.args.page) (sym next)
    (subst (λ (m : ℕ → List ℕ). LeadsDown m (λ leaf. last ≡ m leaf) (suc (c.args.level - 1)) c.args.page) (same told)
    (down true_ (subst IsTrue (sym more.counts.told) (still told)) c.args.page
    (subst (λ (m : ℕ → List ℕ). IsAmong c.in-Ok.turn.next (children_of m c.args.page)) (sym (same told)) (c.in-Ok.ensures.behind told))
    (subst (λ (m : ℕ → List ℕ). IsPage Inner c.args.page (m c.args.page)) (sym (same told)) (c.in-Ok.ensures.own told)))))
    c.follow.ensures.down)
