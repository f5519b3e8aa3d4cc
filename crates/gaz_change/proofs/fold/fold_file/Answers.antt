use Rattle.std.proofs.Common.{◌∷◌, [], ◌∙◌, sym, subst, inl, inr, refl, arith, IsTrue}
use Rattle.std.specs.Prelude.{Err}
use Rattle.std.proofs.lemmas.Bool.{false≢true}
use Rattle.gaz_outside.specs.Outside.{bytes_of}
use Rattle.gaz_plain.specs.Fold.{fold}
use Rattle.gaz_change.specs.Change.{FoldCosts, Folds, IsFaultOfFile}
use Rattle.gaz_change.proofs.Folding.{if_some_map, one_line_from, file_of}
use Rattle.gaz_change.proofs.Stored.{counted_start, counted_line, counted_few, stored_start, stored_line, folds_all, folds_overrun, folds_too_long, folds_fault, same_date, counts_on, costs_fault, line_fault}
use Rattle.gaz_change.proofs.fold.fold_file.Goals as goal

pub loop-line-init : goal.loop-line-init
loop-line-init g c =
    let fresh = c.restart.ensures.fresh in
    let line_limit = c.restart.ensures.line_limit ∙ c.requires.line_limit in
    let file_limit = c.restart.ensures.file_limit ∙ c.requires.file_limit in
    record {
      stored = λ told gaz stands. stored_start c.args.name.now gaz _ _ c.restart.new.self _ c.args.file stands fresh line_limit file_limit;
      counted = counted_start c.restart.new.self _ c.args.file fresh line_limit file_limit;
      few = λ low. record { changed = omega arith; low = low };
      root = refl;
      costs = record { told = refl; read_only = refl; reads_grow = omega arith; faults = refl; starved = refl };
      keeps = g.met.P.Pages.keeps_same _;
      reads = inl fresh.reads;
      ended = λ is. absurd (false≢true (sym fresh.ended ∙ is));
      line_limit = line_limit;
      file_limit = file_limit;
      numbers = λ n. refl;
      same = record { told = refl; files = refl; earlier = refl };
      unblamed = record { faults = refl; last = refl };
    }

pub step-requires-clause-one_line : goal.step-requires-clause-one_line
step-requires-clause-one_line g c =
    let gave = rw (c.in-Ok-Some.is, c.in-Ok-Some.field-0-is) at c.next_shelf.follows.holds-at-none.gave in
    one_line_from c.in-Ok-Some.line.now gave.line.cuts.is_line

pub returns-in-Ok-None-clause-folds : goal.returns-in-Ok-None-clause-folds
returns-in-Ok-None-clause-folds g c =
    let gave = rw (c.in-Ok-None.is, c.in-Ok-None.field-0-is) at c.next_shelf.follows.holds-at-none.gave in
    λ told gaz stands.
    let s = c.loop-line.invariant.stored told gaz stands in
    let first = g.P.Pages.view c.args.store.now.pages in
    let now = g.P.Pages.view c.loop-line.store.pages in
    folds_all _ c.args.name.now gaz _ _ now c.loop-line.store.root s (same_date gaz s.next first now c.args.store.now.root c.loop-line.store.root c.loop-line.invariant.root stands s.stands) gave.gives.1

pub returns-in-Ok-None-clause-few : goal.returns-in-Ok-None-clause-few
returns-in-Ok-None-clause-few g c =
    λ low. if_some_map _ (λ bytes counted. counted_few _ _ _ _ bytes (c.loop-line.invariant.few low).changed counted) c.loop-line.invariant.counted

pub returns-in-Err-FileTooLong-clause-folds : goal.returns-in-Err-FileTooLong-clause-folds
returns-in-Err-FileTooLong-clause-folds g c =
    let gave = rw (c.in-Err-FileTooLong.is, c.in-Err-FileTooLong.field-0-is) at c.next_shelf.follows.holds-at-none.gave in
    λ told gaz stands. folds_overrun _ c.args.name.now gaz _ _ _ _ (c.loop-line.invariant.stored told gaz stands) gave.gives.1

pub returns-in-Err-TooLong-clause-folds : goal.returns-in-Err-TooLong-clause-folds
returns-in-Err-TooLong-clause-folds g c =
    let gave = rw (c.in-Err-TooLong.is, c.in-Err-TooLong.field-0-is) at c.next_shelf.follows.holds-at-none.gave in
    let number = gave.numbers.1 ∙ gave.numbers.0 in
    λ told gaz stands. folds_too_long _ c.args.name.now gaz _ _ _ _ (c.loop-line.invariant.stored told gaz stands) _ _ (c.in-Err-TooLong.number-is ∙ number) gave.gives

pub returns-in-Err-clause-folds : goal.returns-in-Err-clause-folds
returns-in-Err-clause-folds g c =
    let gave = rw (c.in-Ok-Some.is, c.in-Ok-Some.field-0-is) at c.next_shelf.follows.holds-at-none.gave in
    let number = c.line.ensures ∙ gave.numbers in
    λ told gaz stands.
    let s = c.loop-line.invariant.stored told gaz stands in
    let known = bytes_of (g.F.Shelf.view c.args.shelf.now) c.args.file in
    let now = g.P.Pages.view c.loop-line.store.pages in
    let new = g.P.Pages.view c.step.new.self.pages in
    let root = c.step.new.self.root in
    subst (λ fault. Folds known (λ bytes. fold gaz (file_of c.args.name.now bytes ∷ [])) gaz new root (Err fault)) (sym c.at_line.ensures)
    (folds_fault known c.args.name.now gaz _ _ now c.loop-line.store.root s _ c.in-Ok-Some.line.now c.line.result _ c.in-Err.fault new root c.kind.ensures
    (c.in-Err.ensures.fault (subst IsTrue (sym c.loop-line.invariant.costs.told) told) s.next s.stands) number gave.gives)

pub returns-in-Err-clause-costs : goal.returns-in-Err-clause-costs
returns-in-Err-clause-costs g c =
    let first = g.P.Pages.view c.args.store.now.pages in
    let now = g.P.Pages.view c.loop-line.store.pages in
    let new = g.P.Pages.view c.step.new.self.pages in
    subst (λ fault. FoldCosts first new (Err fault)) (sym c.at_line.ensures)
    (costs_fault c.args.name.now c.line.result 320 first now new c.loop-line.store.root c.step.new.self.root c.in-Err.fault c.loop-line.invariant.costs c.in-Err.ensures.costs)

pub returns-in-Err-clause-at : goal.returns-in-Err-clause-at
returns-in-Err-clause-at g c =
    subst (IsFaultOfFile c.args.name.now) (sym c.at_line.ensures) (line_fault c.args.name.now c.line.result c.in-Err.fault)

pub loop-line-preserved : goal.loop-line-preserved
loop-line-preserved g c =
    let i = c.loop-line.invariant in
    let e = c.in-Ok-Some.ensures in
    let gave = rw (c.in-Ok-Some.is, c.in-Ok-Some.field-0-is) at c.next_shelf.follows.holds-at-none.gave in
    let costs = c.in_default.ensures.costs in
    record {
      stored = λ told gaz stands. stored_line _ c.args.name.now gaz _ _ _ _ (i.stored told gaz stands) _ c.in-Ok-Some.line.now _ _ _ _ c.kind.ensures (c.in_default.ensures.steps (subst IsTrue (sym i.costs.told) told)) gave.numbers gave.gives;
      counted = if_some_map _ (λ bytes counted. counted_line _ _ c.in-Ok-Some.line.now _ _ bytes gave.numbers gave.gives counted) i.counted;
      few = λ low.
          let before = i.few low in
          let then = costs.few before.low in
          let a = before.changed in
          let b = then.changed in
          let n = gave.numbers in
          record { changed = omega (arith, a, b, n); low = then.low };
      root = counts_on c.args.store.now.root c.loop-line.store.root c.step.new.self.root i.root c.step.ensures.root;
      costs = record {
        told = costs.told ∙ i.costs.told;
        read_only = costs.read_only ∙ i.costs.read_only;
        reads_grow = (let a = i.costs.reads_grow in let b = costs.reads_grow in omega (arith, a, b));
        faults = costs.faults ∙ i.costs.faults;
        starved = costs.starved ∙ i.costs.starved;
      };
      keeps = g.met.P.Pages.keeps_on _ _ _ i.keeps c.step.ensures.keeps;
      reads = inr c.next_shelf.follows.holds-at-none.reads;
      ended = gave.ended;
      line_limit = gave.line_limit ∙ i.line_limit;
      file_limit = gave.file_limit ∙ i.file_limit;
      numbers = λ n. c.next_shelf.ensures.numbers n ∙ i.numbers n;
      same = record { told = c.next_shelf.ensures.same.told ∙ i.same.told; files = c.next_shelf.ensures.same.files ∙ i.same.files; earlier = c.next_shelf.ensures.same.earlier ∙ i.same.earlier };
      unblamed = record { faults = e.cause ∙ i.unblamed.faults; last = e.blames ∙ i.unblamed.last };
    }
