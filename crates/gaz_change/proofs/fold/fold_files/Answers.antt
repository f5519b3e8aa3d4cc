use Rattle.std.proofs.Common.{◌≤◌, ◌*◌, ◌+◌, ◌∙◌, Some, ap, sym, subst, refl, arith, IsTrue}
use Rattle.std.specs.Prelude.{IfSome, Ok, Err, Contains}
use Rattle.gaz_outside.specs.Outside.{files_of}
use Rattle.gaz_num.specs.Words.{file_text}
use Rattle.std.proofs.lemmas.List.{drop_all}
use Rattle.std.proofs.lemmas.List.Elements.{Contains-get_or}
use Rattle.gaz_change.specs.Change.{Gives, Folds, BlamesReached, fold_named, lines_of}
use Rattle.gaz_change.proofs.Changing.{file_gives, told_before}
use Rattle.gaz_change.proofs.Stored.{counts_on}
use Rattle.gaz_change.proofs.Reading.{opened_at, file_there, fold_refused, fold_goes_on, fault_reached, folds_named, few_all, few_on, few_file, costs_on, blamed_on}
use Rattle.gaz_change.proofs.fold.fold_files.Goals as goal

pub fold_file-requires-clause-open : goal.fold_file-requires-clause-open
fold_file-requires-clause-open g c =
    let first = g.F.Shelf.view c.args.shelf.now in
    c.loop-place.invariant.numbers _
    ∙ opened_at c.loop-place.place c.args.names.now c.args.numbers.now c.index-names-place.result 0 first c.loop-place-test.true c.requires.open
    ∙ ap (λ name. Some (file_text name)) (sym c.index-names-place.is)

pub returns-in-Err-clause-folds : goal.returns-in-Err-clause-folds
returns-in-Err-clause-folds g c =
    let first = g.F.Shelf.view c.args.shelf.now in
    let mid = g.F.Shelf.view c.loop-place.shelf in
    let new = g.F.Shelf.view c.fold_file.new.shelf in
    let names = c.args.names.now in
    let place = c.loop-place.place in
    let name = c.index-names-place.result in
    let inv = c.loop-place.invariant in
    let below = c.loop-place-test.true in
    let is = c.index-names-place.is in
    let opened = inv.numbers _ ∙ opened_at place names c.args.numbers.now name 0 first below c.requires.open ∙ ap (λ n. Some (file_text n)) (sym is) in
    λ told gaz stands.
    let s = inv.stored told gaz stands in
    let f = c.in-Err.ensures.folds (subst IsTrue (sym inv.costs.told) told) s.next s.stands in
    record {
      next = gaz;
      date = refl;
      stands = tt;
      gives = told_before (λ files. Gives gaz (fold_named files names gaz) (Err c.in-Err.fault)) new first (sym (c.fold_file.ensures.same.files ∙ inv.same.files))
          (fold_refused place names name (files_of first) below is c.requires.there gaz s.next gaz c.in-Err.fault
          (file_gives name s.next gaz (Err c.in-Err.fault) mid _ (files_of first) opened inv.same.files (file_there place names name (files_of first) below is c.requires.there) f.gives)
          s.folded);
      sound = f.sound;
    }

pub returns-in-Err-clause-at : goal.returns-in-Err-clause-at
returns-in-Err-clause-at g c =
    let names = c.args.names.now in
    let place = c.loop-place.place in
    (c.index-names-place.result, subst (Contains names) (sym c.index-names-place.is) (Contains-get_or names place c.index-names-place.result c.loop-place-test.true), c.in-Err.ensures.at)

pub returns-in-Err-clause-reached : goal.returns-in-Err-clause-reached
returns-in-Err-clause-reached g c =
    let first = g.F.Shelf.view c.args.shelf.now in
    let new = g.F.Shelf.view c.fold_file.new.shelf in
    told_before (λ files. BlamesReached {A = Unit} files c.args.names.now (Err c.in-Err.fault)) new first (sym (c.fold_file.ensures.same.files ∙ c.loop-place.invariant.same.files))
    (fault_reached c.loop-place.place c.args.names.now c.index-names-place.result (files_of first) c.loop-place-test.true c.index-names-place.is c.requires.there Unit c.in-Err.fault c.in-Err.ensures.at)

pub returns-in-Err-clause-costs : goal.returns-in-Err-clause-costs
returns-in-Err-clause-costs g c = costs_on _ _ _ c.in-Err.fault c.loop-place.invariant.costs c.in-Err.ensures.costs

pub returns-in-Err-clause-blamed : goal.returns-in-Err-clause-blamed
returns-in-Err-clause-blamed g c =
    blamed_on Unit _ _ _ (Err c.in-Err.fault) c.loop-place.invariant.unblamed c.in-Err.ensures.blamed

pub returns-clause-folds : goal.returns-clause-folds
returns-clause-folds g c =
    let inv = c.loop-place.invariant in
    λ told gaz stands.
    let now = g.P.Pages.view c.loop-place.store.pages in
    let root = c.loop-place.store.root in
    subst (λ known. Folds known (λ files. fold_named files c.args.names.now gaz) gaz now root (Ok tt)) (sym inv.same.files)
    (folds_named _ c.args.names.now c.loop-place.place gaz now root (drop_all c.loop-place.place c.args.names.now (omega arith)) (inv.stored told gaz stands))

pub returns-clause-few : goal.returns-clause-few
returns-clause-few g c =
    let inv = c.loop-place.invariant in
    let first = (g.P.Pages.view c.args.store.now.pages).changed in
    let now = (g.P.Pages.view c.loop-place.store.pages).changed in
    λ low.
    subst (λ known. IfSome known (λ files. now ≤ first + 320 * lines_of files c.args.names.now)) (sym inv.same.files)
    (few_all first now c.loop-place.place c.args.names.now _ (drop_all c.loop-place.place c.args.names.now (omega arith)) (inv.few low))

-- one file more was folded
pub loop-place-preserved : goal.loop-place-preserved
loop-place-preserved g c =
    let first = g.F.Shelf.view c.args.shelf.now in
    let mid = g.F.Shelf.view c.loop-place.shelf in
    let names = c.args.names.now in
    let place = c.loop-place.place in
    let name = c.index-names-place.result in
    let inv = c.loop-place.invariant in
    let below = c.loop-place-test.true in
    let is = c.index-names-place.is in
    let made = c.in-Ok.ensures in
    let there = file_there place names name (files_of first) below is c.requires.there in
    let opened = inv.numbers _ ∙ opened_at place names c.args.numbers.now name 0 first below c.requires.open ∙ ap (λ n. Some (file_text n)) (sym is) in
    record {
      stored = λ told gaz stands.
          let s = inv.stored told gaz stands in
          let f = made.folds (subst IsTrue (sym inv.costs.told) told) s.next s.stands in
          record {
            next = f.next;
            date = f.date ∙ s.date;
            stands = f.stands;
            folded = fold_goes_on place names name (files_of first) below is c.requires.there gaz s.next f.next tt
                (file_gives name s.next f.next (Ok tt) mid _ (files_of first) opened inv.same.files there f.gives)
                s.folded;
          };
      low = λ low. made.low (inv.low low);
      few = λ low. few_on place names name (files_of first) below is c.requires.there _ _ _ (inv.few low) (few_file name _ _ mid _ (files_of first) opened inv.same.files there (made.few (inv.low low)));
      root = counts_on c.args.store.now.root c.loop-place.store.root c.fold_file.new.store.root inv.root made.root;
      costs = record {
        told = made.costs.told ∙ inv.costs.told;
        read_only = made.costs.read_only ∙ inv.costs.read_only;
        reads_grow = (let a = inv.costs.reads_grow in let b = made.costs.reads_grow in omega (arith, a, b));
        faults = made.costs.faults ∙ inv.costs.faults;
        starved = made.costs.starved ∙ inv.costs.starved;
      };
      keeps = g.met.P.Pages.keeps_on _ _ _ inv.keeps made.keeps;
      line_limit = made.line_limit ∙ inv.line_limit;
      file_limit = made.file_limit ∙ inv.file_limit;
      numbers = λ n. made.numbers n ∙ inv.numbers n;
      same = record { told = made.same.told ∙ inv.same.told; files = made.same.files ∙ inv.same.files; earlier = made.same.earlier ∙ inv.same.earlier };
      unblamed = record { faults = made.blamed.faults ∙ inv.unblamed.faults; last = made.blamed.last ∙ inv.unblamed.last };
    }
