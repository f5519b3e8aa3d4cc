use Rattle.std.proofs.Common.{◌≤◌, ◌+◌, ◌*◌, [], ◌∷◌, sym, ap, subst, arith, ◌∙◌, ℕ, refl}
use Rattle.gaz_num.specs.Pieces.{column}
use Rattle.gaz_parent.specs.Parent.{names}
use Rattle.gaz_plain.specs.Children.{SeesMore}
use Rattle.gaz_kin.specs.Below.{is_named_among}
use Rattle.gaz_kin.specs.Named.{SeesCountry}
use Rattle.gaz_kin.specs.Leading.{asked_nothing, only_on, only_ok, only_err, told_on}
use Rattle.gaz_rows.proofs.SteppedOver.{stands_same}
use Rattle.gaz_tree.specs.declared.tree.Tree.{Tree}
use Rattle.gaz_scan.specs.Scan.{tree_of}
use Rattle.gaz_kin.specs.Reads.{most_sought, rows_of_first, rows_of_pairs}
use Rattle.gaz_kin.proofs.Countries.{one_country, waiting_first, waiting_on, waiting_none}
use Rattle.gaz_kin.proofs.Summed.{first_and_others, first_at_most, read_first, read_on, read_last, read_out}
use Rattle.gaz_kin.proofs.below.offer_countries.Goals as goal

pub returns-in-Ok-false-clause-more : goal.returns-in-Ok-false-clause-more
returns-in-Ok-false-clause-more g c told gaz stands left comes are =
    let v = g.P.Pages.view in
    let i = c.loop-turn.invariant in
    let v0 = v c.args.store.now.pages in
    let v1 = v c.loop-turn.store.pages in
    let told1 = told_on v0 v1 _ i.asked told in
    let stands1 = stands_same [] gaz v0 v1 c.args.store.now.root c.loop-turn.store.root (i.asked.1.same told) i.root stands in
    let p = (i.waiting told gaz stands left comes are).0 in
    let sees = subst (SeesCountry gaz c.args.id c.loop-turn.best.keep (v c.offer_country.new.store.pages).page c.offer_country.new.scan p.rest c.loop-turn.best.pairs c.offer_country.new.best.pairs) c.in-Ok-false.field-0-test
    (c.in-Ok-false.ensures.more told1 gaz stands1 p.rest p.comes (λ q has. are q (p.part q has))) in
    subst (λ pairs. SeesMore gaz c.args.id c.args.best.now.keep (is_named_among gaz left c.args.id) c.args.best.now.pairs pairs) (sym sees.1)
    (waiting_none gaz stands.is_gazetteer (one_country gaz v0 c.args.store.now.root stands) c.args.id c.args.best.now.keep c.loop-turn._turn v1.page c.loop-turn.scan left c.args.best.now.pairs c.loop-turn.best.pairs p sees.0)

pub returns-in-Ok-false-clause-asked : goal.returns-in-Ok-false-clause-asked
returns-in-Ok-false-clause-asked g c =
    let v = g.P.Pages.view in
    only_on (v c.args.store.now.pages) (v c.loop-turn.store.pages) (v c.offer_country.new.store.pages) tt _ c.loop-turn.invariant.asked
    (only_ok (v c.loop-turn.store.pages) (v c.offer_country.new.store.pages) c.in-Ok-false.field-0 _ c.in-Ok-false.ensures.asked)

pub returns-in-Err-clause-damaged : goal.returns-in-Err-clause-damaged
returns-in-Err-clause-damaged g c told gaz stands left comes are few =
    let v = g.P.Pages.view in
    let i = c.loop-turn.invariant in
    let v0 = v c.args.store.now.pages in
    let v1 = v c.loop-turn.store.pages in
    let told1 = told_on v0 v1 _ i.asked told in
    let stands1 = stands_same [] gaz v0 v1 c.args.store.now.root c.loop-turn.store.root (i.asked.1.same told) i.root stands in
    let p = (i.waiting told gaz stands left comes are).0 in
    c.in-Err.ensures.damaged told1 gaz stands1 p.rest p.comes (λ q has. are q (p.part q has))

pub returns-in-Err-clause-asked : goal.returns-in-Err-clause-asked
returns-in-Err-clause-asked g c =
    let v = g.P.Pages.view in
    only_on (v c.args.store.now.pages) (v c.loop-turn.store.pages) (v c.offer_country.new.store.pages) tt _ c.loop-turn.invariant.asked
    (only_err (v c.loop-turn.store.pages) (v c.offer_country.new.store.pages) c.in-Err.fault c.in-Err.ensures.asked)

pub loop-turn-init : goal.loop-turn-init
loop-turn-init g c =
    let v0 = g.P.Pages.view c.args.store.now.pages in
    record {
      keep = refl;
      waiting = λ told gaz stands left comes are.
          let first = waiting_first gaz stands.is_gazetteer (one_country gaz v0 c.args.store.now.root stands) c.args.id c.args.best.now.keep v0.page c.args.scan.now left c.args.best.now.pairs comes in
          (first.0, read_first (2 * (tree_of c.args.scan.now).height + 29) (most_sought gaz) (rows_of_pairs gaz c.args.id left) (rows_of_pairs gaz c.args.id first.0.rest) v0.reads (ap (rows_of_pairs gaz c.args.id) first.1));
      tree = refl;
      asked = (0, asked_nothing v0 tt);
      line_size = refl;
      size = refl;
      root = refl;
      keeps = g.met.P.Pages.keeps_same c.args.store.now.pages;
    }

pub loop-turn-preserved : goal.loop-turn-preserved
loop-turn-preserved g c =
    let v = g.P.Pages.view in
    let i = c.loop-turn.invariant in
    let v0 = v c.args.store.now.pages in
    let v1 = v c.loop-turn.store.pages in
    let v2 = v c.offer_country.new.store.pages in
    let now = c.in-Ok-true.ensures in
    record {
      keep = now.keep ∙ i.keep;
      waiting = λ told gaz stands left comes are.
          let told1 = told_on v0 v1 _ i.asked told in
          let stands1 = stands_same [] gaz v0 v1 c.args.store.now.root c.loop-turn.store.root (i.asked.1.same told) i.root stands in
          let so_far = i.waiting told gaz stands left comes are in
          let p = so_far.0 in
          let sees = subst (SeesCountry gaz c.args.id c.loop-turn.best.keep v2.page c.offer_country.new.scan p.rest c.loop-turn.best.pairs c.offer_country.new.best.pairs) c.in-Ok-true.field-0-test
          (now.more told1 gaz stands1 p.rest p.comes (λ q has. are q (p.part q has))) in
          let height = (tree_of c.args.scan.now).height in
          let first = rows_of_first gaz c.args.id p.rest in
          let read : v2.reads ≤ v1.reads + (64 * (first * (most_sought gaz + 4)) + (2 * height + 29)) =
          subst (λ (tree : Tree). v2.reads ≤ v1.reads + (64 * (first * (most_sought gaz + 4)) + (2 * tree.height + 29))) i.tree (now.few told1 gaz stands1 p.rest p.comes (λ q has. are q (p.part q has))) in
          let on =
          waiting_on gaz stands.is_gazetteer (one_country gaz v0 c.args.store.now.root stands) c.args.id c.args.best.now.keep c.loop-turn._turn v1.page c.loop-turn.scan left c.args.best.now.pairs c.loop-turn.best.pairs p
          v2.page v2.page c.offer_country.new.scan c.offer_country.new.best.pairs refl sees.0
          (subst (λ (keep : ℕ). SeesMore gaz c.args.id keep (λ row. names (column 9 row) c.args.id sees.0.line) c.loop-turn.best.pairs c.offer_country.new.best.pairs) i.keep sees.1) in (
            on.0,
            read_on (2 * height + 29) (most_sought gaz) (rows_of_pairs gaz c.args.id left) (rows_of_pairs gaz c.args.id p.rest) first (rows_of_pairs gaz c.args.id on.0.rest) c.loop-turn._turn v0.reads v1.reads v2.reads
                (first_and_others gaz c.args.id p.rest sees.0.pair on.0.rest (sees.0.first ∙ ap (λ rest. sees.0.pair ∷ rest) (sym on.1))) so_far.1 read,
          );
      tree = now.tree ∙ i.tree;
      asked = only_on v0 v1 v2 tt _ i.asked (only_ok v1 v2 c.in-Ok-true.field-0 tt now.asked);
      line_size = now.line_size ∙ i.line_size;
      size = now.size ∙ i.size;
      root = now.root ∙ i.root;
      keeps = g.met.P.Pages.keeps_on c.args.store.now.pages c.loop-turn.store.pages c.offer_country.new.store.pages i.keeps now.keeps;
    }

-- more came than there may be
pub returns-clause-damaged : goal.returns-clause-damaged
returns-clause-damaged g c told gaz stands left comes are few =
    let p = (c.loop-turn.invariant.waiting told gaz stands left comes are).0 in
    let count = p.count in
    let over = c.loop-turn-test.false in
    let turns = c.turns_for-turn-end.ensures.turns in
    let same = ap (λ root. root.counts.countries) c.root.ensures in
    absurd (omega (arith, count, few, over, turns, same))

-- ---- how much was read

pub returns-in-Ok-false-clause-few : goal.returns-in-Ok-false-clause-few
returns-in-Ok-false-clause-few g c told gaz stands left comes are =
    let v = g.P.Pages.view in
    let i = c.loop-turn.invariant in
    let v0 = v c.args.store.now.pages in
    let v1 = v c.loop-turn.store.pages in
    let v2 = v c.offer_country.new.store.pages in
    let told1 = told_on v0 v1 _ i.asked told in
    let stands1 = stands_same [] gaz v0 v1 c.args.store.now.root c.loop-turn.store.root (i.asked.1.same told) i.root stands in
    let so_far = i.waiting told gaz stands left comes are in
    let p = so_far.0 in
    let height = (tree_of c.args.scan.now).height in
    let first = rows_of_first gaz c.args.id p.rest in
    let read : v2.reads ≤ v1.reads + (64 * (first * (most_sought gaz + 4)) + (2 * height + 29)) =
    subst (λ (tree : Tree). v2.reads ≤ v1.reads + (64 * (first * (most_sought gaz + 4)) + (2 * tree.height + 29))) i.tree (c.in-Ok-false.ensures.few told1 gaz stands1 p.rest p.comes (λ q has. are q (p.part q has))) in
    let under = c.loop-turn-test.true in
    let turns = c.turns_for-turn-end.ensures.turns in
    let same = ap (λ root. root.counts.countries) c.root.ensures in
    read_last (2 * height + 29) (most_sought gaz) (rows_of_pairs gaz c.args.id left) (rows_of_pairs gaz c.args.id p.rest) first c.loop-turn._turn (c.args.store.now.root.counts.countries + 1) v0.reads v1.reads v2.reads
    (first_at_most gaz c.args.id p.rest) (omega (arith, under, turns, same)) so_far.1 read

pub returns-in-Err-clause-few : goal.returns-in-Err-clause-few
returns-in-Err-clause-few g c told gaz stands left comes are =
    let v = g.P.Pages.view in
    let i = c.loop-turn.invariant in
    let v0 = v c.args.store.now.pages in
    let v1 = v c.loop-turn.store.pages in
    let v2 = v c.offer_country.new.store.pages in
    let told1 = told_on v0 v1 _ i.asked told in
    let stands1 = stands_same [] gaz v0 v1 c.args.store.now.root c.loop-turn.store.root (i.asked.1.same told) i.root stands in
    let so_far = i.waiting told gaz stands left comes are in
    let p = so_far.0 in
    let height = (tree_of c.args.scan.now).height in
    let first = rows_of_first gaz c.args.id p.rest in
    let read : v2.reads ≤ v1.reads + (64 * (first * (most_sought gaz + 4)) + (2 * height + 29)) =
    subst (λ (tree : Tree). v2.reads ≤ v1.reads + (64 * (first * (most_sought gaz + 4)) + (2 * tree.height + 29))) i.tree (c.in-Err.ensures.few told1 gaz stands1 p.rest p.comes (λ q has. are q (p.part q has))) in
    let under = c.loop-turn-test.true in
    let turns = c.turns_for-turn-end.ensures.turns in
    let same = ap (λ root. root.counts.countries) c.root.ensures in
    read_last (2 * height + 29) (most_sought gaz) (rows_of_pairs gaz c.args.id left) (rows_of_pairs gaz c.args.id p.rest) first c.loop-turn._turn (c.args.store.now.root.counts.countries + 1) v0.reads v1.reads v2.reads
    (first_at_most gaz c.args.id p.rest) (omega (arith, under, turns, same)) so_far.1 read

pub returns-clause-few : goal.returns-clause-few
returns-clause-few g c told gaz stands left comes are =
    let v = g.P.Pages.view in
    let v0 = v c.args.store.now.pages in
    let v1 = v c.loop-turn.store.pages in
    let so_far = c.loop-turn.invariant.waiting told gaz stands left comes are in
    let turns = c.turns_for-turn-end.ensures.turns in
    let same = ap (λ root. root.counts.countries) c.root.ensures in
    read_out (2 * (tree_of c.args.scan.now).height + 29) (most_sought gaz) (rows_of_pairs gaz c.args.id left) (rows_of_pairs gaz c.args.id so_far.0.rest) c.loop-turn._turn (c.args.store.now.root.counts.countries + 1) v0.reads v1.reads
    (omega (arith, turns, same)) so_far.1
