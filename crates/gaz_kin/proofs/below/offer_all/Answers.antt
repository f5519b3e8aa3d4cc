use Rattle.std.proofs.Common.{◌+◌, ◌*◌, length, ap, Ok, Err, subst, arith, ◌∙◌, ◌==◌, ℕ}
use Rattle.gaz_row.specs.Row.{id_of}
use Rattle.gaz_plain.specs.Children.{SeesMore}
use Rattle.gaz_kin.specs.Ids.{IsNext}
use Rattle.gaz_kin.specs.Leading.{one_asked, only_on, only_ok, only_err, told_on, store_on}
use Rattle.gaz_kin.proofs.Offered.{pending_on, pending_none}
use Rattle.gaz_tree.specs.declared.tree.Tree.{Tree}
use Rattle.gaz_scan.specs.Scan.{tree_of}
use Rattle.gaz_kin.specs.Reads.{most_sought}
use Rattle.gaz_kin.proofs.Walked.{one_more, all_done}
use Rattle.gaz_kin.proofs.below.offer_all.Goals as goal

pub returns-in-Err-offer_at-clause-damaged : goal.returns-in-Err-offer_at-clause-damaged
returns-in-Err-offer_at-clause-damaged g c told gaz stands left comes few =
    let v = g.P.Pages.view in
    let i = c.loop-turn.invariant in
    let v0 = v c.args.store.now.pages in
    let v1 = v c.loop-turn.store.pages in
    let told1 = told_on v0 v1 _ i.asked told in
    let stands1 = store_on gaz v0 v1 c.args.store.now.root c.loop-turn.store.root tt i.asked i.root told stands in
    let v2 = v c.next_id.new.store.pages in
    let asked2 = one_asked _ v1 v2 _ c.in-Ok-Some.ensures.asked in
    let told2 = told_on v1 v2 _ asked2 told1 in
    let stands2 = store_on gaz v1 v2 c.loop-turn.store.root c.next_id.new.store.root c.in-Ok-Some.field-0 asked2 c.in-Ok-Some.ensures.root told1 stands1 in
    c.in-Err-offer_at.ensures.damaged told2 gaz stands2

pub returns-in-Err-offer_at-clause-asked : goal.returns-in-Err-offer_at-clause-asked
returns-in-Err-offer_at-clause-asked g c =
    let v = g.P.Pages.view in
    only_on (v c.args.store.now.pages) (v c.loop-turn.store.pages) (v c.offer_at.new.store.pages) tt (Err c.in-Err-offer_at.fault) c.loop-turn.invariant.asked
    (only_on (v c.loop-turn.store.pages) (v c.next_id.new.store.pages) (v c.offer_at.new.store.pages) c.in-Ok-Some.field-0 (Err c.in-Err-offer_at.fault) (one_asked _ (v c.loop-turn.store.pages) (v c.next_id.new.store.pages) _ c.in-Ok-Some.ensures.asked) c.in-Err-offer_at.ensures.asked)

pub returns-in-Ok-None-clause-more : goal.returns-in-Ok-None-clause-more
returns-in-Ok-None-clause-more g c told gaz stands left comes few =
    let v = g.P.Pages.view in
    let i = c.loop-turn.invariant in
    let v0 = v c.args.store.now.pages in
    let v1 = v c.loop-turn.store.pages in
    let told1 = told_on v0 v1 _ i.asked told in
    let stands1 = store_on gaz v0 v1 c.args.store.now.root c.loop-turn.store.root tt i.asked i.root told stands in
    let p = i.pending told gaz stands left comes few stands.is_gazetteer in
    pending_none gaz stands.is_gazetteer c.args.id c.args.best.now.keep c.args.candidates.part c.loop-turn._turn v1.page c.loop-turn.candidates.scan left c.args.best.now.pairs c.loop-turn.best.pairs p
    (rw c.in-Ok-None.field-0-is at (c.in-Ok-None.ensures.gives told1 p.rest p.comes))

pub returns-in-Ok-None-clause-asked : goal.returns-in-Ok-None-clause-asked
returns-in-Ok-None-clause-asked g c =
    let v = g.P.Pages.view in
    only_on (v c.args.store.now.pages) (v c.loop-turn.store.pages) (v c.next_id.new.store.pages) tt (Ok tt) c.loop-turn.invariant.asked
    (only_ok (v c.loop-turn.store.pages) (v c.next_id.new.store.pages) c.in-Ok-None.field-0 tt (one_asked _ (v c.loop-turn.store.pages) (v c.next_id.new.store.pages) _ c.in-Ok-None.ensures.asked))

pub returns-in-Err-clause-damaged : goal.returns-in-Err-clause-damaged
returns-in-Err-clause-damaged g c told gaz stands left comes few =
    let v = g.P.Pages.view in
    let i = c.loop-turn.invariant in
    let v0 = v c.args.store.now.pages in
    let v1 = v c.loop-turn.store.pages in
    let told1 = told_on v0 v1 _ i.asked told in
    let stands1 = store_on gaz v0 v1 c.args.store.now.root c.loop-turn.store.root tt i.asked i.root told stands in
    let p = i.pending told gaz stands left comes few stands.is_gazetteer in
    c.in-Err.ensures.gives told1 p.rest p.comes

pub returns-in-Err-clause-asked : goal.returns-in-Err-clause-asked
returns-in-Err-clause-asked g c =
    let v = g.P.Pages.view in
    only_on (v c.args.store.now.pages) (v c.loop-turn.store.pages) (v c.next_id.new.store.pages) tt (Err c.in-Err.fault) c.loop-turn.invariant.asked
    (only_err (v c.loop-turn.store.pages) (v c.next_id.new.store.pages) c.in-Err.fault (one_asked _ (v c.loop-turn.store.pages) (v c.next_id.new.store.pages) _ c.in-Err.ensures.asked))

pub loop-turn-preserved : goal.loop-turn-preserved
loop-turn-preserved g c =
    let v = g.P.Pages.view in
    let i = c.loop-turn.invariant in
    let v0 = v c.args.store.now.pages in
    let v1 = v c.loop-turn.store.pages in
    let v2 = v c.next_id.new.store.pages in
    let v3 = v c.offer_at.new.store.pages in
    let asked2 = one_asked _ v1 v2 _ c.in-Ok-Some.ensures.asked in
    let now = c.in-Ok.ensures in
    record {
      keep = now.keep ∙ i.keep;
      part = i.part;
      pending = λ told gaz stands left comes few is.
          let told1 = told_on v0 v1 _ i.asked told in
          let stands1 = store_on gaz v0 v1 c.args.store.now.root c.loop-turn.store.root tt i.asked i.root told stands in
          let told2 = told_on v1 v2 _ asked2 told1 in
          let stands2 = store_on gaz v1 v2 c.loop-turn.store.root c.next_id.new.store.root c.in-Ok-Some.field-0 asked2 c.in-Ok-Some.ensures.root told1 stands1 in
          let p = i.pending told gaz stands left comes few is in
          pending_on gaz is c.args.id c.args.best.now.keep c.args.candidates.part c.loop-turn._turn v1.page c.loop-turn.candidates.scan left c.args.best.now.pairs c.loop-turn.best.pairs p
          v2.page v3.page c.next_id.new.scan c.in-Ok-Some.child c.offer_at.new.best.pairs (now.asked.1.same told2).pages
          (subst (λ part. IsNext part v2.page c.next_id.new.scan p.rest c.in-Ok-Some.child) i.part (rw c.in-Ok-Some.field-0-is at (c.in-Ok-Some.ensures.gives told1 p.rest p.comes)))
          (subst (λ (keep : ℕ). SeesMore gaz c.args.id keep (λ row. c.in-Ok-Some.child == id_of row) c.loop-turn.best.pairs c.offer_at.new.best.pairs) i.keep (now.more told2 gaz stands2 (i.kept told gaz stands)));
      kept = λ told gaz stands.
          let told1 = told_on v0 v1 _ i.asked told in
          let stands1 = store_on gaz v0 v1 c.args.store.now.root c.loop-turn.store.root tt i.asked i.root told stands in
          let told2 = told_on v1 v2 _ asked2 told1 in
          let stands2 = store_on gaz v1 v2 c.loop-turn.store.root c.next_id.new.store.root c.in-Ok-Some.field-0 asked2 c.in-Ok-Some.ensures.root told1 stands1 in
          now.kept told2 gaz stands2 (i.kept told gaz stands);
      tree = c.in-Ok-Some.ensures.tree ∙ i.tree;
      few = λ told gaz stands.
          let told1 = told_on v0 v1 _ i.asked told in
          let stands1 = store_on gaz v0 v1 c.args.store.now.root c.loop-turn.store.root tt i.asked i.root told stands in
          let told2 = told_on v1 v2 _ asked2 told1 in
          let stands2 = store_on gaz v1 v2 c.loop-turn.store.root c.next_id.new.store.root c.in-Ok-Some.field-0 asked2 c.in-Ok-Some.ensures.root told1 stands1 in
          let before = i.few told gaz stands in
          let one = c.in-Ok-Some.ensures.asked.counts.reads in
          let more = now.few told2 gaz stands2 in
          let high = ap (λ (t : Tree). t.height) i.tree in
          one_more (tree_of c.args.candidates.scan).height (tree_of c.loop-turn.candidates.scan).height (35 * most_sought gaz + 153) c.loop-turn._turn v0.reads v1.reads v2.reads v3.reads high before one more;
      asked = only_on v0 v1 v3 tt (Ok tt) i.asked (only_on v1 v2 v3 c.in-Ok-Some.field-0 (Ok tt) asked2 now.asked);
      line_size = now.line_size ∙ i.line_size;
      size = now.size ∙ i.size;
      root = now.root ∙ c.in-Ok-Some.ensures.root ∙ i.root;
      keeps = g.met.P.Pages.keeps_on c.args.store.now.pages c.loop-turn.store.pages c.offer_at.new.store.pages i.keeps
          (g.met.P.Pages.keeps_on c.loop-turn.store.pages c.next_id.new.store.pages c.offer_at.new.store.pages c.in-Ok-Some.ensures.keeps now.keeps);
    }

-- more came than there may be
pub returns-clause-damaged : goal.returns-clause-damaged
returns-clause-damaged g c told gaz stands left comes few =
    let p = c.loop-turn.invariant.pending told gaz stands left comes few stands.is_gazetteer in
    let count = p.count in
    let over = c.loop-turn-test.false in
    let turns = c.turns_for-turn-end.ensures.turns in
    absurd (omega (arith, count, few, over, turns))

pub returns-in-Ok-None-clause-few : goal.returns-in-Ok-None-clause-few
returns-in-Ok-None-clause-few g c told gaz stands left comes few =
    let v = g.P.Pages.view in
    let i = c.loop-turn.invariant in
    let v0 = v c.args.store.now.pages in
    let v1 = v c.loop-turn.store.pages in
    let told1 = told_on v0 v1 _ i.asked told in
    let stands1 = store_on gaz v0 v1 c.args.store.now.root c.loop-turn.store.root tt i.asked i.root told stands in
    let p = i.pending told gaz stands left comes few stands.is_gazetteer in
    let each = 2 * (tree_of c.args.candidates.scan).height + (35 * most_sought gaz + 153) in
    let ends = 2 * (tree_of c.args.candidates.scan).height in
    let high = ap (λ (t : Tree). t.height) i.tree in
    let one = c.in-Ok-None.ensures.asked.counts.reads in
    let count = p.count in
    all_done each ends c.loop-turn._turn (length left) v0.reads v1.reads (v c.next_id.new.store.pages).reads (omega (arith, count)) (i.few told gaz stands) (omega (arith, one, high))

pub returns-in-Err-clause-few : goal.returns-in-Err-clause-few
returns-in-Err-clause-few g c told gaz stands left comes few =
    let v = g.P.Pages.view in
    let i = c.loop-turn.invariant in
    let v0 = v c.args.store.now.pages in
    let v1 = v c.loop-turn.store.pages in
    let told1 = told_on v0 v1 _ i.asked told in
    let stands1 = store_on gaz v0 v1 c.args.store.now.root c.loop-turn.store.root tt i.asked i.root told stands in
    let p = i.pending told gaz stands left comes few stands.is_gazetteer in
    let each = 2 * (tree_of c.args.candidates.scan).height + (35 * most_sought gaz + 153) in
    let ends = 2 * (tree_of c.args.candidates.scan).height in
    let high = ap (λ (t : Tree). t.height) i.tree in
    let one = c.in-Err.ensures.asked.counts.reads in
    let count = p.count in
    all_done each ends c.loop-turn._turn (length left) v0.reads v1.reads (v c.next_id.new.store.pages).reads (omega (arith, count)) (i.few told gaz stands) (omega (arith, one, high))

pub returns-in-Err-offer_at-clause-few : goal.returns-in-Err-offer_at-clause-few
returns-in-Err-offer_at-clause-few g c told gaz stands left comes few =
    let v = g.P.Pages.view in
    let i = c.loop-turn.invariant in
    let v0 = v c.args.store.now.pages in
    let v1 = v c.loop-turn.store.pages in
    let told1 = told_on v0 v1 _ i.asked told in
    let stands1 = store_on gaz v0 v1 c.args.store.now.root c.loop-turn.store.root tt i.asked i.root told stands in
    let p = i.pending told gaz stands left comes few stands.is_gazetteer in
    let each = 2 * (tree_of c.args.candidates.scan).height + (35 * most_sought gaz + 153) in
    let ends = 2 * (tree_of c.args.candidates.scan).height in
    let high = ap (λ (t : Tree). t.height) i.tree in
    let v2 = v c.next_id.new.store.pages in
    let asked2 = one_asked _ v1 v2 _ c.in-Ok-Some.ensures.asked in
    let told2 = told_on v1 v2 _ asked2 told1 in
    let stands2 = store_on gaz v1 v2 c.loop-turn.store.root c.next_id.new.store.root c.in-Ok-Some.field-0 asked2 c.in-Ok-Some.ensures.root told1 stands1 in
    let one = c.in-Ok-Some.ensures.asked.counts.reads in
    let more = c.in-Err-offer_at.ensures.few told2 gaz stands2 in
    let next = rw c.in-Ok-Some.field-0-is at (c.in-Ok-Some.ensures.gives told1 p.rest p.comes) in
    let first = ap length next.first in
    let count = p.count in
    all_done each ends (c.loop-turn._turn + 1) (length left) v0.reads (v c.offer_at.new.store.pages).reads (v c.offer_at.new.store.pages).reads (omega (arith, count, first))
    (one_more (tree_of c.args.candidates.scan).height (tree_of c.loop-turn.candidates.scan).height (35 * most_sought gaz + 153) c.loop-turn._turn v0.reads v1.reads v2.reads (v c.offer_at.new.store.pages).reads high (i.few told gaz stands) one more)
    (omega arith)

pub returns-clause-few : goal.returns-clause-few
returns-clause-few g c told gaz stands left comes few =
    let p = c.loop-turn.invariant.pending told gaz stands left comes few stands.is_gazetteer in
    let count = p.count in
    let over = c.loop-turn-test.false in
    let turns = c.turns_for-turn-end.ensures.turns in
    absurd (omega (arith, count, few, over, turns))
