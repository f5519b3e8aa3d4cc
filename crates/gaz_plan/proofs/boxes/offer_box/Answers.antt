use Rattle.std.proofs.Common.{ℕ, true, [], length, filter, refl, sym, ap₂, subst, arith, ◌∙◌, Ok, rules, ◌≡◌, ◌+◌}
use Rattle.std.specs.Prelude.{◌||◌}
use Rattle.gaz_box.specs.View.{edges_of}
use Rattle.gaz_pick.specs.Asked.{asked}
use Rattle.gaz_rows.proofs.SteppedOver.{stands_same}
use Rattle.gaz_kin.specs.Leading.{asked_nothing, only_on, told_on}
use Rattle.gaz_plan.specs.Boxes.{is_in_band, is_in_bands, is_in_box}
use Rattle.gaz_plan.specs.Seen.{SeesMore}
use Rattle.gaz_plan.proofs.Offering.{sees, sees_nothing, sees_both}
use Rattle.gaz_plan.proofs.Boxed.{no_band, next_band, all_bands}
use Rattle.gaz_plan.proofs.FewBands.{bands_grow, band_more}
use Rattle.gaz_plan.specs.Candidates.{rows_in_bands}
use Rattle.gaz_plan.proofs.boxes.offer_box.Goals as goal

pub loop-band-init : goal.loop-band-init
loop-band-init g c = record {
  keep = refl;
  more = λ told gaz stands.
      sees_nothing gaz stands.is_gazetteer (asked c.args.query.now) c.args.best.now.keep (is_in_bands c.bands-south.result.0 c.bands-south.result.0 (edges_of c.args.edges.now)) c.args.best.now.pairs
      (λ row at is_one inside. no_band c.bands-south.result.0 (edges_of c.args.edges.now) row inside);
  from = omega arith;
  reads = λ told gaz stands. omega arith;
  asked = (0, asked_nothing (g.P.Pages.view c.args.store.now.pages) tt);
  size = refl;
  root = refl;
  keeps = g.met.P.Pages.keeps_same c.args.store.now.pages;
}

pub returns-in-Err-clause-damaged : goal.returns-in-Err-clause-damaged
returns-in-Err-clause-damaged g c told gaz stands =
    let v = g.P.Pages.view in
    let i = c.loop-band.invariant in
    let v0 = v c.args.store.now.pages in
    let v1 = v c.loop-band.store.pages in
    c.in-Err.ensures.damaged (told_on v0 v1 _ i.asked told) gaz (stands_same [] gaz v0 v1 c.args.store.now.root c.loop-band.store.root (i.asked.1.same told) i.root stands)

pub returns-in-Err-clause-asked : goal.returns-in-Err-clause-asked
returns-in-Err-clause-asked g c =
    let v = g.P.Pages.view in
    only_on (v c.args.store.now.pages) (v c.loop-band.store.pages) (v c.offer_band.new.store.pages) tt _ c.loop-band.invariant.asked c.in-Err.ensures.asked

pub loop-band-preserved : goal.loop-band-preserved
loop-band-preserved g c =
    let v = g.P.Pages.view in
    let i = c.loop-band.invariant in
    let v0 = v c.args.store.now.pages in
    let v1 = v c.loop-band.store.pages in
    let v2 = v c.offer_band.new.store.pages in
    let a = asked c.args.query.now in
    let keep = c.args.best.now.keep in
    let e = edges_of c.args.edges.now in
    let south = c.bands-south.result.0 in
    let band = c.loop-band.band in
    let now = c.in-Ok.ensures in
    record {
      keep = now.keep ∙ i.keep;
      more = λ told gaz stands.
          let is = stands.is_gazetteer in
          let told1 = told_on v0 v1 _ i.asked told in
          let stands1 = stands_same [] gaz v0 v1 c.args.store.now.root c.loop-band.store.root (i.asked.1.same told) i.root stands in
          let then = subst (λ (k : ℕ). SeesMore gaz a k (is_in_band band e) c.loop-band.best.pairs c.offer_band.new.best.pairs) i.keep (now.more told1 gaz stands1) in
          sees gaz is a keep (λ row. is_in_bands south band e row || is_in_band band e row) (is_in_bands south (band + 1) e) c.args.best.now.pairs c.offer_band.new.best.pairs
          (sees_both gaz is a keep (is_in_bands south band e) (is_in_band band e) c.args.best.now.pairs c.loop-band.best.pairs c.offer_band.new.best.pairs (i.more told gaz stands) then)
          (λ row at is_one inside. next_band south band e row inside);
      from = (let from = i.from in omega (arith, from));
      reads = λ told gaz stands.
          let told1 = told_on v0 v1 _ i.asked told in
          let stands1 = stands_same [] gaz v0 v1 c.args.store.now.root c.loop-band.store.root (i.asked.1.same told) i.root stands in
          let from = i.from in
          let before = i.reads told gaz stands in
          let one = now.reads told1 gaz stands1 in
          let more = band_more gaz south e band from in
          omega (arith, before, one, more, from);
      asked = only_on v0 v1 v2 tt (Ok tt) i.asked now.asked;
      size = now.size ∙ i.size;
      root = now.root ∙ i.root;
      keeps = g.met.P.Pages.keeps_on c.args.store.now.pages c.loop-band.store.pages c.offer_band.new.store.pages i.keeps now.keeps;
    }

pub returns-clause-more : goal.returns-clause-more
returns-clause-more g c told gaz stands =
    let e = edges_of c.args.edges.now in
    let south = c.bands-south.result.0 in
    let north = c.bands-south.result.1 in
    let over = c.loop-band-test.false in
    let ordered = c.bands-south.ensures.ordered in
    let band : c.loop-band.band ≡ north + 1 = search rules in
    sees gaz stands.is_gazetteer (asked c.args.query.now) c.args.best.now.keep (is_in_bands south c.loop-band.band e) (is_in_box e) c.args.best.now.pairs c.loop-band.best.pairs (c.loop-band.invariant.more told gaz stands)
    (λ row at is_one inside. subst (λ (n : ℕ). is_in_bands south n e row ≡ true) (sym band) (all_bands c.index_finds.ensures.sought e c.args.edges.now.on_globe south north c.bands-south.ensures.south c.bands-south.ensures.north row inside))

pub returns-in-Err-clause-reads : goal.returns-in-Err-clause-reads
returns-in-Err-clause-reads g c told gaz stands =
    let v = g.P.Pages.view in
    let i = c.loop-band.invariant in
    let v0 = v c.args.store.now.pages in
    let v1 = v c.loop-band.store.pages in
    let told1 = told_on v0 v1 _ i.asked told in
    let stands1 = stands_same [] gaz v0 v1 c.args.store.now.root c.loop-band.store.root (i.asked.1.same told) i.root stands in
    let e = edges_of c.args.edges.now in
    let south = c.bands-south.result.0 in
    let north = c.bands-south.result.1 in
    let band = c.loop-band.band in
    let south_is = c.bands-south.ensures.south in
    let north_is = c.bands-south.ensures.north in
    let from = i.from in
    let below = c.loop-band-test.true in
    let before = i.reads told gaz stands in
    let one = c.in-Err.ensures.reads told1 gaz stands1 in
    let more = band_more gaz south e band from in
    let grow = bands_grow gaz south e (band + 1) (north + 1) (omega (arith, below)) in
    let all : length (filter (is_in_bands south (north + 1) e) gaz.rows) ≡ rows_in_bands gaz e = ap₂ (λ s n. length (filter (is_in_bands s (n + 1) e) gaz.rows)) south_is north_is in
    omega (arith, before, one, more, grow, all, from, below, south_is, north_is)

pub returns-clause-reads : goal.returns-clause-reads
returns-clause-reads g c told gaz stands =
    let i = c.loop-band.invariant in
    let e = edges_of c.args.edges.now in
    let south = c.bands-south.result.0 in
    let north = c.bands-south.result.1 in
    let south_is = c.bands-south.ensures.south in
    let north_is = c.bands-south.ensures.north in
    let over = c.loop-band-test.false in
    let ordered = c.bands-south.ensures.ordered in
    let band : c.loop-band.band ≡ north + 1 = search rules in
    let before = i.reads told gaz stands in
    let all : length (filter (is_in_bands south c.loop-band.band e) gaz.rows) ≡ rows_in_bands gaz e =
    ap₂ (λ s n. length (filter (is_in_bands s n e) gaz.rows)) south_is (band ∙ ap₂ (λ n one. n + one) north_is refl) in
    omega (arith, before, all, band, south_is, north_is)
