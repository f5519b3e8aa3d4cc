-- Calls that change the area that isn't in use, at most: the gazetteer stands at each moment, and the mirror fits still.
use Rattle.std.proofs.Common.{◌≡◌, ◌≢◌, ◌≤◌, ◌<◌, ◌*◌, inl, inr, ℕ, false, List, length, refl, sym, ◌∙◌, ap, subst, arith, Some, None, Option}
use Rattle.gaz_outside.specs.declared.station.Area.{Area}
use Rattle.gaz_outside.specs.declared.station.Area.TheVariants as area
use Rattle.gaz_outside.specs.Station.{StationView, Outcome, LeavesOnly, Confined, AnyIn, IsStable, area_place}
use Rattle.gaz_outside.proofs.Runs.{leaves_weaker}
use Rattle.gaz_plain.specs.Gazetteer.{Gazetteer}
use Rattle.gaz_page.specs.declared.page.Side.{Side}
use Rattle.gaz_page.specs.declared.page.Side.TheVariants.{Left, Right}
use Rattle.gaz_page.specs.declared.tree_root.Root.{Root}
use Rattle.gaz_page.specs.TreeRoot.{tree_root_at}
use Rattle.gaz_page.specs.Area.{page_at}
use Rattle.gaz_redo.specs.Content.{is_open, three}
use Rattle.gaz_redo.proofs.Phases.{content_closed}
use Rattle.gaz_pages.specs.Areas.{side_area, idle_area}
use Rattle.gaz_pages.specs.Fits.{Fits, HasStable, Names}
use Rattle.gaz_rows.specs.Stands.{StandsFor}
use Rattle.gaz_rows.specs.Content.{Mirrors, HasGaz, side_bytes}
use Rattle.gaz_rows.specs.Holds.{AllHold, IsOldOrNext}
use Rattle.gaz_install.proofs.Moments.{some_is, closed_gaz, side_three}

-- The gazetteer of three areas depends on Root and on the area that it names.
gaz_moves : (f h : Area → List ℕ) (gaz : Gazetteer) → h area.Root ≡ f area.Root → ((root : Root) → 4096 ≤ length (f area.Root) → tree_root_at (f area.Root) ≡ Some root → h (side_area root.side) ≡ f (side_area root.side))
    → HasGaz (three f) gaz → HasGaz (three h) gaz
gaz_moves f h gaz roots sides (inl short) = inl (subst (λ (l : List ℕ). length l < 4096) (sym roots) short.0, short.1)
gaz_moves f h gaz roots sides (inr named) =
    let same : side_bytes named.root.side (three h) ≡ side_bytes named.root.side (three f) =
    side_three named.root.side h ∙ sides named.root named.whole named.says ∙ sym (side_three named.root.side f) in
    inr (record {
      whole = subst (λ (l : List ℕ). 4096 ≤ length l) (sym roots) named.whole;
      root = named.root;
      says = ap tree_root_at roots ∙ named.says;
      within = subst (λ (l : List ℕ). 4096 * named.root.fresh ≤ length l) (sym same) named.within;
      stands = subst (λ (l : List ℕ). StandsFor gaz (page_at l) named.root) (sym same) named.stands;
    })

-- the idle area isn't Mark, nor Root, nor that of the pages
idle_mark : (before : Option Root) → area.Mark ≢ idle_area before
idle_mark None = λ is. let p = ap area_place is in absurd (omega (arith, p))
idle_mark (Some root) = by root.side
  where
    by : (side : Side) → area.Mark ≢ idle_area (Some (record root { side = side }))
    by Left is = let p = ap area_place is in absurd (omega (arith, p))
    by Right is = let p = ap area_place is in absurd (omega (arith, p))

idle_root : (before : Option Root) → area.Root ≢ idle_area before
idle_root None = λ is. let p = ap area_place is in absurd (omega (arith, p))
idle_root (Some root) = by root.side
  where
    by : (side : Side) → area.Root ≢ idle_area (Some (record root { side = side }))
    by Left is = let p = ap area_place is in absurd (omega (arith, p))
    by Right is = let p = ap area_place is in absurd (omega (arith, p))

pub idle_side : (root : Root) → side_area root.side ≢ idle_area (Some root)
idle_side root = by root.side
  where
    by : (side : Side) → side_area side ≢ idle_area (Some (record root { side = side }))
    by Left is = let p = ap area_place is in absurd (omega (arith, p))
    by Right is = let p = ap area_place is in absurd (omega (arith, p))

module _ (before : Option Root) (v : StationView) (fits : Fits before v) where
  abbrev idle : Area
  idle = idle_area before

  -- the area that Root names isn't the idle one
  named_other : (bytes : List ℕ) → Names before bytes → (root : Root) → 4096 ≤ length bytes → tree_root_at bytes ≡ Some root → side_area root.side ≢ idle
  named_other bytes names root whole says = by before names
    where
      by : (b : Option Root) → Names b bytes → side_area root.side ≢ idle_area b
      by None short = absurd (omega (arith, short, whole))
      by (Some its) named = subst (λ (r : Root). side_area r.side ≢ idle_area (Some its)) (some_is its root (sym named.1 ∙ says)) (idle_side its)

  -- outcomes that differ in the idle area alone have the gazetteer
  pub idle_is_free : (gaz : Gazetteer) → AllHold v gaz → (from c : Area → List ℕ) → ((a : Area) → v.may_leave a (from a)) → ((a : Area) → a ≢ idle → c a ≡ from a) → Mirrors c gaz
  idle_is_free gaz holds from c was same =
      let o : Outcome = record { areas = from; text = v.printed } in
      let shut : is_open (from area.Mark) ≡ false = ap is_open (fits.mark (from area.Mark) (was area.Mark)) ∙ fits.closed in
      let root : v.bytes area.Root ≡ from area.Root = sym (fits.on_root (from area.Root) (was area.Root)) in
      let names : Names before (from area.Root) = subst (λ (l : List ℕ). Names before l) root fits.names in
      record {
        three = three c;
        content = content_closed c (ap is_open (same area.Mark (idle_mark before)) ∙ shut);
        gaz_in = gaz_moves from c gaz (same area.Root (idle_root before)) (λ its whole says. same (side_area its.side) (named_other (from area.Root) names its whole says))
            (closed_gaz from gaz shut (holds o (record { areas = was; text = refl })));
      }

  module _ (w : StationView) (run : Confined (AnyIn idle) v w) where
    still_stable : (a : Area) → a ≢ idle → IsStable v a → IsStable w a
    still_stable a other stable c may = let d = run.outcomes a c may in d.2 other ∙ stable d.0 d.1 ∙ sym (run.bytes a other)

    pub fits_still : Fits before w
    fits_still = record {
      closed = ap is_open (run.bytes area.Mark (idle_mark before)) ∙ fits.closed;
      mark = still_stable area.Mark (idle_mark before) fits.mark;
      on_root = still_stable area.Root (idle_root before) fits.on_root;
      pages = pages before refl fits.pages;
      names = subst (λ (l : List ℕ). Names before l) (sym (run.bytes area.Root (idle_root before))) fits.names;
    }
      where
        pages : (b : Option Root) → b ≡ before → HasStable b v → HasStable b w
        pages None is stable = tt
        pages (Some root) is stable = still_stable (side_area root.side) (subst (λ (o : Option Root). side_area root.side ≢ idle_area o) is (idle_side root)) stable

    pub holds_still : (gaz : Gazetteer) → AllHold v gaz → AllHold w gaz
    holds_still gaz holds c leaves =
        let from : (a : Area) → List ℕ = λ a. (run.outcomes a (c.areas a) (leaves.areas a)).0 in
        idle_is_free gaz holds from c.areas (λ a. (run.outcomes a (c.areas a) (leaves.areas a)).1) (λ a other. (run.outcomes a (c.areas a) (leaves.areas a)).2 other)

    pub moments_still : (gaz next : Gazetteer) → AllHold v gaz → LeavesOnly v w (IsOldOrNext gaz next v)
    moments_still gaz next holds =
        leaves_weaker v w _ _
        (λ c near. (inl (idle_is_free gaz holds (λ a. (near.areas a).0) c.areas (λ a. (near.areas a).1) (λ a other. (near.areas a).2 other)), near.text))
        run.moments
