-- What a device that fits a mirror with a root mirrors: what that root and its pages stand for.
use Rattle.std.proofs.Common.{◌≡◌, ◌≤◌, ◌*◌, inl, inr, ℕ, List, length, refl, sym, ◌∙◌, ap, subst, arith, Some, None, Option}
use Rattle.std.specs.Prelude.{option_map}
use Rattle.gaz_outside.specs.declared.station.Area.{Area}
use Rattle.gaz_outside.specs.Station.{StationView, Confined, AnyIn}
use Rattle.gaz_outside.proofs.Runs.{confined_weaker}
use Rattle.gaz_page.specs.declared.tree_root.Root.{Root}
use Rattle.gaz_page.specs.Area.{page_at}
use Rattle.gaz_redo.specs.Slots.{SameBytes}
use Rattle.gaz_redo.specs.Content.{three}
use Rattle.gaz_pages.specs.Areas.{side_area, idle_area}
use Rattle.gaz_pages.specs.Fits.{Fits}
use Rattle.gaz_plain.specs.Gazetteer.{Gazetteer}
use Rattle.gaz_rows.specs.Stands.{StandsFor}
use Rattle.gaz_rows.specs.Content.{Mirrors, HasGaz}
use Rattle.gaz_rows.specs.Holds.{AllHold}
use Rattle.gaz_install.proofs.Moments.{some_is, closed_gaz, side_three}

-- the areas as they read are one of the outcomes
pub as_it_reads : (v : StationView) (gaz : Gazetteer) → ((a : Area) → v.may_leave a (v.bytes a)) → AllHold v gaz → Mirrors v.bytes gaz
as_it_reads v gaz stay holds = holds (record { areas = v.bytes; text = v.printed }) (record { areas = stay; text = refl })

-- calls that only read change no area that isn't in use
pub reads_idle : (old new : StationView) (before : Option Root) → Confined SameBytes old new → Confined (AnyIn (idle_area before)) old new
reads_idle old new before run = confined_weaker SameBytes (AnyIn (idle_area before)) (λ a d c same other. same) old new run

-- its pages lie within their area and stand for the gazetteer
pub record StandsThere (gaz : Gazetteer) (root : Root) (v : StationView) : Type 0 where
  pub within : 4096 * root.fresh ≤ length (v.bytes (side_area root.side))
  pub stands : StandsFor gaz (page_at (v.bytes (side_area root.side))) root

pub mirrored : (v : StationView) (root : Root) (gaz : Gazetteer) → Fits (Some root) v → Mirrors v.bytes gaz → StandsThere gaz root v
mirrored v root gaz fits mirrors = by (closed_gaz v.bytes gaz fits.closed mirrors)
  where
    by : HasGaz (three v.bytes) gaz → StandsThere gaz root v
    by (inl short) = absurd (omega (arith, short.0, fits.names.0))
    by (inr named) =
        let sides = side_three named.root.side v.bytes in
        subst (λ (r : Root). StandsThere gaz r v) (some_is named.root root (sym named.says ∙ fits.names.1))
        (record {
          within = subst (λ (l : List ℕ). 4096 * named.root.fresh ≤ length l) sides named.within;
          stands = subst (λ (l : List ℕ). StandsFor gaz (page_at l) named.root) sides named.stands;
        })

-- The date of the gazetteer is the root's, and none where there is no root.
pub dated_by : (v : StationView) (before : Option Root) (gaz : Gazetteer) → Fits before v → Mirrors v.bytes gaz → gaz.date ≡ option_map (λ root. root.day) before
dated_by v None gaz fits mirrors = by (closed_gaz v.bytes gaz fits.closed mirrors)
  where
    by : HasGaz (three v.bytes) gaz → gaz.date ≡ None
    by (inl short) = ap (λ (g : Gazetteer). g.date) short.1
    by (inr named) = absurd (omega (arith, named.whole, fits.names))
dated_by v (Some root) gaz fits mirrors = (mirrored v root gaz fits mirrors).stands.date
