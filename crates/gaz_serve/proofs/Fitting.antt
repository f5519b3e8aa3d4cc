-- What a request leaves of the device between two requests.
use Rattle.std.proofs.Common.{◌≡◌, inl, inr, Bool, false, IsTrue, List, ℕ, length, ◌<◌, ◌≤◌, ◌*◌, ◌∙◌, refl, sym, ap, subst, arith, Option, Some, None}
use Rattle.gaz_outside.specs.declared.station.Area.{Area}
use Rattle.gaz_outside.specs.declared.station.Area.TheVariants as area
use Rattle.gaz_outside.specs.Station.{StationView, IsStable}
use Rattle.gaz_page.specs.declared.tree_root.Root.{Root}
use Rattle.gaz_redo.specs.Content.{is_open, three}
use Rattle.gaz_redo.proofs.Phases.{content_closed}
use Rattle.gaz_pages.specs.Areas.{side_area}
use Rattle.gaz_pages.specs.Fits.{Fits, HasStable, Names}
use Rattle.gaz_plain.specs.Gazetteer.{Gazetteer}
use Rattle.gaz_page.specs.Area.{page_at}
use Rattle.gaz_rows.specs.Stands.{StandsFor}
use Rattle.gaz_rows.specs.Content.{Mirrors, HasGaz, side_bytes, root_in}
use Rattle.gaz_rows.specs.Holds.{AllHold}
use Rattle.gaz_install.proofs.Moments.{some_is, closed_gaz, side_three}
use Rattle.gaz_turns.specs.Steps.{AreasKept}
use Rattle.gaz_serve.specs.Session.{SessionView, IsOpen}

module _ (old new : StationView) (told : IsTrue old.is_told) (kept : AreasKept old new) where
  stable_still : (a : Area) → IsStable old a → IsStable new a
  stable_still a stable c leaves = let here = kept.each told a in stable c (here.outcomes c leaves) ∙ sym here.bytes

  pages_still : (root : Option Root) → HasStable root old → HasStable root new
  pages_still None stable = tt
  pages_still (Some root) stable = stable_still (side_area root.side) stable

  pub fits_still : (root : Option Root) → Fits root old → Fits root new
  fits_still root fits = record {
    closed = subst (λ (bytes : List ℕ). is_open bytes ≡ false) (sym (kept.each told area.Mark).bytes) fits.closed;
    mark = stable_still area.Mark fits.mark;
    on_root = stable_still area.Root fits.on_root;
    pages = pages_still root fits.pages;
    names = subst (λ (bytes : List ℕ). Names root bytes) (sym (kept.each told area.Root).bytes) fits.names;
  }

-- where the areas are kept, the session has open what it had
pub open_still : (session : SessionView) (old new : StationView) → new.is_told ≡ old.is_told → AreasKept old new → IsOpen session old → IsOpen session new
open_still session old new same kept opened =
    let before : IsTrue new.is_told → IsTrue old.is_told = λ told. subst (λ (b : Bool). IsTrue b) same told in
    record { fits = λ told. fits_still old new (before told) kept session.root (opened.fits (before told)) }

-- of areas whose gate is closed, Root and the side that it names have the gazetteer
same_named : (from c : Area → List ℕ) (gaz : Gazetteer) → c area.Root ≡ from area.Root → (root : Option Root) → Names root (from area.Root) → ((its : Root) → root ≡ Some its → c (side_area its.side) ≡ from (side_area its.side)) → HasGaz (three from) gaz → HasGaz (three c) gaz
same_named from c gaz same root names side (inl short) = inl (subst (λ (bytes : List ℕ). length bytes < 4096) (sym same) short.0, short.1)
same_named from c gaz same None names side (inr named) = absurd (omega (arith, named.whole, names))
same_named from c gaz same (Some its) names side (inr named) =
    inr (record {
      whole = subst (λ (bytes : List ℕ). 4096 ≤ length bytes) (sym same) named.whole;
      root = named.root;
      says = ap root_in same ∙ named.says;
      within = subst (λ (l : List ℕ). 4096 * named.root.fresh ≤ length l) (sym sides) named.within;
      stands = subst (λ (l : List ℕ). StandsFor gaz (page_at l) named.root) (sym sides) named.stands;
    })
  where
    is_root : its ≡ named.root
    is_root = some_is its named.root (sym names.1 ∙ named.says)

    sides : side_bytes named.root.side (three c) ≡ side_bytes named.root.side (three from)
    sides =
        side_three named.root.side c
        ∙ subst (λ (r : Root). c (side_area r.side) ≡ from (side_area r.side)) is_root (side its refl)
        ∙ sym (side_three named.root.side from)

-- what the areas mirror as they read, all outcomes have: nothing is pending where the gazetteer stands
pub all_hold : (root : Option Root) (v : StationView) (gaz : Gazetteer) → Fits root v → Mirrors v.bytes gaz → AllHold v gaz
all_hold root v gaz fits mirrors c leaves =
    let mark = fits.mark (c.areas area.Mark) (leaves.areas area.Mark) in
    let shut : is_open (c.areas area.Mark) ≡ false = ap is_open mark ∙ fits.closed in
    record {
      three = three c.areas;
      content = content_closed c.areas shut;
      gaz_in = same_named v.bytes c.areas gaz (fits.on_root (c.areas area.Root) (leaves.areas area.Root)) root fits.names (side_is root fits.pages) (closed_gaz v.bytes gaz fits.closed mirrors);
    }
  where
    side_is : (o : Option Root) → HasStable o v → (its : Root) → o ≡ Some its → c.areas (side_area its.side) ≡ v.bytes (side_area its.side)
    side_is None stable its is = absurd (cc is)
    side_is (Some r) stable its is = subst (λ (x : Root). c.areas (side_area x.side) ≡ v.bytes (side_area x.side)) (some_is r its is) (stable (c.areas (side_area r.side)) (leaves.areas (side_area r.side)))
