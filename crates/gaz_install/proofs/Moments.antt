-- What a stop leaves while changed pages are committed with their root: the old gazetteer or the next one.
use Rattle.std.proofs.Common.{◌≡◌, ◌≤◌, ◌*◌, ◌+◌, ◌⊎◌, inl, inr, ⊎_elim, ℕ, false, List, ◌∷◌, ◌++◌, length, drop, refl, sym, ◌∙◌, ap, subst, arith, Some, IsTrue, Option}
use Rattle.std.specs.Prelude.{◌==◌}
use Rattle.std.proofs.lemmas.List.{length-append}
use Rattle.gaz_outside.specs.declared.station.Area.{Area}
use Rattle.gaz_outside.specs.declared.station.Area.TheVariants as area
use Rattle.gaz_outside.specs.Station.{StationView, Outcome, Leaves, LeavesOnly, IsStable, area_place}
use Rattle.gaz_outside.proofs.Runs.{leaves_weaker}
use Rattle.gaz_plain.specs.Gazetteer.{Gazetteer}
use Rattle.gaz_page.specs.declared.page.Side.{Side}
use Rattle.gaz_page.specs.declared.page.Side.TheVariants.{Left, Right}
use Rattle.gaz_page.specs.declared.tree_root.Root.{Root}
use Rattle.gaz_page.specs.TreeRoot.{tree_root_bytes, tree_root_at, FitsRoot}
use Rattle.gaz_page.proofs.TreeRoot.{tree_root_first}
use Rattle.gaz_page.specs.Area.{page_at}
use Rattle.gaz_redo.specs.Slots.{Slot, Touches, LeaveNoGap, laid_in, IsHome}
use Rattle.gaz_redo.specs.Content.{Contents, is_open, three, laid, IsReady, IsOldOrNew, IsCommitted}
use Rattle.gaz_redo.proofs.Phases.{content_closed}
use Rattle.gaz_pages.specs.Areas.{side_area}
use Rattle.gaz_pages.specs.Fits.{Fits}
use Rattle.gaz_rows.specs.Stands.{StandsFor}
use Rattle.gaz_rows.specs.Content.{Mirrors, HasGaz, side_bytes}
use Rattle.gaz_rows.specs.Holds.{AllHold, IsOldOrNext}
use Rattle.gaz_install.specs.Next.{MayCommit, IsNext, with_root, pages_with}
use Rattle.gaz_install.proofs.Roots.{first, root_first, root_laid, side_laid, none_gaps}

pub some_is : {A : Type 0} (x y : A) → Some x ≡ Some y → x ≡ y
some_is x y is = cc is

-- the gazetteer of areas whose gate is closed is that of the three as they are
pub closed_gaz : (areas : Area → List ℕ) (gaz : Gazetteer) → is_open (areas area.Mark) ≡ false → Mirrors areas gaz → HasGaz (three areas) gaz
closed_gaz areas gaz shut mirrors =
    subst (λ (c : Contents). HasGaz c gaz) (some_is mirrors.three (three areas) (sym mirrors.content ∙ content_closed areas shut)) mirrors.gaz_in

pub side_three : (side : Side) (f : Area → List ℕ) → side_bytes side (three f) ≡ f (side_area side)
side_three Left f = refl
side_three Right f = refl

side_laid_three : (side : Side) (ss : List Slot) (f : Area → List ℕ) → side_bytes side (laid ss (three f)) ≡ laid_in (side_area side) ss (f (side_area side))
side_laid_three Left ss f = refl
side_laid_three Right ss f = refl

side_home : (side : Side) → IsHome (side_area side)
side_home Left = omega arith
side_home Right = omega arith

-- where nothing was called, nothing was left but what a stop leaves now
pub none_moves : (v : StationView) (old next : Gazetteer) → ((c : Outcome) → v.left_since v.moment c → Leaves v c) → AllHold v old → LeavesOnly v v (IsOldOrNext old next v)
none_moves v old next now holds = record {
  later = omega arith;
  each = λ c left. let is = now c left in (inl (holds c is), is.text);
  before = λ t c le left. inl left;
}

root_alone : (a : Area) → IsTrue (2 == area_place a) → a ≡ area.Root
root_alone area.Mark is = absurd (cc is)
root_alone area.Log is = absurd (cc is)
root_alone area.Root is = refl
root_alone area.Left is = absurd (cc is)
root_alone area.Right is = absurd (cc is)

module _ (root : Root) (images : List Slot) (fits_root : FitsRoot root) (before : Option Root) (v : StationView) (fits : Fits before v) (may : MayCommit root images v) where
  abbrev ss : List Slot
  ss = with_root root images

  abbrev here : Area
  here = side_area root.side

  is_first : ss ≡ first root images may.only ∷ images
  is_first = root_first root images may.only

  only_touches : (a : Area) → Touches a ss → (a ≡ area.Root) ⊎ (a ≡ here)
  only_touches a touches = elim (subst (Touches a) is_first touches) [
    | inl is ↦ inl (root_alone a is)
    | inr more ↦ inr (may.only a more)
  ]

  pub is_ready : IsReady ss v
  is_ready = record {
    closed = fits.closed;
    mark = fits.mark;
    homes = λ a touches. elim (only_touches a touches) [
      | inl is ↦ subst (IsStable v) (sym is) fits.on_root
      | inr is ↦ subst (IsStable v) (sym is) may.stable
    ];
  }

  no_gap : (next : Gazetteer) → IsNext next root images v → LeaveNoGap ss v.bytes
  no_gap next is = subst (λ (l : List Slot). LeaveNoGap l v.bytes) (sym is_first) (none_gaps root images may.only v.bytes is.no_gap)

  root_now : (file : List ℕ) → laid_in area.Root ss file ≡ tree_root_bytes root ++ drop (0 + length (tree_root_bytes root)) file
  root_now file = ap (λ (l : List Slot). laid_in area.Root l file) is_first ∙ root_laid root images may.only file

  side_now : (file : List ℕ) → laid_in here ss file ≡ laid_in here images file
  side_now file = ap (λ (l : List Slot). laid_in here l file) is_first ∙ side_laid root images may.only file

  root_whole : (file : List ℕ) → 4096 ≤ length (laid_in area.Root ss file)
  root_whole file = subst (λ (l : List ℕ). 4096 ≤ length l) (sym (root_now file))
      (let rest = drop (0 + length (tree_root_bytes root)) file in omega (arith, length-append (tree_root_bytes root) rest))

  root_read : (file : List ℕ) → tree_root_at (laid_in area.Root ss file) ≡ Some root
  root_read file = ap tree_root_at (root_now file) ∙ tree_root_first root (drop (0 + length (tree_root_bytes root)) file) fits_root

  -- three areas with the root page laid over, whose side reads as the pages do, have the next gazetteer
  next_in : (next : Gazetteer) (is : IsNext next root images v) (c : Contents) (file : List ℕ) → c.root ≡ laid_in area.Root ss file → side_bytes root.side c ≡ pages_with root images v → HasGaz c next
  next_in next is c file roots sides = inr (record {
    whole = subst (λ (l : List ℕ). 4096 ≤ length l) (sym roots) (root_whole file);
    root = root;
    says = ap tree_root_at roots ∙ root_read file;
    within = subst (λ (l : List ℕ). 4096 * root.fresh ≤ length l) (sym sides) is.within;
    stands = subst (λ (l : List ℕ). StandsFor next (page_at l) root) (sym sides) is.stands;
  })

  -- inside the commit
  while_committed : (old next : Gazetteer) → AllHold v old → IsNext next root images v → (c : Outcome) → IsOldOrNew ss v c → IsOldOrNext old next v c
  while_committed old next holds is c either =
      let from = either.from in
      let o : Outcome = record { areas = from; text = v.printed } in
      let shut : is_open (from area.Mark) ≡ false = ap is_open (fits.mark (from area.Mark) (either.was area.Mark)) ∙ fits.closed in
      let there : from here ≡ v.bytes here = may.stable (from here) (either.was here) in (
        ⊎_elim
            (λ same. inl (record { three = three from; content = same; gaz_in = closed_gaz from old shut (holds o (record { areas = either.was; text = refl })) }))
            (λ new. inr (record {
              three = laid ss (three from);
              content = new;
              gaz_in = next_in next is (laid ss (three from)) (from area.Root) refl
                  (side_laid_three root.side ss from ∙ ap (laid_in here ss) there ∙ side_now (v.bytes here));
            }))
            either.content,
        either.text,
      )

  pub moments : (now : StationView) → (LeaveNoGap ss v.bytes → LeavesOnly v now (IsOldOrNew ss v)) → (old next : Gazetteer) → AllHold v old → IsNext next root images v → LeavesOnly v now (IsOldOrNext old next v)
  moments now commits old next holds is = leaves_weaker v now _ _ (while_committed old next holds is) (commits (no_gap next is))

  module _ (now : StationView) (done : IsCommitted ss v now) where
    bytes_now : (side : Side) → now.bytes (side_area side) ≡ laid_in (side_area side) ss (v.bytes (side_area side))
    bytes_now Left = done.left
    bytes_now Right = done.right

    -- of the area of the pages a stop leaves what it reads
    side_after : (c : List ℕ) → now.may_leave here c → c ≡ laid_in here ss (v.bytes here)
    side_after c may_be =
        let d = done.outcomes here c (side_home root.side) may_be in
        d.2 ∙ ap (laid_in here ss) (may.stable d.0 d.1)

    pub holds_next : (next : Gazetteer) → IsNext next root images v → AllHold now next
    holds_next next is c leaves =
        let shut : is_open (c.areas area.Mark) ≡ false = ap is_open (done.ready.mark (c.areas area.Mark) (leaves.areas area.Mark)) ∙ done.ready.closed in
        let roots = done.outcomes area.Root (c.areas area.Root) (omega arith) (leaves.areas area.Root) in
        record {
          three = three c.areas;
          content = content_closed c.areas shut;
          gaz_in = next_in next is (three c.areas) roots.0 roots.2
              (side_three root.side c.areas ∙ side_after (c.areas here) (leaves.areas here) ∙ side_now (v.bytes here));
        }

    pub fits_then : Fits (Some root) now
    fits_then = record {
      closed = done.ready.closed;
      mark = done.ready.mark;
      on_root = done.ready.homes area.Root (subst (Touches area.Root) (sym is_first) (inl refl));
      pages = λ c may_be. side_after c may_be ∙ sym (bytes_now root.side);
      names = (
        subst (λ (l : List ℕ). 4096 ≤ length l) (sym done.root) (root_whole (v.bytes area.Root)),
        ap tree_root_at done.root ∙ root_read (v.bytes area.Root),
      );
    }
