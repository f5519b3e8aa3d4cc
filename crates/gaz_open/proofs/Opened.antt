-- What a stop leaves of a mirror while it is opened.
use Rattle.std.proofs.Common.{◌≡◌, ◌⊎◌, inl, inr, ◌-◌, ◌≤◌, min, ℕ, Bool, true, false, length, take, arith, List, refl, sym, ◌∙◌, ap, subst, Option, Some, None}
use Rattle.std.proofs.lemmas.List.{take_all}
use Rattle.gaz_outside.specs.declared.station.Area.{Area}
use Rattle.gaz_outside.specs.declared.station.Area.TheVariants as area
use Rattle.gaz_outside.specs.Station.{StationView, Outcome, Leaves, LeavesOnly, Confined}
use Rattle.gaz_outside.proofs.Runs.{leaves_weaker, goes_far}
use Rattle.gaz_plain.specs.Gazetteer.{Gazetteer}
use Rattle.gaz_page.specs.declared.tree_root.Root.{Root}
use Rattle.gaz_page.specs.TreeRoot.{tree_root_at, tree_root_in}
use Rattle.gaz_redo.specs.Slots.{SameBytes}
use Rattle.gaz_redo.specs.Content.{Contents, content, content_by, is_log, is_open, laid, slot_count, slots_of, three}
use Rattle.gaz_redo.proofs.Words.{form_from}
use Rattle.gaz_redo.proofs.Steps.{stays_stable}
use Rattle.gaz_redo.proofs.Phases.{content_closed}
use Rattle.gaz_redo.specs.Form.{IsInForm}
use Rattle.gaz_redo.specs.Recovered.{AllStable, StandsFor, IsRedone, SlotsToRedo}
use Rattle.gaz_pages.specs.Areas.{side_area}
use Rattle.gaz_pages.specs.Fits.{Fits, HasStable, Names}
use Rattle.gaz_rows.specs.Content.{Mirrors, HasGaz}
use Rattle.gaz_rows.specs.Holds.{AllHold, HasNone, IsFound, IsStill}
use Rattle.gaz_open.specs.Opens.{HasNoLog, IsSettled, NothingToRedo}
use Rattle.gaz_open.proofs.Mirrored.{same_content, same_areas}

-- the areas as they read are an outcome
pub holds_now : (v : StationView) (gaz : Gazetteer) → ((a : Area) → v.may_leave a (v.bytes a)) → AllHold v gaz → Mirrors v.bytes gaz
holds_now v gaz stay holds = holds (record { areas = v.bytes; text = v.printed }) (record { areas = stay; text = refl })

-- what the areas as they read hold
found_as_it_reads : (v : StationView) (c : Outcome) → ((a : Area) → v.may_leave a (v.bytes a)) → content c.areas ≡ content v.bytes → c.text ≡ v.printed → IsFound v c
found_as_it_reads v c stay same text = (record { areas = v.bytes; text = v.printed }, record { areas = stay; text = refl }, same_content c.areas v.bytes same, text)

-- where all outcomes have one gazetteer, it is this one that is found
pub found_still : (v : StationView) (gaz : Gazetteer) (c : Outcome) → AllHold v gaz → IsFound v c → IsStill gaz v c
found_still v gaz c holds found = ((found.2 gaz).1 (holds found.0 found.1), found.3)

content_of_same : (f h : Area → List ℕ) → ((a : Area) → f a ≡ h a) → content f ≡ content h
content_of_same f h is = ap content (λ i a. is a i)

module _ (v0 v1 : StationView) (run : Confined SameBytes v0 v1) where
  -- while the areas are synced
  pub while_synced : LeavesOnly v0 v1 (IsFound v0)
  while_synced =
      leaves_weaker v0 v1 _ _
      (λ c near.
      let o : Outcome = record { areas = λ a. (near.areas a).0; text = v0.printed } in
      (o, record { areas = λ a. (near.areas a).1; text = refl }, same_areas c.areas o.areas (λ a. (near.areas a).2), near.text))
      run.moments

  -- while a stop is recovered from
  pub while_recovered : (v2 : StationView) → ((a : Area) → v0.may_leave a (v0.bytes a)) → LeavesOnly v1 v2 (StandsFor v1) → LeavesOnly v0 v2 (IsFound v0)
  while_recovered v2 stay recovers =
      goes_far v0 v1 v2 _ _ while_synced recovers
      (λ c stands. found_as_it_reads v0 c stay (stands.0 ∙ content_of_same v1.bytes v0.bytes run.bytes) (stands.1 ∙ run.printed))

  pub same_form : IsInForm v1.bytes → IsInForm v0.bytes
  same_form form = subst IsInForm (λ i a. run.bytes a i) form

  -- what is to be redone before the areas are synced is so after
  pub same_slots : (slots : ℕ) → SlotsToRedo v0 slots → SlotsToRedo v1 slots
  same_slots slots redo =
      subst (λ (f : Area → List ℕ). ((is_open (f area.Mark) ≡ false) × (slots ≡ 0)) ⊎ ((is_open (f area.Mark) ≡ true) × (is_log f ≡ true) × (slots ≡ slot_count (f area.Log))))
      (λ i a. sym (run.bytes a) i) redo

  pub same_nothing : NothingToRedo v0.bytes → NothingToRedo v1.bytes
  same_nothing none = subst NothingToRedo (λ i a. sym (run.bytes a) i) none

  -- the areas as they read after a recovery stand for what they stood for
  pub settled_redone : (v2 : StationView) → ((a : Area) → v2.may_leave a (v2.bytes a)) → ((c : Outcome) → Leaves v2 c → v2.left_since v1.moment c) → LeavesOnly v1 v2 (StandsFor v1) → IsRedone v1 v2 → IsSettled v0 v2
  settled_redone v2 stay now recovers redone =
      let o : Outcome = record { areas = v2.bytes; text = v2.printed } in
      let stands = recovers.each o (now o (record { areas = stay; text = refl })) in
      record {
        closed = redone.closed;
        stable = redone.stable;
        content = stands.0 ∙ ap content (λ i a. run.bytes a i);
      }

-- what a read of a page says of Root
pub root_read : (bytes buf : List ℕ) (n : ℕ) → length buf ≡ 4096 → 4096 ≤ length bytes → n ≡ min 4096 (length bytes - 0) → take n buf ≡ take n bytes → tree_root_at bytes ≡ tree_root_in buf
root_read bytes buf n size long count read =
    let whole : n ≡ 4096 = omega (arith, count, long) in
    ap tree_root_in (sym (subst (λ (k : ℕ). take k buf ≡ take k bytes) whole read) ∙ take_all 4096 buf (omega (arith, size)))

no_some : {A : Type 0} (x : A) → None ≡ Some x → ⊥
no_some x is = cc is

-- what isn't named by a root page is no gazetteer
pub gaz_rootless : (f : Area → List ℕ) (gaz : Gazetteer) → 4096 ≤ length (f area.Root) → tree_root_at (f area.Root) ≡ None → HasGaz (three f) gaz → ⊥
gaz_rootless f gaz long none (inl short) = omega (arith, long, short.0)
gaz_rootless f gaz long none (inr named) = no_some named.root (sym none ∙ named.says)

-- no log, no gazetteer
no_content : (b c : Bool) (whole over : Contents) → b ≡ true → (c ≡ true → ⊥) → content_by b c whole over ≡ None
no_content true false whole over opened not = refl
no_content true true whole over opened not = absurd (not refl)
no_content false c whole over opened not = absurd (cc opened)

pub no_log_no_gaz : (areas : Area → List ℕ) (gaz : Gazetteer) → HasNoLog areas → Mirrors areas gaz → ⊥
no_log_no_gaz areas gaz none mirrors =
    no_some mirrors.three
    (sym (no_content (is_open (areas area.Mark)) (is_log areas) (three areas) (laid (slots_of (areas area.Log)) (three areas)) none.0 (λ is. none.1 (form_from areas is))) ∙ mirrors.content)

same_three : (x y : Contents) → Some x ≡ Some y → x ≡ y
same_three x y is = cc is

-- after the areas are settled, they are only read
module _ (v0 v1 v2 : StationView) (settled : IsSettled v0 v1) (run : Confined SameBytes v1 v2) where
  pub while_read : ((a : Area) → v0.may_leave a (v0.bytes a)) → v1.printed ≡ v0.printed → LeavesOnly v0 v1 (IsFound v0) → LeavesOnly v0 v2 (IsFound v0)
  while_read stay printed so_far =
      goes_far v0 v1 v2 _ _ so_far run.moments
      (λ c near. found_as_it_reads v0 c stay (content_of_same c.areas v1.bytes (λ a. (near.areas a).2 ∙ settled.stable a (near.areas a).0 (near.areas a).1) ∙ settled.content) (near.text ∙ printed))

  pub all_stable : AllStable v2
  all_stable a c may = stays_stable v1 v2 a run (settled.stable a) c may

  has_stable : (root : Option Root) → HasStable root v2
  has_stable None = tt
  has_stable (Some root) = all_stable (side_area root.side)

  pub fits_opened : (root : Option Root) → Names root (v1.bytes area.Root) → Fits root v2
  fits_opened root names = record {
    closed = ap is_open (run.bytes area.Mark) ∙ settled.closed;
    mark = all_stable area.Mark;
    on_root = all_stable area.Root;
    pages = has_stable root;
    names = subst (λ (b : List ℕ). Names root b) (sym (run.bytes area.Root)) names;
  }

  -- all outcomes have what the areas mirrored
  pub holds_then : (gaz : Gazetteer) → Mirrors v0.bytes gaz → AllHold v2 gaz
  holds_then gaz is c leaves =
      (same_content c.areas v0.bytes (content_of_same c.areas v1.bytes (λ a. all_stable a (c.areas a) (leaves.areas a) ∙ run.bytes a) ∙ settled.content) gaz).1 is

  -- what the areas mirrored is read of the three as they are
  pub read_settled : (gaz : Gazetteer) → Mirrors v0.bytes gaz → HasGaz (three v1.bytes) gaz
  read_settled gaz mirrors =
      subst (λ (c : Contents). HasGaz c gaz) (same_three mirrors.three (three v1.bytes) (sym mirrors.content ∙ sym settled.content ∙ content_closed v1.bytes settled.closed)) mirrors.gaz_in

pub has_none : (v : StationView) → ((a : Area) → v.may_leave a (v.bytes a)) → ((gaz : Gazetteer) → Mirrors v.bytes gaz → ⊥) → HasNone v
has_none v stay none gaz holds = none gaz (holds_now v gaz stay holds)
