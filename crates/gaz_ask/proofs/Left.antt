-- What calls that only read leave of a device: it fits, it mirrors what it did, and it does so at each moment.
use Rattle.std.proofs.Common.{ℕ, List, IsTrue, Option, sym, ◌∙◌, subst}
use Rattle.gaz_outside.specs.declared.station.Area.{Area}
use Rattle.gaz_outside.specs.Station.{StationView, Outcome, Leaves, LeavesOnly, Confined, Near}
use Rattle.gaz_outside.proofs.Runs.{leaves_weaker}
use Rattle.gaz_page.specs.declared.tree_root.Root.{Root}
use Rattle.gaz_redo.specs.Slots.{SameBytes}
use Rattle.gaz_pages.specs.Fits.{Fits}
use Rattle.gaz_pages.specs.Keeps.{OnlyReads}
use Rattle.gaz_plain.specs.Gazetteer.{Gazetteer}
use Rattle.gaz_rows.specs.Content.{Mirrors}
use Rattle.gaz_rows.specs.Holds.{AllHold, IsStill}
use Rattle.gaz_install.proofs.Idle.{fits_still}
use Rattle.gaz_install.proofs.Named.{reads_idle}

module _ (old new : StationView) (reads : OnlyReads old new) (told : IsTrue old.is_told) where
  run : Confined SameBytes old new
  run = reads.areas told

  pub told_left : IsTrue new.is_told
  told_left = subst IsTrue (sym reads.counts.told) told

  pub fits_left : (root : Option Root) → Fits root old → Fits root new
  fits_left root fits = fits_still root old fits new (reads_idle old new root run)

  pub mirrors_left : (gaz : Gazetteer) → Mirrors old.bytes gaz → Mirrors new.bytes gaz
  mirrors_left gaz mirrors = subst (λ (areas : Area → List ℕ). Mirrors areas gaz) (sym (λ i a. run.bytes a i)) mirrors

  -- an outcome by calls that change no byte is one of before
  as_before : (c : Outcome) → Near SameBytes old c → Leaves old c
  as_before c near = record {
    areas = λ a. let d = near.areas a in subst (old.may_leave a) (sym d.2) d.1;
    text = near.text;
  }

  pub holds_left : (gaz : Gazetteer) → AllHold old gaz → AllHold new gaz
  holds_left gaz holds c leaves = holds c (as_before c (record { areas = λ a. run.outcomes a (c.areas a) (leaves.areas a); text = leaves.text ∙ run.printed }))

  -- at each moment the gazetteer stands
  pub moments_left : (gaz : Gazetteer) → AllHold old gaz → LeavesOnly old new (IsStill gaz old)
  moments_left gaz holds = leaves_weaker old new (Near SameBytes old) (IsStill gaz old) (λ c near. (holds c (as_before c near), near.text)) run.moments
