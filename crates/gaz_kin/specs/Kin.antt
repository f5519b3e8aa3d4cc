-- What a store stands for, as the parent rule asks it.
use Rattle.std.specs.Prelude.{◌≡◌, ◌≤◌, ℕ, IsTrue, Ok, Err}
use Rattle.gaz_parent.specs.Parent.{Lists}
use Rattle.gaz_parent.specs.Questions.{Question}
use Rattle.gaz_plain.specs.Gazetteer.{Gazetteer}
use Rattle.gaz_plain.specs.Kin.{lists_of}
use Rattle.gaz_page.specs.declared.tree_root.Root.{Root}
use Rattle.gaz_page.specs.Pages.{PagesView}
use Rattle.gaz_rows.specs.declared.fault.AskFault.{AskFault}
use Rattle.gaz_rows.specs.Store.{IsStore, IsSound}
use Rattle.gaz_kin.specs.declared.kept.Kept.{Kept}
use Rattle.gaz_kin.specs.Kept.{IsKept}
use Rattle.gaz_kin.specs.Over.{OverStore, HasOnlyAsked}
use Rattle.gaz_kin.specs.Reads.{most_for}

-- The pages stand for a gazetteer with these lists.
pub record HasLists (v : PagesView) (root : Root) (lists : Lists) : Type 0 where
  pub told : IsTrue v.is_told
  pub gaz : Gazetteer
  pub stands : IsStore gaz v root
  pub are : lists ≡ lists_of gaz

-- Questions that answered leave the same pages and the same root.
pub record Led (old new : PagesView) (root root_now : Root) : Type 0 where
  pub root_stays : root_now ≡ root
  pub asked : HasOnlyAsked {T = Unit} old new (Ok tt)

-- Over pages that stand for a gazetteer, what is remembered is right if it was before.
abbrev pub Noted : PagesView → Root → Kept → Kept → Type 0
Noted v root before now = OverStore v root (λ gaz. IsKept (lists_of gaz) before → IsKept (lists_of gaz) now)

-- A question failed, which over pages that stand for a gazetteer is no damage.
pub record Fails (old new : PagesView) (root root_now : Root) (fault : AskFault) : Type 0 where
  pub root_stays : root_now ≡ root
  pub asked : HasOnlyAsked {T = Unit} old new (Err fault)
  pub sound : OverStore old root (λ gaz. IsSound fault)

-- The pages stand for a gazetteer over which the question reads no more.
pub record HasMost (v : PagesView) (root : Root) (question : Question) (most : ℕ) : Type 0 where
  pub told : IsTrue v.is_told
  pub gaz : Gazetteer
  pub stands : IsStore gaz v root
  pub reads : most_for gaz question ≤ most
