-- The pages that are taken and written, whatever the pages are.
use Rattle.std.proofs.Common.{◌≡◌, ◌≤◌, ◌+◌, ℕ, suc, List, Some, sym, ◌∙◌, ap, arith, subst, inl, inr}
use Rattle.std.proofs.lemmas.Bool.{cases_eq}
use Rattle.gaz_page.specs.Free.{free_link}
use Rattle.gaz_page.specs.Pages.{PagesView, SamePages, Writes, Takes, with_page}
use Rattle.gaz_page.specs.Chains.{IsNoFree, TakesAlong}
use Rattle.gaz_page.proofs.PageMaps.{with_same, with_other}
use Rattle.gaz_page.proofs.Takes.{along_same, along_more, along_on, along_written, along_taken, none_still}
use Rattle.gaz_leaf.specs.declared.kind.Kind.{Kind}
use Rattle.gaz_leaf.specs.Node.{IsOfKind}
use Rattle.gaz_tree.proofs.Changed.{kind_not_free}

-- a page with these bytes is none that is free
pub none_free : (kind : Kind) (v : PagesView) (page : ℕ) (bytes : List ℕ) → bytes ≡ v.page page → IsOfKind kind bytes → IsNoFree v page
none_free kind v page bytes is kind_ = ap (λ (l : List ℕ). free_link page l) (sym is) ∙ kind_not_free kind page bytes kind_

-- calls that only read come before
pub along_over : (most : ℕ) (old mid new : PagesView) → SamePages old mid → TakesAlong most mid new → TakesAlong most old new
along_over most old mid new same a = along_more (0 + most) most old new (omega arith) (along_on 0 most old mid new (along_same old mid same) a)

-- a page of a kind was written over one
pub along_page : (kind now : Kind) (old new : PagesView) (page : ℕ) (bytes before : List ℕ) → Writes page bytes old new → before ≡ old.page page → IsOfKind kind before → IsOfKind now bytes → TakesAlong 0 old new
along_page kind now old new page bytes before w is was now_ = along_written old new page bytes w (none_free kind old page before is was) (kind_not_free now page bytes now_)

-- three pages of kinds were written over such
pub along_three : (kind : Kind) (old one two new : PagesView) (i j page : ℕ) (left right parent : List ℕ) (top : Kind) → Writes i left old one → Writes j right one two → Writes page parent two new
    → IsNoFree old i → IsNoFree old j → IsNoFree old page → IsOfKind kind left → IsOfKind kind right → IsOfKind top parent → TakesAlong 0 old new
along_three kind old one two new i j page left right parent top first second last none_i none_j none_page is_left is_right is_parent =
    let a = along_written old one i left first none_i (kind_not_free kind i left is_left) in
    let b = along_written one two j right second (none_still 0 old one j a none_j) (kind_not_free kind j right is_right) in
    let ab : TakesAlong 0 old two = along_on 0 0 old one two a b in
    let c = along_written two new page parent last (none_still 0 old two page ab none_page) (kind_not_free top page parent is_parent) in
    along_on 0 0 old two new ab c

-- one page was taken and written, with one that is no free one
pub along_spread : (kind : Kind) (old mid new : PagesView) (number page : ℕ) (left right : List ℕ) → Takes old mid number → new.page ≡ with_page number right (with_page page left mid.page)
    → new.free ≡ mid.free → new.fresh ≡ mid.fresh → IsNoFree old page → IsOfKind kind left → IsOfKind kind right → TakesAlong 1 old new
along_spread kind old mid new number page left right t pages free fresh none_ is_left is_right =
    along_taken old new number (record {
      first = t.first;
      free = ap (λ (k : ℕ). Some k) free ∙ t.free;
      fresh = fresh ∙ t.fresh;
      now = ap (λ (l : List ℕ). free_link number l) ((λ j. pages j number) ∙ with_same number right (with_page page left mid.page)) ∙ kind_not_free kind number right is_right;
      others = λ n differs.
          let past : new.page n ≡ with_page page left mid.page n = (λ j. pages j n) ∙ with_other number n right (with_page page left mid.page) differs in
          elim (cases_eq n page) [
            | inl is ↦ inr (
              ap (λ (l : List ℕ). free_link n l) (past ∙ subst (λ (k : ℕ). with_page page left mid.page k ≡ left) (sym is) (with_same page left mid.page)) ∙ kind_not_free kind n left is_left,
              subst (λ (k : ℕ). IsNoFree old k) (sym is) none_,
            )
            | inr apart ↦ inl (past ∙ with_other page n left mid.page apart ∙ t.others n differs)
          ];
    })

-- one page was taken and written
pub along_new : (kind : Kind) (old mid new : PagesView) (number : ℕ) (bytes : List ℕ) → Takes old mid number → Writes number bytes mid new → IsOfKind kind bytes → TakesAlong 1 old new
along_new kind old mid new number bytes t w is =
    along_taken old new number (record {
      first = t.first;
      free = ap (λ (k : ℕ). Some k) w.free ∙ t.free;
      fresh = w.fresh ∙ t.fresh;
      now = ap (λ (l : List ℕ). free_link number l) ((λ j. w.pages j number) ∙ with_same number bytes mid.page) ∙ kind_not_free kind number bytes is;
      others = λ n differs. inl ((λ j. w.pages j n) ∙ with_other number n bytes mid.page differs ∙ t.others n differs);
    })

-- below a page: what was taken at its child's, and one more at it
pub along_step : (level below more : ℕ) (old mid less new : PagesView) → level ≡ suc below → more ≤ 1 → SamePages old mid → TakesAlong (below + 1) mid less → TakesAlong more less new → TakesAlong (level + 1) old new
along_step level below more old mid less new next few same first then_ =
    along_over (level + 1) old mid new same (along_more (below + 1 + more) (level + 1) mid new (omega (arith, next, few)) (along_on (below + 1) more mid less new first then_))
