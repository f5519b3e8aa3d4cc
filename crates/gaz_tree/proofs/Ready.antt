-- Over a tree that stands, mending two children meets no damage.
use Rattle.std.proofs.Common.{◌≡◌, ◌≤◌, ◌<◌, ℕ, zero, suc, List, [], ◌∷◌, sym, arith, subst, inl, inr}
use Rattle.std.specs.Prelude.{Result, Ok, Err, IfErr}
use Rattle.gaz_page.specs.declared.pages.PageFault.{PageFault}
use Rattle.gaz_page.specs.declared.pages.PageFault.TheVariants.{Failed, Damaged, Memory}
use Rattle.gaz_page.specs.Pages.{PagesView, NotDamaged}
use Rattle.gaz_leaf.specs.declared.kind.Kind.{Kind}
use Rattle.gaz_leaf.specs.declared.kind.Kind.TheVariants.{Inner}
use Rattle.gaz_leaf.specs.Node.{Pair, IsForm, pairs_in, count_of}
use Rattle.gaz_tree.specs.Tree.{kind_at, least, children_of, next_key, IsFan, IsTree, SomeEntry}
use Rattle.gaz_tree.specs.Remove.{HasRemoved, NamesPageOrChild}
use Rattle.gaz_tree.proofs.Changed.{head_form, some_parts, low_entries}
use Rattle.gaz_tree.proofs.Puts.{entry, IsOnWay, parts_of}
use Rattle.gaz_tree.proofs.Thinned.{thinned}
use Rattle.gaz_tree.proofs.Named.{least_some}

-- a child in form with an entry
abbrev pub IsReady : (ℕ → List ℕ) → ℕ → ℕ → Type 0
IsReady pages level n = IsForm (kind_at level) n (pages n) × (1 ≤ count_of (pages n))

tree_ready : (pages : ℕ → List ℕ) (level n low high : ℕ) → IsTree pages level n low high → IsReady pages level n
tree_ready pages level n low high tree = (head_form pages level n low high tree.1, (let full = tree.0.filled in let some = least_some level in omega arith))

pub fan_ready : (pages : ℕ → List ℕ) (level high n : ℕ) (es : List Pair) → IsFan (IsTree pages level) high es → SomeEntry (λ e. e.value ≡ n) es → IsReady pages level n
fan_ready pages level high n [] fan some = absurd some
fan_ready pages level high n (e ∷ es) fan (inl is) = subst (IsReady pages level) is (tree_ready pages level e.value e.key (next_key high es) fan.0)
fan_ready pages level high n (e ∷ es) fan (inr some) = fan_ready pages level high n es fan.1 some

least_two : (level : ℕ) → 2 ≤ least (kind_at level)
least_two zero = omega arith
least_two (suc level) = omega arith

child_ready : (u v : PagesView) (level page low high key place child n : ℕ) (w : IsOnWay u level page low high key place child) → HasRemoved u v level child w.way.at (next_key high w.way.ys) key
    → SomeEntry (λ e. e.value ≡ n) (children_of v.page page) → IsReady v.page level n
child_ready u v level page low high key place child n w h some =
    let t = thinned u v level page low high key place child w h in
    let parts = parts_of u level page low high key place child w in
    let was = subst (λ (l : List ℕ). SomeEntry (λ e. e.value ≡ n) (pairs_in Inner l)) t.stays some in
    let fan = subst (λ (l : List Pair). SomeEntry (λ e. e.value ≡ n) l) w.way.is (low_entries (λ (m : ℕ). m ≡ n) low (children_of u.page page) was) in
    elim (some_parts (λ (e : Pair). e.value ≡ n) w.way.xs (entry w.way.at child ∷ w.way.ys) fan) [
      | inl left ↦ fan_ready v.page level w.way.at n w.way.xs t.left left
      | inr rest ↦ elim rest [
        | inl here ↦ subst (IsReady v.page level) here
            (head_form v.page level child w.way.at (next_key high w.way.ys) t.here, (let a = parts.here.0.filled in let b = t.count in let some_ = least_two level in omega arith))
        | inr right ↦ fan_ready v.page level high n w.way.ys t.right right
      ]
    ]

mend_fine : (T : Type 0) (u v new : PagesView) (level page low high key place child : ℕ) (kind : Kind) (fault : PageFault) (w : IsOnWay u level page low high key place child)
    → kind ≡ kind_at level → HasRemoved u v level child w.way.at (next_key high w.way.ys) key → 2 ≤ count_of (u.page page) → place < count_of (u.page page)
    → NamesPageOrChild {T = T} kind page place v.page new.page (Err fault) → NotDamaged fault
mend_fine T u v new level page low high key place child kind Failed w is h two lt names = tt
mend_fine T u v new level page low high key place child kind Memory w is h two lt names = tt
mend_fine T u v new level page low high key place child kind (Damaged n) w is h two lt (inl names) =
    let t = thinned u v level page low high key place child w h in
    absurd (names.2 (subst (IsForm Inner page) (sym t.stays) w.head.0) (subst (λ (l : List ℕ). 2 ≤ count_of l) (sym t.stays) two) (subst (λ (l : List ℕ). place < count_of l) (sym t.stays) lt))
mend_fine T u v new level page low high key place child kind (Damaged n) w is h two lt (inr names) =
    let ready = child_ready u v level page low high key place child n w h names.1 in
    absurd (names.2 (subst (λ (k : Kind). IsForm k n (v.page n)) (sym is) ready.0) ready.1)

pub mended_fine : {T : Type 0} (u v new : PagesView) (level page low high key place child : ℕ) (kind : Kind) (result : Result T PageFault) (w : IsOnWay u level page low high key place child)
    → kind ≡ kind_at level → HasRemoved u v level child w.way.at (next_key high w.way.ys) key → 2 ≤ count_of (u.page page) → place < count_of (u.page page)
    → NamesPageOrChild kind page place v.page new.page result → IfErr result NotDamaged
mended_fine u v new level page low high key place child kind (Ok x) w is h two lt names = tt
mended_fine {T} u v new level page low high key place child kind (Err fault) w is h two lt names = mend_fine T u v new level page low high key place child kind fault w is h two lt names
