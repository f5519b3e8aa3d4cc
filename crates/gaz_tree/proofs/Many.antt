-- How many pairs a tree has at least, by its levels.
use Rattle.std.proofs.Common.{◌≡◌, ◌≤◌, ◌+◌, ◌-◌, ◌^◌, ℕ, zero, suc, List, [], ◌∷◌, length, ap, arith}
use Rattle.std.proofs.lemmas.List.{length-append}
use Rattle.gaz_page.specs.Pages.{PagesView}
use Rattle.gaz_leaf.specs.declared.kind.Kind.TheVariants.{Leaf, Inner}
use Rattle.gaz_leaf.specs.Node.{Pair, key_of}
use Rattle.gaz_tree.specs.declared.grown.Half.{Half}
use Rattle.gaz_tree.specs.declared.grown.Grown.TheVariants.{Split}
use Rattle.gaz_tree.specs.declared.tree.Tree.{Tree}
use Rattle.gaz_tree.specs.Tree.{children_of, from_low, next_key, IsFan, IsTree, tree_pairs}
use Rattle.gaz_tree.specs.Put.{HasPut}
use Rattle.gaz_tree.specs.Stands.{Stands}
use Rattle.gaz_tree.proofs.Lists.{length-put_most}
use Rattle.gaz_tree.proofs.Fans.{fan_pairs, fan_from_low}
use Rattle.gaz_tree.proofs.Apart.{length_pairs}
use Rattle.gaz_tree.proofs.Ways.{length_from_low}
use Rattle.gaz_tree.proofs.Roots.{at_level}

-- 51 times 56 for each level above the leaves, up to level 5
abbrev pub many : ℕ → ℕ
many zero = 51
many (suc zero) = 2856
many (suc (suc zero)) = 159936
many (suc (suc (suc zero))) = 8956416
many (suc (suc (suc (suc zero)))) = 501559296
many (suc (suc (suc (suc (suc zero))))) = 28087320576
many (suc (suc (suc (suc (suc (suc level)))))) = 0

abbrev times : ℕ → ℕ → ℕ
times zero m = 0
times (suc n) m = m + times n m

times_more : (a b m : ℕ) → a ≤ b → times a m ≤ times b m
times_more zero b m le = omega arith
times_more (suc a) zero m le = absurd (omega arith)
times_more (suc a) (suc b) m le = let r = times_more a b m (omega arith) in omega arith

many_above : (level : ℕ) → many (suc level) ≤ times 56 (many level)
many_above zero = omega arith
many_above (suc zero) = omega arith
many_above (suc (suc zero)) = omega arith
many_above (suc (suc (suc zero))) = omega arith
many_above (suc (suc (suc (suc zero)))) = omega arith
many_above (suc (suc (suc (suc (suc level))))) = omega arith

fan_many : (pages : ℕ → List ℕ) (level high m : ℕ) (es : List Pair) → ((page low high : ℕ) → IsTree pages level page low high → m ≤ length (tree_pairs pages level page))
    → IsFan (IsTree pages level) high es → times (length es) m ≤ length (fan_pairs pages level es)
fan_many pages level high m [] each fan = omega arith
fan_many pages level high m (e ∷ es) each fan =
    let a = length-append (tree_pairs pages level e.value) (fan_pairs pages level es) in
    let b = each e.value e.key (next_key high es) fan.0 in
    let c = fan_many pages level high m es each fan.1 in
    omega arith

pub tree_many : (pages : ℕ → List ℕ) (level page low high : ℕ) → IsTree pages level page low high → many level ≤ length (tree_pairs pages level page)
tree_many pages zero page low high tree = let size = length_pairs Leaf (pages page) in let some = tree.0.filled in omega arith
tree_many pages (suc level) page low high tree =
    let fan = from_low low (children_of pages page) in
    let size = length_pairs Inner (pages page) in
    let long = length_from_low low (children_of pages page) in
    let some = tree.0.filled in
    let each = fan_many pages level high (many level) fan (λ child from to t. tree_many pages level child from to t) tree.1.2 in
    let more = times_more 56 (length fan) (many level) (omega arith) in
    let step = many_above level in
    let same = ap (λ (l : List Pair). length l) (fan_from_low pages level low (children_of pages page)) in
    omega arith

level_five : (old new : PagesView) (level top : ℕ) (p : Pair) (half : Half) → level ≡ 5 → HasPut old new level top 0 (2 ^ 256) p (Split half) → 2 ^ 30 ≤ length (tree_pairs old.page level top)
level_five old new level top p half is h =
    let first = tree_many new.page level top 0 (key_of half.key) h.tree.0 in
    let rest = fan_pairs new.page level (record { key = key_of half.key; value = half.page } ∷ []) in
    let a = length-append (tree_pairs new.page level top) rest in
    let b = ap (λ (l : List Pair). length l) h.shows in
    let c = length-put_most p (tree_pairs old.page level top) in
    let five : many level ≡ 28087320576 = ap many is in
    omega arith

-- A page at the top of a tree of height 6 is full only where there are many pairs.
pub split_many : (old new : PagesView) (tree : Tree) (p : Pair) (pairs : List Pair) (half : Half) → Stands old tree pairs → tree.height ≡ 6
    → HasPut old new (tree.height - 1) tree.top 0 (2 ^ 256) p (Split half) → 2 ^ 30 ≤ length pairs
split_many old new tree p pairs half s tall h =
    let holds = ap (λ (l : List Pair). length l) (at_level old tree pairs s).holds in
    let le = level_five old new (tree.height - 1) tree.top p half (omega arith) h in
    omega arith
