-- The pages that are gone through, whatever they are.
use Rattle.std.proofs.Common.{◌≡◌, ◌<◌, ◌≤◌, ◌-◌, ◌⊎◌, ◌∙◌, ℕ, true, false, List, Some, None, Ok, Err, refl, sym, subst, arith, inl, inr}
use Rattle.std.specs.Prelude.{Bool, Option, Result, IfOk, OnOk, IsTrue}
use Rattle.gaz_page.specs.declared.pages.PageFault.{PageFault}
use Rattle.gaz_leaf.specs.declared.key.Key.{Key}
use Rattle.gaz_leaf.specs.declared.kind.Kind.TheVariants.{Leaf}
use Rattle.gaz_leaf.specs.Node.{IsPage, key_in}
use Rattle.gaz_tree.specs.Calls.{LeadsDown}
use Rattle.gaz_tree.proofs.Down.{down_map}
use Rattle.gaz_scan.specs.declared.scan.Scan.{Scan}
use Rattle.gaz_scan.specs.Scan.{Seeks, WentDown}

pub if_map : {T : Type 0} (P Q : T → Type 0) (result : Result T PageFault) → ((x : T) → P x → Q x) → IfOk result P → IfOk result Q
if_map P Q (Ok x) f p = f x p
if_map P Q (Err fault) f p = tt

-- a leaf that was copied
pub leaf_all : {T : Type 0} (told : Type 0) (pages : ℕ → List ℕ) (level page : ℕ) (bytes : List ℕ) (result : Result T PageFault) → level ≡ 0 → OnOk result (told → IsPage Leaf page (pages page))
    → OnOk result (told → bytes ≡ pages page) → OnOk result (told → LeadsDown pages (λ leaf. bytes ≡ pages leaf) level page)
leaf_all told pages level page bytes (Err fault) is own shows = tt
leaf_all told pages level page bytes (Ok x) is own shows = λ t. subst (λ (l : ℕ). LeadsDown pages (λ leaf. bytes ≡ pages leaf) l page) (sym is) (own t, shows t)

pub leaf_found : (told : Type 0) (pages : ℕ → List ℕ) (level page : ℕ) (bytes : List ℕ) (result : Result Bool PageFault) → level ≡ 0 → IfOk result (λ found. told → IsPage Leaf page (pages page))
    → IfOk result (λ found. IsTrue found → told → bytes ≡ pages page) → IfOk result (λ found. told → LeadsDown pages (λ leaf. IsTrue found → bytes ≡ pages leaf) level page)
leaf_found told pages level page bytes (Err fault) is own shows = tt
leaf_found told pages level page bytes (Ok found) is own shows = λ t. subst (λ (l : ℕ). LeadsDown pages (λ leaf. IsTrue found → bytes ≡ pages leaf) l page) (sym is) (own t, λ true_. shows true_ t)

-- none was found below a child, and perhaps one below the next
pub found_after : (told : Type 0) (pages : ℕ → List ℕ) (level page : ℕ) (bytes : List ℕ) (result : Result Bool PageFault) → (told → LeadsDown pages (λ leaf. Unit {0}) level page)
    → IfOk result (λ found. IsTrue found → told → LeadsDown pages (λ leaf. bytes ≡ pages leaf) level page) → IfOk result (λ found. told → LeadsDown pages (λ leaf. IsTrue found → bytes ≡ pages leaf) level page)
found_after told pages level page bytes (Err fault) down more = tt
found_after told pages level page bytes (Ok true) down more = λ t. down_map pages (λ leaf. bytes ≡ pages leaf) (λ leaf. IsTrue true → bytes ≡ pages leaf) level page (λ n is true_. is) (more refl t)
found_after told pages level page bytes (Ok false) down more = λ t. down_map pages (λ leaf. Unit {0}) (λ leaf. IsTrue false → bytes ≡ pages leaf) level page (λ n _ no_. absurd cc) (down t)

-- the scan looked for no leaf
pub stayed : (pages : ℕ → List ℕ) (old new : Scan) → new.copied.bytes ≡ old.copied.bytes → (Seeks old → ⊥) → WentDown pages old new
stayed pages old new same no_ = record { sought = λ s. absurd (no_ s); copied = inl same }

some_key : (a b : Key) → Some a ≡ Some b → a ≡ b
some_key a b same = cc

none_key : (a : Key) (o : Option Key) → o ≡ None → o ≡ Some a → ⊥
none_key a o none_ some = cc

pub past_none : (scan : Scan) (key : Key) → scan.next ≡ Some key → key_in scan.high < key_in key → Seeks scan → ⊥
past_none scan key next past s =
    let is : s.key ≡ key = some_key s.key key (sym s.next ∙ next) in
    let within = subst (λ (k : Key). key_in k ≤ key_in scan.high) is s.within in
    omega (arith, within, past)

pub end_none : (scan : Scan) → scan.next ≡ None → Seeks scan → ⊥
end_none scan next s = none_key s.key scan.next next s.next

pub went_found : (pages : ℕ → List ℕ) (old new : Scan) → LeadsDown pages (λ leaf. new.copied.bytes ≡ pages leaf) (old.tree.height - 1) old.tree.top → WentDown pages old new
went_found pages old new down = record {
  sought = λ s. down_map pages (λ leaf. new.copied.bytes ≡ pages leaf) (λ leaf. Unit {0}) (old.tree.height - 1) old.tree.top (λ n is. tt) down;
  copied = inr down;
}

-- the same once a pair of the leaf was given
pub went_on : (pages : ℕ → List ℕ) (old mid new : Scan) → new.copied.bytes ≡ mid.copied.bytes → WentDown pages old mid → WentDown pages old new
went_on pages old mid new same w = record {
  sought = w.sought;
  copied = subst (λ (b : List ℕ). (b ≡ old.copied.bytes) ⊎ LeadsDown pages (λ leaf. b ≡ pages leaf) (old.tree.height - 1) old.tree.top) (sym same) w.copied;
}
