-- Pages of each use have a form of their own, and the free ones are one chain.
use Rattle.std.proofs.Common.{◌≡◌, ◌≢◌, ◌≤◌, ◌-◌, ◌^◌, ℕ, true, false, List, length, [], ◌∷◌, Option, Some, None, refl, sym, ap, ◌∙◌, subst, arith, inl, inr}
use Rattle.std.specs.Prelude.{IsSome, Bool, slice_index, ◌==◌, ◌&&◌, Contains}
use Rattle.std.proofs.lemmas.Bool.{cases_Bool, cases_lt, ne_eqb}
use Rattle.gaz_page.specs.Free.{free_link}
use Rattle.gaz_page.specs.declared.tree_root.Root.{Root}
use Rattle.gaz_page.specs.Pages.{PagesView}
use Rattle.gaz_page.specs.Chains.{Among, InUse, IsFreeChain}
use Rattle.gaz_leaf.specs.declared.kind.Kind.{Kind}
use Rattle.gaz_leaf.specs.declared.kind.Kind.TheVariants.{Leaf, Inner}
use Rattle.gaz_leaf.specs.Node.{Pair, IsForm}
use Rattle.gaz_leaf.proofs.Edits.{first_byte}
use Rattle.gaz_slots.specs.RecordPage.{is_record_page}
use Rattle.gaz_slots.specs.Overflow.{is_overflow_page}
use Rattle.gaz_slots.proofs.Form.{form_says}
use Rattle.gaz_slots.proofs.PageKinds.{free_not_record, free_not_overflow, overflow_not_record}
use Rattle.gaz_slots.proofs.Recorded.{unformed}
use Rattle.gaz_tree.specs.declared.tree.Tree.{Tree}
use Rattle.gaz_tree.specs.Tree.{kind_at, Reaches}
use Rattle.gaz_tree.specs.Stands.{Stands as IsTreeOf, OfTree}
use Rattle.gaz_tree.proofs.Changed.{form_not_free, head_form, lower}
use Rattle.gaz_heap.specs.Place.{page_of, slot_of, is_chain, record_at}
use Rattle.gaz_heap.proofs.Holds.{record_slot, far, nothing}
use Rattle.gaz_keys.proofs.Tags.{contained, contained_none}
use Rattle.gaz_rows.specs.Stands.{Use, tree, slots, chain, free, AreUsedOnce, IsFreeChain as IsLinked}
use Rattle.gaz_rows.specs.Laid.{ends_of}
use Rattle.gaz_rows.proofs.Members.{head_is_in, tail_is_in}

-- ---- two words for what is in a list

pub among_of : (xs : List ℕ) (n : ℕ) → Contains xs n → Among xs n
among_of [] n has = absurd (contained_none n has)
among_of (x ∷ xs) n has = elim (contained x xs n has) [ inl is ↦ inl (sym is) | inr more ↦ inr (among_of xs n more) ]

pub contains_of : (xs : List ℕ) (n : ℕ) → Among xs n → Contains xs n
contains_of [] n among = absurd among
contains_of (x ∷ xs) n (inl is) = subst (Contains (x ∷ xs)) (sym is) (head_is_in x xs)
contains_of (x ∷ xs) n (inr more) = tail_is_in x xs n (contains_of xs n more)

-- ---- the chain of free pages

-- linked pages that were taken once are such a chain
chain_linked : (v : PagesView) (first : ℕ) (ns : List ℕ) → IsLinked v.page first ns → ((n : ℕ) → Among ns n → InUse v n) → IsFreeChain v first ns
chain_linked v first [] is low = is
chain_linked v first (n ∷ ns) is low = (is.0, low n (inl refl), (is.1.0, is.1.1, chain_linked v is.1.0 ns is.1.2 (λ m i. low m (inr i))))

pub linked_of : (v : PagesView) (first : ℕ) (ns : List ℕ) → IsFreeChain v first ns → IsLinked v.page first ns
linked_of v first [] c = c
linked_of v first (n ∷ ns) c = (c.0, (c.2.0, c.2.1, linked_of v c.2.0 ns c.2.2))

-- the free pages of laid pages
pub free_chain_of : (v : PagesView) (root : Root) (kept places : List ℕ) (once : AreUsedOnce v.page (ends_of v root) kept places) → IsFreeChain v v.free once.frees
free_chain_of v root kept places once = chain_linked v v.free once.frees once.free_chain (λ n among. once.in_range n free (contains_of once.frees n among))

-- ---- forms

-- the form of pages of a use
abbrev pub HasForm : Use → ℕ → List ℕ → Type 0
HasForm tree n page = (kind : Kind) × IsForm kind n page
HasForm slots n page = is_record_page n page ≡ true
HasForm (chain place) n page = is_overflow_page n page ≡ true
HasForm free n page = IsSome (free_link n page)

some_of : (o : Option ℕ) → IsSome o → (x : ℕ) × (o ≡ Some x)
some_of None s = absurd cc
some_of (Some x) s = (x, refl)

tree_byte : (n : ℕ) (page : List ℕ) → HasForm tree n page → slice_index page 0 ≤ 2
tree_byte n page (Leaf, form) = let is = first_byte Leaf n page form in omega (arith, is)
tree_byte n page (Inner, form) = let is = first_byte Inner n page form in omega (arith, is)

not_overflow : (n : ℕ) (page : List ℕ) → slice_index page 0 ≢ 4 → is_overflow_page n page ≡ true → ⊥
unfolding is_overflow_page
not_overflow n page differs form = by (length page == 4096) _ _ _ _ _ (rw (ne_eqb (slice_index page 0) 4 differs) at form)
  where
    by : (size zero_ own ends some few : Bool) → (size && false && zero_ && own && ends && some && few) ≡ true → ⊥
    by true zero_ own ends some few is = cc
    by false zero_ own ends some few is = cc

pub tree_not_slots : (n : ℕ) (page : List ℕ) → HasForm tree n page → HasForm slots n page → ⊥
tree_not_slots n page a b = omega (arith, tree_byte n page a, (form_says n page b).kind)

pub tree_not_chain : (n place : ℕ) (page : List ℕ) → HasForm tree n page → HasForm (chain place) n page → ⊥
tree_not_chain n place page a b = not_overflow n page (λ is. omega (arith, is, tree_byte n page a)) b

pub tree_not_free : (n : ℕ) (page : List ℕ) → HasForm tree n page → HasForm free n page → ⊥
tree_not_free n page a b = form_not_free a.0 n page a.1 b

pub free_not_slots : (n : ℕ) (page : List ℕ) → HasForm free n page → HasForm slots n page → ⊥
free_not_slots n page a b = let link = some_of (free_link n page) a in free_not_record n n link.0 page link.1 b

pub free_not_chain : (n place : ℕ) (page : List ℕ) → HasForm free n page → HasForm (chain place) n page → ⊥
free_not_chain n place page a b = let link = some_of (free_link n page) a in free_not_overflow n n link.0 page link.1 b

-- both are chains of one place, or not both are chains
abbrev pub OnePlace : Use → Use → Type 0
OnePlace (chain one) (chain other) = one ≡ other
OnePlace one other = Unit {0}

-- A page has the form of one use.
pub same_use : (n : ℕ) (page : List ℕ) (one other : Use) → HasForm one n page → HasForm other n page → OnePlace one other → one ≡ other
same_use n page tree tree a b place = refl
same_use n page tree slots a b place = absurd (tree_not_slots n page a b)
same_use n page tree (chain q) a b place = absurd (tree_not_chain n q page a b)
same_use n page tree free a b place = absurd (tree_not_free n page a b)
same_use n page slots tree a b place = absurd (tree_not_slots n page b a)
same_use n page slots slots a b place = refl
same_use n page slots (chain q) a b place = absurd (overflow_not_record n n page b a)
same_use n page slots free a b place = absurd (free_not_slots n page b a)
same_use n page (chain p) tree a b place = absurd (tree_not_chain n p page b a)
same_use n page (chain p) slots a b place = absurd (overflow_not_record n n page a b)
same_use n page (chain p) (chain q) a b place = ap chain place
same_use n page (chain p) free a b place = absurd (free_not_chain n p page b a)
same_use n page free tree a b place = absurd (tree_not_free n page b a)
same_use n page free slots a b place = absurd (free_not_slots n page a b)
same_use n page free (chain q) a b place = absurd (free_not_chain n q page a b)
same_use n page free free a b place = refl

-- a page of the tree has the form of its level
pub tree_form : (v : PagesView) (t : Tree) (pairs : List Pair) (n : ℕ) → IsTreeOf v t pairs → OfTree v.page t n → HasForm tree n (v.page n)
tree_form v t pairs n s reach =
    let tall = s.top.tall in
    let is : s.top.level ≡ t.height - 1 = omega (arith, tall) in
    let low = lower v.page s.top.level t.top 0 (2 ^ 256) n s.top.head (subst (λ (l : ℕ). Reaches v.page l t.top n) (sym is) reach) in
    (kind_at low.at, head_form v.page low.at n low.low low.high low.head)

-- a record of a slot stands on a record page in form
pub slot_form : (v : PagesView) (place : ℕ) (bytes : List ℕ) → is_chain place ≡ false → record_at v.page place ≡ Some bytes → HasForm slots (page_of place) (v.page (page_of place))
slot_form v place bytes slotted at =
    elim (cases_lt (page_of place) 4294967296) [
      | inr past ↦ absurd (nothing bytes (record_at v.page place) (far v.page place past) at)
      | inl low ↦ elim (cases_Bool (is_record_page (page_of place) (v.page (page_of place)))) [
        | inl form ↦ form
        | inr bad ↦ absurd (nothing bytes (record_at v.page place) (record_slot v.page place low slotted ∙ unformed (page_of place) (v.page (page_of place)) (slot_of place) bad) at)
      ]
    ]
