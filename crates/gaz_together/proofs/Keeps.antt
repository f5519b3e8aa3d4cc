-- What is left of a tree after a call on records, and of records after a call on the tree.
use Rattle.std.proofs.Common.{◌≡◌, ◌≢◌, ◌≤◌, ◌<◌, ◌-◌, ◌^◌, ◌⊎◌, ℕ, zero, suc, true, false, List, length, [], ◌∷◌, Some, None, refl, sym, ap, ◌∙◌, subst, arith, inl, inr}
use Rattle.std.specs.Prelude.{IsSome, slice_index, Option, ◌==◌, ◌&&◌, nat_le}
use Rattle.std.proofs.lemmas.Bool.{cases_Bool, cases_lt, and_parts, eqb-true, false_from_ne_true}
use Rattle.gaz_page.specs.Root.{number_at}
use Rattle.gaz_page.specs.Free.{free_link, short_at}
use Rattle.gaz_heap.proofs.LongPuts.{each_at}
use Rattle.gaz_page.specs.Pages.{PagesView}
use Rattle.gaz_leaf.specs.declared.kind.Kind.{Kind}
use Rattle.gaz_leaf.specs.declared.kind.Kind.TheVariants.{Leaf, Inner}
use Rattle.gaz_leaf.specs.Node.{Pair, IsForm, kind_byte, count_of}
use Rattle.gaz_leaf.proofs.Edits.{first_byte}
use Rattle.gaz_tree.specs.declared.tree.Tree.{Tree}
use Rattle.gaz_tree.specs.Tree.{kind_at, Reaches, HasTwo}
use Rattle.gaz_tree.specs.Put.{Changes, IsSpare}
use Rattle.gaz_tree.proofs.Chains.{on_chain}
use Rattle.gaz_tree.specs.Stands.{Stands, OfTree}
use Rattle.gaz_tree.proofs.Fans.{Stays, head_stays, pairs_stay}
use Rattle.gaz_tree.proofs.Changed.{form_not_free, head_form, lower, reach_back}
use Rattle.gaz_slots.specs.RecordPage.{is_record_page}
use Rattle.gaz_heap.specs.Place.{pages_of, page_of, slot_of, is_chain, record_at}
use Rattle.gaz_slots.specs.Overflow.{has_overflow_head, is_overflow_page}
use Rattle.gaz_heap.specs.Chain.{chain_pages}
use Rattle.gaz_slots.proofs.PageKinds.{free_not_record, free_not_overflow}
use Rattle.gaz_slots.proofs.Recorded.{unformed}
use Rattle.gaz_heap.proofs.Holds.{each_formed, each_more, chain_of, record_slot, far, pages_chain, pages_slot, holds_still, nothing}
use Rattle.gaz_heap.proofs.StoredPuts.{free_differ}
use Rattle.gaz_page.specs.Chains.{Each, InUse, IsFreeChain}
use Rattle.gaz_page.proofs.FreeChains.{free_still}
use Rattle.gaz_heap.specs.Facts.{Holds, StillHolds, IsHeap, IsForRecords, MayHold, Puts, Drops, Replaces}
use Rattle.gaz_slots.proofs.Form.{form_says}

no_three : (kind : Kind) → kind_byte kind ≢ 3
no_three Leaf e = omega arith
no_three Inner e = omega arith

form_not_record : (kind : Kind) (n m : ℕ) (page : List ℕ) → IsForm kind n page → is_record_page m page ≡ true → ⊥
form_not_record kind n m page form record_ = no_three kind (sym (first_byte kind n page form) ∙ (form_says m page record_).kind)

two_stays : (old new : ℕ → List ℕ) (level top : ℕ) → Stays old new level top → HasTwo old level top → HasTwo new level top
two_stays old new zero top same two = tt
two_stays old new (suc level) top same two = subst (λ (p : List ℕ). 2 ≤ count_of p) (sym (same top (inl refl))) two

-- a page of the tree has the form of its level
tree_form : (v : PagesView) (tree : Tree) (pairs : List Pair) (n : ℕ) → Stands v tree pairs → OfTree v.page tree n → (kind : Kind) × IsForm kind n (v.page n)
tree_form v tree pairs n s reach =
    let tall = s.top.tall in
    let is : s.top.level ≡ tree.height - 1 = omega arith in
    let low = lower v.page s.top.level tree.top 0 (2 ^ 256) n s.top.head (subst (λ (l : ℕ). Reaches v.page l tree.top n) (sym is) reach) in
    (kind_at low.at, head_form v.page low.at n low.low low.high low.head)

-- the tree stands where each of its pages stays
stands_still : (old new : PagesView) (tree : Tree) (pairs : List Pair) (free : List ℕ) → Stands old tree pairs → Stays old.page new.page (tree.height - 1) tree.top → old.fresh ≤ new.fresh → IsFreeChain new new.free free → Stands new tree pairs
stands_still old new tree pairs free s same grows free_chain =
    let tall = s.top.tall in
    let is : s.top.level ≡ tree.height - 1 = omega arith in
    let same_ : Stays old.page new.page s.top.level tree.top = λ n r. same n (subst (λ (l : ℕ). Reaches old.page l tree.top n) is r) in
    record {
      top = record {
        level = s.top.level;
        tall = s.top.tall;
        shallow = s.top.shallow;
        head = head_stays old.page new.page s.top.level tree.top 0 (2 ^ 256) same_ s.top.head;
        two = two_stays old.page new.page s.top.level tree.top same_ s.top.two;
        holds = pairs_stay old.page new.page s.top.level tree.top same_ ∙ s.top.holds;
      };
      lies = λ n r. let was = s.lies n (reach_back old.page new.page (tree.height - 1) tree.top n same r) in record { start = was.start; end = omega (arith, was.end, grows) };
      chain = record { frees = free; chain = free_chain };
    }

-- no page that a record may be put into is the tree's
not_held : (v : PagesView) (tree : Tree) (pairs : List Pair) (current n : ℕ) (free : List ℕ) → Stands v tree pairs → IsHeap v current free → OfTree v.page tree n → MayHold v current free n → ⊥
not_held v tree pairs current n free s heap reach may =
    let form = tree_form v tree pairs n s reach in
    elim may [
      | inl here ↦ form_not_record form.0 n n (v.page n) form.1 here.1
      | inr more ↦ elim more [
        | inl free_ ↦ form_not_free form.0 n (v.page n) form.1 (on_chain v v.free n free heap.chain free_)
        | inr past ↦ (let lies = s.lies n reach in omega (arith, past, lies.end))
      ]
    ]

pub tree_after_put : (old new : PagesView) (tree : Tree) (pairs : List Pair) (current now : ℕ) (free bytes : List ℕ) (place : ℕ) → Stands old tree pairs → IsHeap old current free
    → Puts old new current now free bytes place → Stands new tree pairs
tree_after_put old new tree pairs current now free bytes place s heap puts =
    stands_still old new tree pairs puts.left s (λ n reach. puts.stays n (λ among. not_held old tree pairs current n free s heap reach (puts.owns n among))) puts.grows puts.heap.chain

-- ---- a key that is put leaves the records

-- a page of records
abbrev pub HasRecords : (ℕ → List ℕ) → ℕ → Type 0
HasRecords pages n = (is_record_page n (pages n) ≡ true) ⊎ (is_overflow_page n (pages n) ≡ true)

each_both : (P Q : ℕ → Type 0) (l : List ℕ) → Each P l → Each Q l → Each (λ n. P n × Q n) l
each_both P Q [] a b = tt
each_both P Q (n ∷ rest) a b = ((a.0, b.0), each_both P Q rest a.1 b.1)

slot_formed : (v : PagesView) (place : ℕ) (bytes : List ℕ) → is_chain place ≡ false → record_at v.page place ≡ Some bytes → is_record_page (page_of place) (v.page (page_of place)) ≡ true
slot_formed v place bytes no_ at =
    elim (cases_lt (page_of place) 4294967296) [
      | inr past ↦ absurd (nothing bytes (record_at v.page place) (far v.page place past) at)
      | inl low ↦ elim (cases_Bool (is_record_page (page_of place) (v.page (page_of place)))) [
        | inl form ↦ form
        | inr bad ↦ absurd (nothing bytes (record_at v.page place) (record_slot v.page place low no_ ∙ unformed (page_of place) (v.page (page_of place)) (slot_of place) bad) at)
      ]
    ]

each_kind : (v : PagesView) (place : ℕ) (bytes : List ℕ) → Holds v place bytes → Each (HasRecords v.page) (pages_of v.page place)
each_kind v place bytes holds =
    elim (cases_Bool (is_chain place)) [
      | inl chain ↦
          subst (λ (l : List ℕ). Each (HasRecords v.page) l) (sym (pages_chain v.page place chain))
          (each_more (λ n. is_overflow_page n (v.page n) ≡ true) (HasRecords v.page) (chain_pages 17 v.page (page_of place)) (λ n over. inr over)
          (each_formed 17 v.page (page_of place) bytes (chain_of v.page place bytes chain holds.at)))
      | inr no_ ↦ subst (λ (l : List ℕ). Each (HasRecords v.page) l) (sym (pages_slot v.page place no_)) (inl (slot_formed v place bytes no_ holds.at), tt)
    ]

overflow_byte : (number : ℕ) (page : List ℕ) → is_overflow_page number page ≡ true → slice_index page 0 ≡ 4
unfolding is_overflow_page
overflow_byte number page form =
    let head = has_overflow_head number page in
    let parts = and_parts (head && nat_le 1 (short_at 2 page)) (nat_le (short_at 2 page) 4080) form in
    let low = and_parts head (nat_le 1 (short_at 2 page)) parts.0 in
    let size = length page == 4096 in
    let kind = slice_index page 0 == 4 in
    let zero_ = slice_index page 1 == 0 in
    let own = number_at 4 page == number in
    let h4 = and_parts (size && kind && zero_ && own) (number_at 12 page == 0) low.0 in
    let h3 = and_parts (size && kind && zero_) own h4.0 in
    let h2 = and_parts (size && kind) zero_ h3.0 in
    let h1 = and_parts size kind h2.0 in
    eqb-true (slice_index page 0) 4 h1.1

no_four : (kind : Kind) → kind_byte kind ≢ 4
no_four Leaf e = omega arith
no_four Inner e = omega arith

not_of_tree : (v : PagesView) (tree : Tree) (pairs : List Pair) (n : ℕ) → Stands v tree pairs → HasRecords v.page n → OfTree v.page tree n → ⊥
not_of_tree v tree pairs n s kind reach =
    let form = tree_form v tree pairs n s reach in
    elim kind [
      | inl record_ ↦ form_not_record form.0 n n (v.page n) form.1 record_
      | inr over ↦ no_four form.0 (sym (first_byte form.0 n (v.page n) form.1) ∙ overflow_byte n (v.page n) over)
    ]

pub tree_after_drop : (old new : PagesView) (tree : Tree) (pairs : List Pair) (current : ℕ) (free bytes : List ℕ) (place : ℕ) → Stands old tree pairs → IsHeap old current free
    → Holds old place bytes → Drops old new current free place → Stands new tree pairs
tree_after_drop old new tree pairs current free bytes place s heap holds drops =
    stands_still old new tree pairs drops.after s
    (λ n reach. drops.stays n (λ among. not_of_tree old tree pairs n s (each_at (HasRecords old.page) (pages_of old.page place) n (each_kind old place bytes holds) among) reach))
    (omega (arith, drops.fresh)) drops.heap.chain

some_of : {T : Type 0} (o : Option T) → IsSome o → (x : T) × (o ≡ Some x)
some_of None s = absurd cc
some_of (Some x) s = (x, refl)

pub tree_after_replace : (old new : PagesView) (tree : Tree) (pairs : List Pair) (place : ℕ) (bytes : List ℕ) → Stands old tree pairs → Replaces old new place bytes → Stands new tree pairs
tree_after_replace old new tree pairs place bytes s r =
    let number = page_of place in
    let had = some_of (record_at old.page place) r.had in
    let form = slot_formed old place had.0 (false_from_ne_true (is_chain place) r.slotted) had.1 in
    let grows : old.fresh ≤ new.fresh = omega (arith, r.fresh) in
    let apart = free_differ old number old.free s.chain.frees form s.chain.chain in
    let still = free_still old new old.free s.chain.frees grows s.chain.chain (each_more (λ n. n ≢ number) (λ n. new.page n ≡ old.page n) s.chain.frees r.stays apart) in
    stands_still old new tree pairs s.chain.frees s
    (λ n reach. r.stays n (λ is. not_of_tree old tree pairs n s (inl (subst (λ (m : ℕ). is_record_page m (old.page m) ≡ true) (sym is) form)) reach))
    grows (subst (λ (first : ℕ). IsFreeChain new first s.chain.frees) (sym r.first) still)

not_spare : (v : PagesView) (n : ℕ) → HasRecords v.page n → n < v.fresh → IsSpare v n → ⊥
not_spare v n kind below (inr past) = omega (arith, below, past)
not_spare v n kind below (inl some) =
    let link = some_of (free_link n (v.page n)) some in
    elim kind [
      | inl record_ ↦ free_not_record n n link.0 (v.page n) link.1 record_
      | inr over ↦ free_not_overflow n n link.0 (v.page n) link.1 over
    ]

-- each record stays
pub record_after_key : (old new : PagesView) (tree : Tree) (pairs : List Pair) (place : ℕ) (bytes : List ℕ) → Stands old tree pairs → Changes (OfTree old.page tree) old new → Holds old place bytes → StillHolds old new place bytes
record_after_key old new tree pairs place bytes s changes holds =
    holds_still old new place bytes changes.grows holds
    (each_more (λ n. InUse old n × HasRecords old.page n) (λ n. new.page n ≡ old.page n) (pages_of old.page place)
    (λ n both. changes.others n (not_of_tree old tree pairs n s both.1) (not_spare old n both.1 both.0.1))
    (each_both (InUse old) (HasRecords old.page) (pages_of old.page place) holds.pages (each_kind old place bytes holds)))

-- what the records suppose of the pages holds still
pub heap_after_key : (old new : PagesView) (before after : Tree) (pairs now : List Pair) (current : ℕ) (free : List ℕ) → Stands old before pairs → IsHeap old current free → IsForRecords old current
    → Changes (OfTree old.page before) old new → (s : Stands new after now) → IsHeap new current s.chain.frees × IsForRecords new current
heap_after_key old new before after pairs now current free was heap records changes s =
    let grows = changes.grows in
    let chain = s.chain.chain in
    elim records [
      | inl none_ ↦ (record { least = omega (arith, heap.least, grows); chain = chain; page = inl none_ }, inl none_)
      | inr form ↦ elim heap.page [
        | inl none_ ↦ (record { least = omega (arith, heap.least, grows); chain = chain; page = inl none_ }, inl none_)
        | inr use_ ↦ (
          record { least = omega (arith, heap.least, grows); chain = chain; page = inr (use_.0, omega (arith, use_.1, grows)) },
          inr (ap (λ (p : List ℕ). is_record_page current p) (changes.others current (not_of_tree old before pairs current was (inl form)) (not_spare old current (inl form) use_.1)) ∙ form),
        )
      ]
    ]
