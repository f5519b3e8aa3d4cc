-- Two leaves that share what they have: what becomes of the page above.
use Rattle.std.proofs.Common.{◌≡◌, ◌≢◌, ◌≤◌, ◌<◌, ◌+◌, ◌-◌, ℕ, zero, suc, List, [], ◌∷◌, ◌++◌, length, take, drop, get_or, refl, sym, ◌∙◌, ap, arith, subst, inl, inr}
use Rattle.std.specs.Prelude.{Result, Ok, Err, Bool, IsTrue}
use Rattle.gaz_page.specs.declared.pages.PageFault.{PageFault}
use Rattle.gaz_page.specs.declared.pages.PageFault.TheVariants.{Failed, Damaged, Memory}
use Rattle.gaz_page.specs.Pages.{PagesView, SamePages, NotDamaged}
use Rattle.gaz_leaf.specs.declared.kind.Kind.TheVariants.{Leaf, Inner}
use Rattle.gaz_leaf.specs.Node.{Pair, IsForm, count_of}
use Rattle.std.proofs.Math.Seq.{drop-cons}
use Rattle.std.proofs.lemmas.List.{append-nil, length-take-le}
use Rattle.std.proofs.lemmas.List.Concat.{flat_map-append}
use Rattle.gaz_tree.specs.declared.grown.Grown.TheVariants.{Kept}
use Rattle.gaz_tree.specs.Tree.{children_of, from_low, IsFan, IsHead, IsTree, tree_pairs, Reaches, SomeEntry}
use Rattle.gaz_tree.specs.Put.{HasChain, TakesFew, Trades, HasPut, fan_of}
use Rattle.gaz_tree.proofs.Fans.{IsFan-left, IsFan-right, fan_pairs, fan_from_low}
use Rattle.gaz_tree.proofs.Apart.{length_pairs}
use Rattle.gaz_tree.proofs.Ways.{none, split_at, length_from_low}
use Rattle.gaz_tree.proofs.Changed.{some_left, some_right, some_parts, low_entries}
use Rattle.gaz_tree.proofs.Chains.{few_more, few_on}
use Rattle.gaz_tree.proofs.Trading.{chain_same, few_same, trade_map, trade_on, trade_same}
use Rattle.gaz_tree.proofs.Returning.{return_map}
use Rattle.gaz_tree.proofs.Puts.{entry, Below, on_page}
use Rattle.gaz_tree.proofs.Mended.{HasPair, Parts, shared_made}
use Rattle.gaz_tree.specs.Calls.{Unfit}
use Rattle.gaz_tree.specs.Remove.{Returns, IsShared, IsEvenedAt, Evens, EvensBefore, NamesChild, NamesLeaf, NamesPageOrChild}
use Rattle.gaz_tree.proofs.Answered.{same_twice}
use Rattle.gaz_tree.proofs.Named.{NotFailed}
use Rattle.gaz_tree.proofs.Ready.{fan_ready}

-- ---- after reads

evened_over : (old mid new : PagesView) (page i : ℕ) → SamePages old mid → IsEvenedAt page i mid new → IsEvenedAt page i old new
evened_over old mid new page i same e = record { mid = e.mid; same = same_twice old mid e.mid same e.same; shared = e.shared }

pub even_before_over : (old mid new : PagesView) (page place : ℕ) → SamePages old mid → place < count_of (old.page page) → 0 < place → Evens page (place - 1) mid new → EvensBefore page place old new
even_before_over old mid new page place same lt some (inl stays) = inl (same_twice old mid new same stays)
even_before_over old mid new page place same lt some (inr e) = inr (record { i = place - 1; within = omega arith; at = evened_over old mid new page (place - 1) same e })

pub even_over : (old mid new : PagesView) (page place : ℕ) → SamePages old mid → EvensBefore page place mid new → EvensBefore page place old new
even_over old mid new page place same (inl stays) = inl (same_twice old mid new same stays)
even_over old mid new page place same (inr e) =
    inr (record { i = e.i; within = subst (λ (m : ℕ → List ℕ). e.i + 1 < count_of (m page)) same.pages e.within; at = evened_over old mid new page e.i same e.at })

-- ---- damage

pub leaf_page_unfit : (T : Type 0) (page place : ℕ) (old new : ℕ → List ℕ) (told : Bool) (fault : PageFault) → IsTrue told → (NotFailed fault → new ≡ old)
    → Unfit Inner page (old page) told fault → NamesLeaf {T = T} page place old new (Err fault)
leaf_page_unfit T page place old new told Failed is read u = tt
leaf_page_unfit T page place old new told Memory is read u = tt
leaf_page_unfit T page place old new told (Damaged n) is read u = inl (u.0, read tt, λ form lt. u.1 is form)

pub leaf_or_page : {T : Type 0} (page place : ℕ) (es : List Pair) (old mid new : ℕ → List ℕ) (result : Result T PageFault) → mid ≡ old → es ≡ children_of old page
    → NamesChild Leaf es mid new result → NamesLeaf page place old new result
leaf_or_page page place es old mid new (Ok x) same is names = tt
leaf_or_page page place es old mid new (Err Failed) same is names = tt
leaf_or_page page place es old mid new (Err Memory) same is names = tt
leaf_or_page page place es old mid new (Err (Damaged n)) same is names = inr (
  names.0 ∙ same,
  subst (λ (l : List Pair). SomeEntry (λ e. e.value ≡ n) l) is names.1,
  λ form full. names.2 (subst (λ (m : ℕ → List ℕ). IsForm Leaf n (m n)) (sym same) form) (subst (λ (m : ℕ → List ℕ). 1 ≤ count_of (m n)) (sym same) full),
)

pub leaf_named : {T : Type 0} (page place : ℕ) (old new : ℕ → List ℕ) (result : Result T PageFault) → NamesLeaf page place old new result → NamesPageOrChild Leaf page place old new result
leaf_named page place old new (Ok x) names = tt
leaf_named page place old new (Err Failed) names = tt
leaf_named page place old new (Err Memory) names = tt
leaf_named page place old new (Err (Damaged n)) (inl names) = inl (names.0, names.1, λ form two lt. names.2 form lt)
leaf_named page place old new (Err (Damaged n)) (inr names) = inr names

-- ---- the page above

-- the neighbours at a place and behind it
pair_at : (v : PagesView) (page low high i : ℕ) → IsHead v.page (suc zero) page low high → i + 1 < count_of (v.page page)
    → HasPair v v zero page low high i 0 (tree_pairs v.page (suc zero) page)
pair_at v page low high i head lt =
    let fan = from_low low (children_of v.page page) in
    let size = length_pairs Inner (v.page page) in
    let long = length_from_low low (children_of v.page page) in
    let first_in : i < length fan = omega arith in
    let second_in : suc i < length fan = omega arith in
    let ls = take i fan in
    let x = get_or fan i none in
    let y = get_or fan (suc i) none in
    let rs = drop (suc (suc i)) fan in
    let is : fan ≡ ls ++ x ∷ y ∷ rs = split_at i fan first_in ∙ ap (λ (l : List Pair). ls ++ x ∷ l) (drop-cons fan (suc i) none second_in) in
    let trees = subst (IsFan (IsTree v.page zero) high) is head.2 in
    let left = IsFan-left (IsTree v.page zero) high ls (x ∷ y ∷ rs) trees in
    let rest = IsFan-right (IsTree v.page zero) high ls (x ∷ y ∷ rs) trees in
    let f = λ (e : Pair). tree_pairs v.page zero e.value in
    record {
      ls = ls;
      a = x.key;
      one = x.value;
      b = y.key;
      two = y.value;
      rs = rs;
      paired = record {
        before = head;
        is = is;
        same = refl;
        left = left;
        first = rest.0.1;
        second = rest.1.0.1;
        right = rest.1.1;
        first_many = (let c = rest.0.0.filled in omega arith);
        second_many = (let c = rest.1.0.0.filled in omega arith);
        left_back = λ n s. s;
        first_back = λ n r. r;
        second_back = λ n r. r;
        right_back = λ n s. s;
      };
      place = length-take-le i fan (omega arith);
      shows = sym (flat_map-append f ls (x ∷ y ∷ rs)) ∙ ap (fan_pairs v.page zero) (sym is) ∙ fan_from_low v.page zero low (children_of v.page page);
    }

-- the page stands for the same pairs, and its pages are the same
pub record IsEvened (v new : PagesView) (page low high : ℕ) : Type 0 where
  pub head : IsHead new.page (suc zero) page low high
  pub shows : tree_pairs new.page (suc zero) page ≡ tree_pairs v.page (suc zero) page
  pub many : count_of (v.page page) ≤ count_of (new.page page)
  pub chain : HasChain new
  pub takes : TakesFew 0 v new
  pub fresh : new.fresh ≡ v.fresh
  pub on : (n : ℕ) → Reaches v.page (suc zero) page n → Reaches new.page (suc zero) page n
  pub back : (n : ℕ) → Reaches new.page (suc zero) page n → Reaches v.page (suc zero) page n
  pub returns : Returns (Reaches v.page (suc zero) page) (Reaches new.page (suc zero) page) v new

pub evened : (v new : PagesView) (page low high i : ℕ) → IsHead v.page (suc zero) page low high → HasChain v → i + 1 < count_of (v.page page) → IsShared Leaf page i v new → IsEvened v new page low high
evened v new page low high i head chain lt shared =
    let h = pair_at v page low high i head lt in
    let r = shared_made v v new zero page low high i 0 (tree_pairs v.page (suc zero) page) h chain lt shared in
    let both = entry h.a h.one ∷ entry h.b h.two ∷ h.rs in
    let P = λ (n : ℕ) (e : Pair). Reaches v.page zero e.value n in
    let V = Parts v.page zero page h.ls h.one h.two h.rs in
    let parts : (n : ℕ) → Reaches v.page (suc zero) page n → V n = λ n x. elim x [
      | inl e ↦ inl e
      | inr s ↦ elim (some_parts (P n) h.ls both (subst (λ (l : List Pair). Below v.page zero l n) h.paired.is (low_entries (λ (k : ℕ). Reaches v.page zero k n) low (children_of v.page page) s))) [
        | inl l ↦ inr (inl l)
        | inr rest ↦ elim rest [ inl o ↦ inr (inr (inl (inl o))) | inr more ↦ elim more [ inl o ↦ inr (inr (inl (inr o))) | inr q ↦ inr (inr (inr q)) ] ]
      ]
    ] in
    let whole : (n : ℕ) → V n → Reaches v.page (suc zero) page n = λ n x. elim x [
      | inl e ↦ inl e
      | inr below ↦ on_page v zero page low n (subst (λ (l : List Pair). Below v.page zero l n) (sym h.paired.is) (elim below [
        | inl l ↦ some_left (P n) h.ls both l
        | inr rest ↦ some_right (P n) h.ls both (elim rest [ inl mid ↦ elim mid [ inl o ↦ inl o | inr o ↦ inr (inl o) ] | inr q ↦ inr (inr q) ])
      ]))
    ] in
    let some_ : (n : ℕ) → entry r.key h.two ∷ [] ≡ [] → n ≢ h.two = λ n nil. absurd cc in
    record {
      head = r.mended.head;
      shows = r.mended.shows ∙ h.shows;
      many = r.many;
      chain = r.written.chain;
      takes = r.takes;
      fresh = r.written.fresh;
      on = λ n x. r.mended.on n (some_ n) (parts n x);
      back = λ n x. whole n (r.mended.back n x);
      returns = return_map V (Reaches new.page (suc zero) page) (Reaches v.page (suc zero) page) (Reaches new.page (suc zero) page) v new r.returns parts whole (λ n x. x) (λ n x. x);
    }

-- a return is a trade that takes nothing
returned : (A B : ℕ → Type 0) (a b : PagesView) → b.fresh ≡ a.fresh → ((n : ℕ) → A n → B n) → Returns A B a b → Trades A B a b
returned A B a b fresh on r = record {
  used = λ n which. inl (r.used n which);
  all = λ n which. elim which [ inl x ↦ r.all n x | inr late ↦ absurd (omega (arith, late.0, late.1, fresh)) ];
  stays = λ n out. r.stays n (λ x. out (on n x));
}

-- a pair was put in, and two leaves share what they have
put_evened : (old v new : PagesView) (page low high : ℕ) (p : Pair) → HasPut old v (suc zero) page low high p Kept → IsEvened v new page low high → HasPut old new (suc zero) page low high p Kept
put_evened old v new page low high p h e =
    let fresh = e.fresh in
    let grows = h.changes.grows in
    let only : (n : ℕ) → SomeEntry (λ e. Reaches new.page (suc zero) e.value n) (fan_of Kept low page) → Reaches v.page (suc zero) page n = λ n s. elim s [ inl r ↦ e.back n r | inr none_ ↦ absurd none_ ] in
    record {
      tree = (e.head, (let a = h.tree.1 in let b = e.many in omega arith));
      shows = append-nil (tree_pairs new.page (suc zero) page) ∙ e.shows ∙ sym (append-nil (tree_pairs v.page (suc zero) page)) ∙ h.shows;
      changes = record {
        others = λ n out not. e.returns.stays n (λ r. h.owns n (inl r) out not) ∙ h.changes.others n out not;
        grows = omega arith;
      };
      lies = λ n s. (let t = h.lies n (inl (only n s)) in record { start = t.start; end = (let q = t.end in omega arith) });
      chain = e.chain;
      differs = h.differs;
      owns = λ n s out not. h.owns n (inl (only n s)) out not;
      takes = few_more (suc (suc zero) + 0) (suc (suc zero)) old new (omega arith) (few_on (suc (suc zero)) 0 old v new h.chain h.takes e.takes);
      trades =
          let A = Reaches old.page (suc zero) page in
          let S = λ (n : ℕ). SomeEntry (λ e. Reaches v.page (suc zero) e.value n) (fan_of Kept low page) in
          let T = λ (n : ℕ). SomeEntry (λ e. Reaches new.page (suc zero) e.value n) (fan_of Kept low page) in
          let step : Trades S T v new = trade_map (Reaches v.page (suc zero) page) (Reaches new.page (suc zero) page) S T v new (returned _ _ v new e.fresh e.on e.returns)
          (λ n s. elim s [ inl r ↦ r | inr none_ ↦ absurd none_ ]) (λ n r. inl r) (λ n r. inl r) (λ n s. elim s [ inl r ↦ r | inr none_ ↦ absurd none_ ]) in
          trade_on A S T old v new h.trades step (λ n s. elim s [ inl r ↦ inl (e.on n r) | inr none_ ↦ absurd none_ ]) grows (omega arith);
    }

-- the same after reads
put_then : (old v new : PagesView) (level page low high : ℕ) (p : Pair) → HasPut old v level page low high p Kept → SamePages v new → HasPut old new level page low high p Kept
put_then old v new level page low high p h same =
    let on = λ (n : ℕ) (r : Reaches v.page level page n). subst (λ (m : ℕ → List ℕ). Reaches m level page n) (sym same.pages) r in
    let off = λ (n : ℕ) (r : Reaches new.page level page n). subst (λ (m : ℕ → List ℕ). Reaches m level page n) same.pages r in
    let only : (n : ℕ) → SomeEntry (λ e. Reaches new.page level e.value n) (fan_of Kept low page) → Reaches v.page level page n = λ n s. elim s [ inl r ↦ off n r | inr none_ ↦ absurd none_ ] in
    let fresh = same.fresh in
    let grows = h.changes.grows in
    record {
      tree = (
        subst (λ (m : ℕ → List ℕ). IsHead m level page low high) (sym same.pages) h.tree.0,
        subst (λ (m : ℕ → List ℕ). count_of (old.page page) ≤ count_of (m page)) (sym same.pages) h.tree.1,
      );
      shows = ap (λ (m : ℕ → List ℕ). tree_pairs m level page ++ []) same.pages ∙ h.shows;
      changes = record { others = λ n out not. (λ j. same.pages j n) ∙ h.changes.others n out not; grows = omega arith };
      lies = λ n s. (let t = h.lies n (inl (only n s)) in record { start = t.start; end = (let q = t.end in omega arith) });
      chain = chain_same v new same h.chain;
      differs = h.differs;
      owns = λ n s out not. h.owns n (inl (only n s)) out not;
      takes = few_more (suc level + 0) (suc level) old new (omega arith) (few_on (suc level) 0 old v new h.chain h.takes (few_same 0 v new same));
      trades =
          let A = Reaches old.page level page in
          let S = λ (n : ℕ). SomeEntry (λ e. Reaches v.page level e.value n) (fan_of Kept low page) in
          let T = λ (n : ℕ). SomeEntry (λ e. Reaches new.page level e.value n) (fan_of Kept low page) in
          let step : Trades S T v new = trade_map S S S T v new (trade_same S v new same) (λ n s. s) (λ n s. s)
          (λ n s. elim s [ inl r ↦ inl (on n r) | inr none_ ↦ absurd none_ ]) (λ n s. elim s [ inl r ↦ inl (off n r) | inr none_ ↦ absurd none_ ]) in
          trade_on A S T old v new h.trades step (λ n s. elim s [ inl r ↦ inl (on n r) | inr none_ ↦ absurd none_ ]) grows (omega arith);
    }

-- what a put is once the leaf has shared with the one before it
pub put_even : (old v new : PagesView) (page low high place : ℕ) (p : Pair) → HasPut old v (suc zero) page low high p Kept → EvensBefore page place v new → HasPut old new (suc zero) page low high p Kept
put_even old v new page low high place p h (inl same) = put_then old v new (suc zero) page low high p h same
put_even old v new page low high place p h (inr e) =
    let mid = e.at.mid in
    let q = put_then old v mid (suc zero) page low high p h e.at.same in
    put_evened old mid new page low high p q
    (evened mid new page low high e.i q.tree.0 q.chain (subst (λ (m : ℕ → List ℕ). e.i + 1 < count_of (m page)) (sym e.at.same.pages) e.within) e.at.shared)

pub even_fresh : (v new : PagesView) (page place : ℕ) → EvensBefore page place v new → new.fresh ≡ v.fresh
even_fresh v new page place (inl same) = same.fresh
even_fresh v new page place (inr e) = e.at.shared.last.fresh ∙ e.at.shared.second.fresh ∙ e.at.shared.first.fresh ∙ e.at.same.fresh

-- ---- over pages that stand

leaf_ready : (pages : ℕ → List ℕ) (page low high n : ℕ) → IsHead pages (suc zero) page low high → SomeEntry (λ e. e.value ≡ n) (children_of pages page) → IsForm Leaf n (pages n) × (1 ≤ count_of (pages n))
leaf_ready pages page low high n head some = fan_ready pages zero high n (from_low low (children_of pages page)) head.2 (low_entries (λ (m : ℕ). m ≡ n) low (children_of pages page) some)

pub even_fine : (T : Type 0) (v : PagesView) (new : ℕ → List ℕ) (page low high place : ℕ) (fault : PageFault) → IsHead v.page (suc zero) page low high → place < count_of (v.page page)
    → NamesLeaf {T = T} page place v.page new (Err fault) → NotDamaged fault
even_fine T v new page low high place Failed head lt names = tt
even_fine T v new page low high place Memory head lt names = tt
even_fine T v new page low high place (Damaged n) head lt (inl names) = absurd (names.2 head.0 lt)
even_fine T v new page low high place (Damaged n) head lt (inr names) =
    let ready = leaf_ready v.page page low high n head names.1 in
    absurd (names.2 ready.0 ready.1)

-- the same with the level as a number of its own
pub even_kept : (old v new : PagesView) (below page low high place : ℕ) (p : Pair) → below ≡ 0 → HasPut old v (suc below) page low high p Kept → EvensBefore page place v new
    → HasPut old new (suc below) page low high p Kept
even_kept old v new below page low high place p is h e =
    subst (λ (l : ℕ). HasPut old new (suc l) page low high p Kept) (sym is)
    (put_even old v new page low high place p (subst (λ (l : ℕ). HasPut old v (suc l) page low high p Kept) is h) e)

pub even_kept_fine : (T : Type 0) (old v : PagesView) (new : ℕ → List ℕ) (below page low high place : ℕ) (p : Pair) (fault : PageFault) → below ≡ 0 → HasPut old v (suc below) page low high p Kept
    → place < count_of (old.page page) → NamesLeaf {T = T} page place v.page new (Err fault) → NotDamaged fault
even_kept_fine T old v new below page low high place p fault is h lt names =
    let more = h.tree.1 in
    even_fine T v new page low high place fault (subst (λ (l : ℕ). IsHead v.page (suc l) page low high) is h.tree.0) (omega arith) names
