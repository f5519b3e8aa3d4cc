-- A long record that is put piece by piece, the last piece first: what becomes of all other places.
use Rattle.std.proofs.Common.{◌≡◌, ◌≢◌, ◌≤◌, ◌<◌, ◌+◌, ◌*◌, ◌⊎◌, ℕ, zero, suc, true, false, List, [], ◌∷◌, ◌++◌, length, refl, sym, ap, ◌∙◌, subst, arith, inl, inr, Some, None, append-nil}
use Rattle.std.specs.Prelude.{Option, Bool, if◌then◌else◌, option_map}
use Rattle.std.proofs.lemmas.Bool.{cases_Bool, cases_eq, cases_lt, eq-eqb, ne_eqb, false_from_ne_true}
use Rattle.gaz_page.specs.Free.{free_link, short_at}
use Rattle.gaz_page.specs.Pages.{PagesView}
use Rattle.gaz_slots.specs.RecordPage.{record_in, is_record_page}
use Rattle.gaz_slots.specs.Overflow.{is_overflow_page, next_in, piece_in}
use Rattle.gaz_heap.specs.Chain.{chain_at, chain_pages, long_enough}
use Rattle.gaz_heap.specs.Place.{record_at, pages_of, page_of, slot_of, is_chain}
use Rattle.gaz_heap.specs.Heap.{StoresPiece}
use Rattle.gaz_page.specs.Chains.{Each, Among, InUse, IsFreeChain}
use Rattle.gaz_heap.specs.Facts.{IsHeap, Holds, StillHolds, IsForRecords, SlotStays, Puts}
use Rattle.gaz_slots.proofs.PageKinds.{overflow_not_record, free_not_record, free_not_overflow}
use Rattle.gaz_slots.proofs.Recorded.{unformed}
use Rattle.gaz_heap.proofs.Holds.{each_formed, each_more, chain_same, record_slot, record_chain, far, pages_chain, holds_still, nothing, at_last, at_more, pages_last, pages_more, none_at_0, formed_first, ends, goes, step_of}
use Rattle.gaz_slots.proofs.PieceForm.{length-piece}
use Rattle.gaz_heap.proofs.Chain.{fits}
use Rattle.gaz_heap.proofs.StoredPuts.{slot_equal}
use Rattle.gaz_page.proofs.FreeChains.{free_still, not_again, each_other}
use Rattle.gaz_heap.proofs.NewPuts.{IsNew, not_new, was_none, in_use_of, later}

pub each_at : (P : ℕ → Type 0) (list : List ℕ) (n : ℕ) → Each P list → Among list n → P n
each_at P [] n each among = absurd among
each_at P (m ∷ rest) n each among = elim among [ inl is ↦ subst P (sym is) each.0 | inr more ↦ each_at P rest n each.1 more ]

pub each_from : (P : ℕ → Type 0) (list : List ℕ) → ((n : ℕ) → Among list n → P n) → Each P list
each_from P [] all = tt
each_from P (m ∷ rest) all = (all m (inl refl), each_from P rest (λ n among. all n (inr among)))

pub among_or_not : (list : List ℕ) (n : ℕ) → Among list n ⊎ (Among list n → ⊥)
among_or_not [] n = inr (λ among. among)
among_or_not (m ∷ rest) n =
    elim (cases_eq n m) [
      | inl is ↦ inl (inl is)
      | inr differs ↦ elim (among_or_not rest n) [
        | inl among ↦ inl (inr among)
        | inr out ↦ inr (λ among. elim among [ inl is ↦ differs is | inr more ↦ out more ])
      ]
    ]

-- the pieces that stand by now: `rest` on `count` pages from `next` on
pub record Chaining (old now : PagesView) (free : List ℕ) (next count : ℕ) (rest : List ℕ) : Type 0 where
  pub left : List ℕ
  pub grows : old.fresh ≤ now.fresh
  pub chain : IsFreeChain now now.free left
  pub fewer : (n : ℕ) → Among left n → Among free n
  pub taken : (n : ℕ) → Among free n ⊎ ((old.fresh ≤ n) × (n < now.fresh)) → Among left n ⊎ Among (chain_pages count now.page next) n
  pub origin : (n : ℕ) → Among (chain_pages count now.page next) n → InUse now n × IsNew old n
  pub owns : (n : ℕ) → Among (chain_pages count now.page next) n → Among free n ⊎ (old.fresh ≤ n)
  pub stays : (n : ℕ) → (Among (chain_pages count now.page next) n → ⊥) → now.page n ≡ old.page n
  pub takes : length free + now.fresh ≡ length left + old.fresh + count
  pub pieces : ((count ≡ 0) × (next ≡ 0) × (rest ≡ [])) ⊎ ((next ≢ 0) × (chain_at count now.page next ≡ Some rest))

no_pages : (pages : ℕ → List ℕ) (next : ℕ) → chain_pages 0 pages next ≡ []
unfolding chain_pages
no_pages pages next = refl

pub chaining_none : (old : PagesView) (free : List ℕ) → IsFreeChain old old.free free → Chaining old old free 0 0 []
chaining_none old free chain = record {
  left = free;
  grows = omega arith;
  chain = chain;
  fewer = λ n among. among;
  taken = λ n which. elim which [ inl among ↦ inl among | inr range ↦ absurd (omega (arith, range.0, range.1)) ];
  origin = λ n among. absurd (subst (λ (l : List ℕ). Among l n) (no_pages old.page 0) among);
  owns = λ n among. absurd (subst (λ (l : List ℕ). Among l n) (no_pages old.page 0) among);
  stays = λ n out. refl;
  takes = omega arith;
  pieces = inl (refl, refl, refl);
}

-- no page of the pieces is new to the pages of now
mine_known : (old now : PagesView) (free rest : List ℕ) (next count number : ℕ) → Chaining old now free next count rest → IsNew now number → Among (chain_pages count now.page next) number → ⊥
mine_known old now free rest next count number c (inr past) among = omega (arith, (c.origin number among).0.1, past)
mine_known old now free rest next count number c (inl link) among =
    elim c.pieces [
      | inl none_ ↦ subst (λ (k : ℕ). Among (chain_pages k now.page next) number → ⊥) (sym none_.0) (λ a. subst (λ (l : List ℕ). Among l number) (no_pages now.page next) a) among
      | inr some ↦ free_not_overflow number number link.0 (now.page number) link.1 (each_at (λ n. is_overflow_page n (now.page n) ≡ true) (chain_pages count now.page next) number (each_formed count now.page next rest some.1) among)
    ]

-- what one more page does to the pieces that stand
record OneMore (now new : PagesView) (number : ℕ) : Type 0 where
  is_new : IsNew now number
  some : 1 ≤ number
  inside : number < new.fresh
  grows : now.fresh ≤ new.fresh
  others : (n : ℕ) → n ≢ number → new.page n ≡ now.page n

mine_same : (old now new : PagesView) (free rest : List ℕ) (next count number : ℕ) → Chaining old now free next count rest → OneMore now new number → chain_pages count new.page next ≡ chain_pages count now.page next
mine_same old now new free rest next count number c m =
    elim c.pieces [
      | inl none_ ↦ ap (λ (k : ℕ). chain_pages k new.page next) none_.0 ∙ no_pages new.page next ∙ sym (no_pages now.page next) ∙ ap (λ (k : ℕ). chain_pages k now.page next) (sym none_.0)
      | inr some ↦ (chain_same count now.page new.page next rest some.1 (each_from (λ n. new.page n ≡ now.page n) (chain_pages count now.page next)
          (λ n among. m.others n (λ is. mine_known old now free rest next count number c m.is_new (subst (λ (k : ℕ). Among (chain_pages count now.page next) k) is among))))).1
    ]

new_of_old : (old now : PagesView) (free rest : List ℕ) (next count number : ℕ) → Chaining old now free next count rest → IsNew now number → IsNew old number
new_of_old old now free rest next count number c (inr past) = inr (omega (arith, past, c.grows))
new_of_old old now free rest next count number c (inl link) =
    inl (link.0, ap (λ (p : List ℕ). free_link number p) (sym (c.stays number (mine_known old now free rest next count number c (inl link)))) ∙ link.1)

-- what is left of the free pages after one was taken
record TakenOne (now new : PagesView) (number : ℕ) (left : List ℕ) : Type 0 where
  more : OneMore now new number
  after : List ℕ
  chain : IsFreeChain now new.free after
  apart : Each (λ n. n ≢ number) after
  fewer : (n : ℕ) → Among after n → Among left n
  taken : (n : ℕ) → Among left n ⊎ ((now.fresh ≤ n) × (n < new.fresh)) → Among after n ⊎ (n ≡ number)
  mine : Among left number ⊎ (now.fresh ≤ number)
  takes : length left + new.fresh ≡ length after + now.fresh + 1

some_is : (a b : ℕ) → Some a ≡ Some b → a ≡ b
some_is a b same = cc

one_taken : (now new : PagesView) (number next : ℕ) (piece left : List ℕ) → StoresPiece number next piece now new → 1 ≤ now.fresh → IsFreeChain now now.free left → TakenOne now new number left
one_taken now new number next piece [] stores least chain =
    let none_ = eq-eqb now.free 0 chain in
    let is : number ≡ now.fresh = stores.taken ∙ ap (λ (b : Bool). if b then now.fresh else now.free) none_ in
    let free : Some new.free ≡ Some 0 = stores.free ∙ ap (λ (b : Bool). if b then Some 0 else free_link now.free (now.page now.free)) none_ in
    let fresh : new.fresh ≡ now.fresh + 1 = stores.fresh ∙ ap (λ (b : Bool). if b then now.fresh + 1 else now.fresh) none_ in
    record {
      more = record { is_new = inr (omega (arith, is)); some = omega (arith, is, least); inside = omega (arith, is, fresh); grows = omega (arith, fresh); others = stores.others };
      after = [];
      chain = some_is new.free 0 free;
      apart = tt;
      fewer = λ n among. among;
      taken = λ n which. elim which [ inl among ↦ absurd among | inr range ↦ inr (omega (arith, range.0, range.1, is, fresh)) ];
      mine = inr (omega (arith, is));
      takes = omega (arith, fresh);
    }
one_taken now new number next piece (m ∷ rest) stores least chain =
    let first : now.free ≡ m = chain.0 in
    let was = chain.1 in
    let link = chain.2 in
    let no_ = ne_eqb now.free 0 (λ zero_. omega (arith, zero_, first, was.0)) in
    let is : number ≡ m = stores.taken ∙ ap (λ (b : Bool). if b then now.fresh else now.free) no_ ∙ first in
    let free : Some new.free ≡ Some link.0 = stores.free ∙ ap (λ (b : Bool). if b then Some 0 else free_link now.free (now.page now.free)) no_ ∙ (λ i. free_link (first i) (now.page (first i))) ∙ link.1 in
    let fresh : new.fresh ≡ now.fresh = stores.fresh ∙ ap (λ (b : Bool). if b then now.fresh + 1 else now.fresh) no_ in
    let after_ : link.0 ≡ new.free = sym (some_is new.free link.0 free) in
    let whole : IsFreeChain now m (m ∷ rest) = (refl, was, link) in
    record {
      more = record {
        is_new = inl (link.0, subst (λ (k : ℕ). free_link k (now.page k) ≡ Some link.0) (sym is) link.1);
        some = omega (arith, is, was.0);
        inside = omega (arith, is, was.1, fresh);
        grows = omega (arith, fresh);
        others = stores.others;
      };
      after = rest;
      chain = subst (λ (k : ℕ). IsFreeChain now k rest) after_ link.2;
      apart = subst (λ (k : ℕ). Each (λ n. n ≢ k) rest) (sym is) (each_other m rest (not_again now m rest whole));
      fewer = λ n among. inr among;
      taken = λ n which. elim which [
        | inl among ↦ elim among [ inl same ↦ inr (same ∙ sym is) | inr later_ ↦ inl later_ ]
        | inr range ↦ absurd (omega (arith, range.0, range.1, fresh))
      ];
      mine = inl (inl is);
      takes = omega (arith, fresh);
    }

-- the pages of the pieces, with one more before them
mine_more : (old now new : PagesView) (free rest piece : List ℕ) (next count number : ℕ) → Chaining old now free next count rest → OneMore now new number → StoresPiece number next piece now new
    → chain_pages (suc count) new.page number ≡ number ∷ chain_pages count now.page next
mine_more old now new free rest piece next count number c m stores =
    elim c.pieces [
      | inl none_ ↦
          pages_last count new.page number (stores.link ∙ none_.1)
          ∙ ap (λ (l : List ℕ). number ∷ l) (sym (no_pages now.page next) ∙ ap (λ (k : ℕ). chain_pages k now.page next) (sym none_.0))
      | inr some ↦
          pages_more count new.page number (λ zero_. some.0 (sym stores.link ∙ zero_))
          ∙ (λ i. number ∷ chain_pages count new.page (stores.link i))
          ∙ ap (λ (l : List ℕ). number ∷ l) (mine_same old now new free rest next count number c m)
    ]

-- the record from that page on
pieces_more : (old now new : PagesView) (free rest piece : List ℕ) (next count number : ℕ) → Chaining old now free next count rest → OneMore now new number → StoresPiece number next piece now new → (count ≢ 0 → length piece ≡ 4080)
    → chain_at (suc count) new.page number ≡ Some (piece ++ rest)
pieces_more old now new free rest piece next count number c m stores full =
    elim c.pieces [
      | inl none_ ↦
          at_last count new.page number stores.form (stores.link ∙ none_.1)
          ∙ ap (λ (b : List ℕ). Some b) (stores.holds ∙ sym (append-nil piece) ∙ ap (λ (b : List ℕ). piece ++ b) (sym none_.2))
      | inr some ↦
          let counted : count ≢ 0 = λ zero_. nothing rest _ (none_at count now.page next zero_) some.1 in
          let size : short_at 2 (new.page number) ≡ 4080 = sym (length-piece number (new.page number) stores.form) ∙ ap (λ (b : List ℕ). length b) stores.holds ∙ full counted in
          let same = chain_same count now.page new.page next rest some.1 (each_from (λ n. new.page n ≡ now.page n) (chain_pages count now.page next)
          (λ n among. m.others n (λ is. mine_known old now free rest next count number c m.is_new (subst (λ (k : ℕ). Among (chain_pages count now.page next) k) is among)))) in
          at_more count new.page number stores.form (λ zero_. some.0 (sym stores.link ∙ zero_)) size
          ∙ (λ i. option_map (λ b. stores.holds i ++ b) (chain_at count new.page (stores.link i)))
          ∙ ap (λ (o : Option (List ℕ)). option_map (λ b. piece ++ b) o) same.0
    ]
  where
    none_at : (count : ℕ) (pages : ℕ → List ℕ) (next : ℕ) → count ≡ 0 → chain_at count pages next ≡ None
    none_at count pages next is = ap (λ (k : ℕ). chain_at k pages next) is ∙ none_at_0 pages next

taken_more : (old now new : PagesView) (free rest piece : List ℕ) (next count number : ℕ) (c : Chaining old now free next count rest) (t : TakenOne now new number c.left) → chain_pages (suc count) new.page number ≡ number ∷ chain_pages count now.page next
    → (n : ℕ) → Among free n ⊎ ((old.fresh ≤ n) × (n < new.fresh)) → Among t.after n ⊎ Among (chain_pages (suc count) new.page number) n
taken_more old now new free rest piece next count number c t mine n which =
    elim which [
      | inl among ↦ known (c.taken n (inl among))
      | inr range ↦ elim (cases_lt n now.fresh) [
        | inl below ↦ known (c.taken n (inr (range.0, below)))
        | inr past ↦ given (t.taken n (inr (past, range.1)))
      ]
    ]
  where
    given : Among t.after n ⊎ (n ≡ number) → Among t.after n ⊎ Among (chain_pages (suc count) new.page number) n
    given which_ = elim which_ [ inl among ↦ inl among | inr is ↦ inr (subst (λ (l : List ℕ). Among l n) (sym mine) (inl is)) ]

    known : Among c.left n ⊎ Among (chain_pages count now.page next) n → Among t.after n ⊎ Among (chain_pages (suc count) new.page number) n
    known which_ = elim which_ [ inl among ↦ given (t.taken n (inl among)) | inr among ↦ inr (subst (λ (l : List ℕ). Among l n) (sym mine) (inr among)) ]

pub chaining_more : (old now new : PagesView) (free rest piece : List ℕ) (next count number : ℕ) → 1 ≤ old.fresh → Chaining old now free next count rest → StoresPiece number next piece now new → (count ≢ 0 → length piece ≡ 4080)
    → Chaining old new free number (suc count) (piece ++ rest)
chaining_more old now new free rest piece next count number least c stores full =
    let t = one_taken now new number next piece c.left stores (omega (arith, least, c.grows)) c.chain in
    let m = t.more in
    let mine = mine_more old now new free rest piece next count number c m stores in
    record {
      left = t.after;
      grows = omega (arith, c.grows, m.grows);
      chain = free_still now new new.free t.after m.grows t.chain (each_more (λ n. n ≢ number) (λ n. new.page n ≡ now.page n) t.after m.others t.apart);
      fewer = λ n among. c.fewer n (t.fewer n among);
      taken = λ n which. taken_more old now new free rest piece next count number c t mine n which;
      origin = λ n among. elim (subst (λ (l : List ℕ). Among l n) mine among) [
        | inl is ↦ ((omega (arith, is, m.some), omega (arith, is, m.inside)), subst (IsNew old) (sym is) (new_of_old old now free rest next count number c m.is_new))
        | inr earlier ↦ let o = c.origin n earlier in ((o.0.0, omega (arith, o.0.1, m.grows)), o.1)
      ];
      owns = λ n among. elim (subst (λ (l : List ℕ). Among l n) mine among) [
        | inl is ↦ elim t.mine [
          | inl here ↦ inl (c.fewer n (subst (λ (k : ℕ). Among c.left k) (sym is) here))
          | inr past ↦ inr (omega (arith, past, is, c.grows))
        ]
        | inr earlier ↦ c.owns n earlier
      ];
      takes = let one = t.takes in let was = c.takes in omega arith;
      stays = λ n out.
          m.others n (λ is. out (subst (λ (l : List ℕ). Among l n) (sym mine) (inl is)))
          ∙ c.stays n (λ among. out (subst (λ (l : List ℕ). Among l n) (sym mine) (inr among)));
      pieces = inr (λ is. omega (arith, is, m.some), pieces_more old now new free rest piece next count number c m stores full);
    }

-- a chain is the same over more pages at most
pub chain_longer : (most more : ℕ) (pages : ℕ → List ℕ) (number : ℕ) (bytes : List ℕ) → most ≤ more → chain_at most pages number ≡ Some bytes → (chain_at more pages number ≡ Some bytes) × (chain_pages more pages number ≡ chain_pages most pages number)
chain_longer zero more pages number bytes fits is = absurd (nothing bytes _ (none_at_0 pages number) is)
chain_longer (suc most) zero pages number bytes fits is = absurd (omega (arith, fits))
chain_longer (suc most) (suc more) pages number bytes fits is =
    let form = formed_first (suc most) pages number bytes is in
    elim (step_of most pages number bytes is) [
      | ends last same ↦ (at_last more pages number form last ∙ ap (λ (b : List ℕ). Some b) same, pages_last more pages number last ∙ sym (pages_last most pages number last))
      | goes onward full rest there same ↦
          let r = chain_longer most more pages (next_in (pages number)) rest (omega (arith, fits)) there in (
            at_more more pages number form onward full ∙ ap (λ (o : Option (List ℕ)). option_map (λ b. piece_in (pages number) ++ b) o) r.0 ∙ ap (λ (b : List ℕ). Some b) same,
            pages_more more pages number onward ∙ ap (λ (l : List ℕ). number ∷ l) r.1 ∙ sym (pages_more most pages number onward),
          )
    ]

-- all pieces of a record stand
pub record Whole (old now : PagesView) (current next count : ℕ) (free bytes : List ℕ) : Type 0 where
  pub pieces : Chaining old now free next count bytes
  pub heap : IsHeap old current free
  pub few : count ≤ 17
  pub long : 4076 < length bytes
  pub short : length bytes ≤ 65535
  pub low : next < 4294967296

the_chain : (old now : PagesView) (current next count : ℕ) (free bytes : List ℕ) → Whole old now current next count free bytes → (next ≢ 0) × (chain_at count now.page next ≡ Some bytes)
the_chain old now current next count free bytes w =
    elim w.pieces.pieces [
      | inl none_ ↦ absurd (omega (arith, w.long, ap (λ (b : List ℕ). length b) none_.2))
      | inr some ↦ some
    ]

at_page : (next : ℕ) → page_of (next * 65536 + 65535) ≡ next
at_page next = omega arith

is_one : (next : ℕ) → is_chain (next * 65536 + 65535) ≡ true
is_one next = let is : slot_of (next * 65536 + 65535) ≡ 65535 = omega arith in eq-eqb (slot_of (next * 65536 + 65535)) 65535 is

its_chain : (old now : PagesView) (current next count : ℕ) (free bytes : List ℕ) → Whole old now current next count free bytes → pages_of now.page (next * 65536 + 65535) ≡ chain_pages count now.page next
its_chain old now current next count free bytes w =
    pages_chain now.page (next * 65536 + 65535) (is_one next)
    ∙ ap (λ (n : ℕ). chain_pages 17 now.page n) (at_page next)
    ∙ (chain_longer count 17 now.page next bytes w.few (the_chain old now current next count free bytes w).1).1

chain_there : (old now : PagesView) (current next count : ℕ) (free bytes : List ℕ) → Whole old now current next count free bytes → record_at now.page (next * 65536 + 65535) ≡ Some bytes
chain_there old now current next count free bytes w =
    record_chain now.page (next * 65536 + 65535) (omega (arith, at_page next, w.low)) (is_one next)
    ∙ ap (λ (n : ℕ). long_enough (chain_at 17 now.page n)) (at_page next)
    ∙ ap (λ (o : Option (List ℕ)). long_enough o) (chain_longer count 17 now.page next bytes w.few (the_chain old now current next count free bytes w).1).0
    ∙ fits bytes w.long w.short

-- no page of the pieces is one of a place that was spoken of
not_mine : (old now : PagesView) (current next count : ℕ) (free bytes : List ℕ) → Whole old now current next count free bytes → (other : ℕ) (earlier : List ℕ) → Holds old other earlier → (n : ℕ) → Among (chain_pages count now.page next) n → Among (pages_of old.page other) n → ⊥
not_mine old now current next count free bytes w other earlier holds n mine theirs =
    each_at (λ k. k ≢ n) (pages_of old.page other) n (not_new old n other earlier (w.pieces.origin n mine).1 holds) theirs refl

others_keep : (old now : PagesView) (current next count : ℕ) (free bytes : List ℕ) → Whole old now current next count free bytes → (other : ℕ) (earlier : List ℕ) → Holds old other earlier → StillHolds old now other earlier
others_keep old now current next count free bytes w other earlier holds =
    holds_still old now other earlier w.pieces.grows holds
    (each_from (λ n. now.page n ≡ old.page n) (pages_of old.page other) (λ n theirs. w.pieces.stays n (λ mine. not_mine old now current next count free bytes w other earlier holds n mine theirs)))

-- a slot of a page of the pieces has no record
piece_none : (old now : PagesView) (current next count : ℕ) (free bytes : List ℕ) → Whole old now current next count free bytes → (other : ℕ) → is_chain other ≡ false → Among (chain_pages count now.page next) (page_of other) → record_at now.page other ≡ None
piece_none old now current next count free bytes w other no_ mine =
    let n = page_of other in
    let form = each_at (λ k. is_overflow_page k (now.page k) ≡ true) (chain_pages count now.page next) n (each_formed count now.page next bytes (the_chain old now current next count free bytes w).1) mine in
    let bad : record_in n (now.page n) (slot_of other) ≡ None =
    elim (cases_Bool (is_record_page n (now.page n))) [
      | inl record_ ↦ absurd (overflow_not_record n n (now.page n) form record_)
      | inr bad_ ↦ unformed n (now.page n) (slot_of other) bad_
    ] in
    elim (cases_lt n 4294967296) [
      | inl low ↦ record_slot now.page other low no_ ∙ bad
      | inr past ↦ far now.page other past
    ]

slots_keep : (old now : PagesView) (current next count : ℕ) (free bytes : List ℕ) → Whole old now current next count free bytes → (other : ℕ) → is_chain other ≡ false → InUse now (page_of other) → SlotStays old now other
slots_keep old now current next count free bytes w other no_ inside =
    let n = page_of other in
    elim (among_or_not (chain_pages count now.page next) n) [
      | inl mine ↦
          let none_ = piece_none old now current next count free bytes w other no_ mine in
          ((λ was. none_ ∙ sym (was_none old n other (w.pieces.origin n mine).1 no_ refl was)), (λ out. none_))
      | inr out_ ↦ (
        (λ was. slot_equal old.page now.page other no_ (ap (λ (p : List ℕ). record_in n p (slot_of other)) (w.pieces.stays n out_))),
        (λ out. elim (w.pieces.taken n (inr (later old.fresh n inside.0 out, inside.1))) [
          | inl among ↦ absurd (out (in_use_of old old.free free n w.heap.chain (w.pieces.fewer n among)))
          | inr mine ↦ absurd (out_ mine)
        ]),
      )
    ]

not_for_records : (old : PagesView) (current : ℕ) → IsNew old current → InUse old current → is_record_page current (old.page current) ≡ true → ⊥
not_for_records old current (inl link) was form = free_not_record current current link.0 (old.page current) link.1 form
not_for_records old current (inr past) was form = omega (arith, past, was.1)

-- the page for new records isn't one of the pieces
page_stays : (old now : PagesView) (current next count : ℕ) (free bytes : List ℕ) → Whole old now current next count free bytes → IsForRecords old current → IsForRecords now current
page_stays old now current next count free bytes w (inl none_) = inl none_
page_stays old now current next count free bytes w (inr form) =
    elim w.heap.page [
      | inl none_ ↦ inl none_
      | inr was ↦ inr (subst (λ (p : List ℕ). is_record_page current p ≡ true) (sym (w.pieces.stays current (λ mine. not_for_records old current (w.pieces.origin current mine).1 was form))) form)
    ]

pub first_of_more : (most : ℕ) (pages : ℕ → List ℕ) (number : ℕ) → Among (chain_pages (suc most) pages number) number
unfolding chain_pages
first_of_more most pages number = inl refl

pub first_page : (count : ℕ) (pages : ℕ → List ℕ) (number : ℕ) (bytes : List ℕ) → chain_at count pages number ≡ Some bytes → Among (chain_pages count pages number) number
first_page zero pages number bytes is = absurd (nothing bytes _ (none_at_0 pages number) is)
first_page (suc count) pages number bytes is = first_of_more count pages number

-- a long record that was put
pub long_puts : (old now : PagesView) (current next count : ℕ) (free bytes : List ℕ) → Whole old now current next count free bytes → Puts old now current current free bytes (next * 65536 + 65535)
long_puts old now current next count free bytes w =
    let c = w.pieces in
    let mine = its_chain old now current next count free bytes w in
    let chain = the_chain old now current next count free bytes w in
    let first = first_page count now.page next bytes chain.1 in
    let place = next * 65536 + 65535 in
    record {
      holds = record {
        at = chain_there old now current next count free bytes w;
        pages = subst (λ (l : List ℕ). Each (InUse now) l) (sym mine) (each_from (InUse now) (chain_pages count now.page next) (λ n among. (c.origin n among).0));
      };
      owns = λ n among. inr (c.owns n (subst (λ (l : List ℕ). Among l n) mine among));
      grows = c.grows;
      takes = let was = c.takes in let few = w.few in omega arith;
      unlisted = λ earlier holds. not_mine old now current next count free bytes w place earlier holds next first
          (subst (λ (l : List ℕ). Among l next) (sym (pages_chain old.page place (is_one next) ∙ ap (λ (n : ℕ). chain_pages 17 old.page n) (at_page next))) (first_of_more 16 old.page next));
      others = others_keep old now current next count free bytes w;
      apart = λ other earlier holds one two n among theirs.
          not_mine old now current next count free bytes w other earlier holds n (subst (λ (l : List ℕ). Among l n) mine among)
          (subst (λ (l : List ℕ). Among l n) (others_keep old now current next count free bytes w other earlier holds).pages theirs);
      left = c.left;
      heap = record {
        least = omega (arith, w.heap.least, c.grows);
        chain = c.chain;
        page = elim w.heap.page [ inl none_ ↦ inl none_ | inr was ↦ inr (was.0, omega (arith, was.1, c.grows)) ];
      };
      fewer = c.fewer;
      taken = λ n which. elim (c.taken n which) [ inl among ↦ inl among | inr among ↦ inr (subst (λ (l : List ℕ). Among l n) (sym mine) among) ];
      stays = λ n out. c.stays n (λ among. out (subst (λ (l : List ℕ). Among l n) (sym mine) among));
      slots = λ other slotted differs inside. slots_keep old now current next count free bytes w other (false_from_ne_true (is_chain other) slotted) inside;
      records = page_stays old now current next count free bytes w;
    }
