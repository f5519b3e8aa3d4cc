-- A long record was dropped, page after page: what becomes of all others.
use Rattle.std.proofs.Common.{◌≡◌, ◌≢◌, ◌≤◌, ◌<◌, ◌+◌, ◌-◌, ℕ, zero, suc, true, false, List, [], ◌∷◌, length, refl, sym, ap, ◌∙◌, subst, arith, inl, inr, Some, None}
use Rattle.std.specs.Prelude.{Option}
use Rattle.std.proofs.lemmas.Bool.{cases_Bool, cases_lt, false_from_ne_true}
use Rattle.gaz_page.specs.Pages.{PagesView, Gives}
use Rattle.gaz_slots.specs.RecordPage.{record_in, is_record_page}
use Rattle.gaz_slots.specs.Overflow.{is_overflow_page, next_in}
use Rattle.gaz_heap.specs.Chain.{chain_at, chain_pages, long_enough}
use Rattle.gaz_heap.specs.Place.{record_at, pages_of, page_of, slot_of, is_chain}
use Rattle.gaz_page.specs.Chains.{Each, Among, InUse, IsFreeChain}
use Rattle.gaz_heap.specs.Facts.{IsHeap, Holds, StillHolds, ShareNone, IsForRecords, Drops, Given}
use Rattle.gaz_slots.proofs.PageKinds.{overflow_not_record, free_not_record, free_not_overflow}
use Rattle.gaz_slots.proofs.Recorded.{unformed}
use Rattle.gaz_heap.proofs.Holds.{each_more, each_formed, far, record_slot, pages_slot, pages_chain, holds_still, nothing, none_at_0, step_of, ends, goes, pages_last, pages_more, chain_of, record_chain}
use Rattle.gaz_page.proofs.FreeChains.{free_still, free_in}
use Rattle.gaz_heap.proofs.StoredPuts.{slot_equal}
use Rattle.gaz_heap.proofs.Chain.{chain_unformed}
use Rattle.gaz_heap.proofs.LongPuts.{each_at, each_from, chain_longer, among_or_not, first_page, first_of_more}

-- the chain from one of its pages on
sub_chain : (most : ℕ) (pages : ℕ → List ℕ) (number n : ℕ) (bytes : List ℕ) → chain_at most pages number ≡ Some bytes → Among (chain_pages most pages number) n
    → (k : ℕ) × (part_ : List ℕ) × (chain_at k pages n ≡ Some part_) × (length (chain_pages k pages n) ≤ length (chain_pages most pages number))
sub_chain zero pages number n bytes is among = absurd (nothing bytes _ (none_at_0 pages number) is)
sub_chain (suc most) pages number n bytes is among =
    elim (step_of most pages number bytes is) [
      | ends last same ↦
          elim (subst (λ (l : List ℕ). Among l n) (pages_last most pages number last) among) [
            | inl here ↦ (suc most, bytes, ap (λ (k : ℕ). chain_at (suc most) pages k) here ∙ is, omega (arith, ap (λ (k : ℕ). length (chain_pages (suc most) pages k)) here))
            | inr never ↦ absurd never
          ]
      | goes onward full rest there same ↦
          let more = pages_more most pages number onward in
          elim (subst (λ (l : List ℕ). Among l n) more among) [
            | inl here ↦ (suc most, bytes, ap (λ (k : ℕ). chain_at (suc most) pages k) here ∙ is, omega (arith, ap (λ (k : ℕ). length (chain_pages (suc most) pages k)) here))
            | inr later ↦
                let r = sub_chain most pages (next_in (pages number)) n rest there later in
                let longer : length (chain_pages (suc most) pages number) ≡ length (number ∷ chain_pages most pages (next_in (pages number))) = ap (λ (l : List ℕ). length l) more in
                (r.0, r.1, r.2, omega (arith, r.3, longer))
          ]
    ]

same_length : (a b : ℕ) (pages : ℕ → List ℕ) (number : ℕ) (one other : List ℕ) → chain_at a pages number ≡ Some one → chain_at b pages number ≡ Some other → length (chain_pages a pages number) ≡ length (chain_pages b pages number)
same_length a b pages number one other x y =
    elim (cases_lt a b) [
      | inl less ↦ sym (ap (λ (l : List ℕ). length l) (chain_longer a b pages number one (omega arith) x).1)
      | inr more ↦ ap (λ (l : List ℕ). length l) (chain_longer b a pages number other more y).1
    ]

-- no page of a chain comes twice
pub not_twice : (most : ℕ) (pages : ℕ → List ℕ) (number : ℕ) (bytes rest : List ℕ) → chain_at (suc most) pages number ≡ Some bytes → next_in (pages number) ≢ 0 → chain_at most pages (next_in (pages number)) ≡ Some rest
    → Among (chain_pages most pages (next_in (pages number))) number → ⊥
not_twice most pages number bytes rest is onward there among =
    let r = sub_chain most pages (next_in (pages number)) number rest there among in
    let more : length (chain_pages (suc most) pages number) ≡ length (number ∷ chain_pages most pages (next_in (pages number))) = ap (λ (l : List ℕ). length l) (pages_more most pages number onward) in
    let same = same_length (suc most) r.0 pages number bytes r.1 is r.2 in
    omega (arith, r.3, more, same)

pub given_none : (old : PagesView) (free whole : List ℕ) → IsFreeChain old old.free free → Given old old free whole whole
given_none old free whole chain = record {
  after = free;
  fresh = refl;
  chain = chain;
  more = λ n among. among;
  given = λ n among. inl among;
  all = λ n among. inr among;
  within = λ n among. among;
  stays = λ n out. refl;
  stand = λ n among. refl;
}

-- no free page is an overflow page in form
free_differs : (v : PagesView) (number first : ℕ) (free : List ℕ) → is_overflow_page number (v.page number) ≡ true → IsFreeChain v first free → Each (λ n. n ≢ number) free
free_differs v number first [] form chain = tt
free_differs v number first (n ∷ rest) form chain =
    let link = chain.2 in
    (λ is. free_not_overflow n number link.0 (v.page n) link.1 (subst (λ (m : ℕ). is_overflow_page number (v.page m) ≡ true) (sym is) form), free_differs v number link.0 rest form link.2)

pub given_more : (old now new : PagesView) (free whole left : List ℕ) (number : ℕ) → Given old now free whole (number ∷ left) → (Among left number → ⊥) → is_overflow_page number (now.page number) ≡ true → InUse old number → Gives number now new
    → Given old new free whole left
given_more old now new free whole left number d once form used g =
    let grows : now.fresh ≤ new.fresh = omega (arith, g.fresh) in
    let mine = d.within number (inl refl) in
    let chain = free_still now new now.free d.after grows d.chain (each_more (λ n. n ≢ number) (λ n. new.page n ≡ now.page n) d.after g.others (free_differs now number now.free d.after form d.chain)) in
    record {
      after = number ∷ d.after;
      fresh = g.fresh ∙ d.fresh;
      chain = (g.free, (used.0, omega (arith, used.1, g.fresh, d.fresh)), (now.free, g.linked, chain));
      more = λ n among. inr (d.more n among);
      given = λ n among. elim among [ inl is ↦ inr (subst (λ (k : ℕ). Among whole k) (sym is) mine) | inr later ↦ d.given n later ];
      all = λ n among. elim (d.all n among) [
        | inl was ↦ inl (inr was)
        | inr rest ↦ elim rest [ inl is ↦ inl (inl is) | inr later ↦ inr later ]
      ];
      within = λ n among. d.within n (inr among);
      stays = λ n out. g.others n (λ is. out (subst (λ (k : ℕ). Among whole k) (sym is) mine)) ∙ d.stays n out;
      stand = λ n among. g.others n (λ is. once (subst (λ (k : ℕ). Among left k) is among)) ∙ d.stand n (inr among);
    }

-- a free page is no record page, and no overflow page
not_record : (number slot : ℕ) (page : List ℕ) → (is_record_page number page ≡ true → ⊥) → record_in number page slot ≡ None
not_record number slot page no_ =
    elim (cases_Bool (is_record_page number page)) [
      | inl form ↦ absurd (no_ form)
      | inr bad ↦ unformed number page slot bad
    ]

slot_nothing : (v : PagesView) (place : ℕ) → is_chain place ≡ false → (is_record_page (page_of place) (v.page (page_of place)) ≡ true → ⊥) → record_at v.page place ≡ None
slot_nothing v place no_ bad =
    elim (cases_lt (page_of place) 4294967296) [
      | inl low ↦ record_slot v.page place low no_ ∙ not_record (page_of place) (slot_of place) (v.page (page_of place)) bad
      | inr past ↦ far v.page place past
    ]

-- all pages of a long record were given
pub record AllGiven (old new : PagesView) (free bytes : List ℕ) (place current : ℕ) : Type 0 where
  pub gave : Given old new free (chain_pages 17 old.page (page_of place)) []
  pub heap : IsHeap old current free
  pub holds : Holds old place bytes
  pub long : is_chain place ≡ true

mine_is : (old new : PagesView) (free bytes : List ℕ) (place current : ℕ) → AllGiven old new free bytes place current → pages_of old.page place ≡ chain_pages 17 old.page (page_of place)
mine_is old new free bytes place current w = pages_chain old.page place w.long

was_overflow : (old new : PagesView) (free bytes : List ℕ) (place current n : ℕ) → AllGiven old new free bytes place current → Among (chain_pages 17 old.page (page_of place)) n → is_overflow_page n (old.page n) ≡ true
was_overflow old new free bytes place current n w among =
    each_at (λ k. is_overflow_page k (old.page k) ≡ true) (chain_pages 17 old.page (page_of place)) n (each_formed 17 old.page (page_of place) bytes (chain_of old.page place bytes w.long w.holds.at)) among

after_all : (old new : PagesView) (free bytes : List ℕ) (place current n : ℕ) (w : AllGiven old new free bytes place current) → Among (chain_pages 17 old.page (page_of place)) n → Among w.gave.after n
after_all old new free bytes place current n w among = elim (w.gave.all n among) [ inl is ↦ is | inr never ↦ absurd never ]

others_still : (old new : PagesView) (free bytes : List ℕ) (place current : ℕ) → AllGiven old new free bytes place current → (other : ℕ) (earlier : List ℕ) → Holds old other earlier → ShareNone old place other → StillHolds old new other earlier
others_still old new free bytes place current w other earlier holds share =
    let whole = chain_pages 17 old.page (page_of place) in
    let mine = mine_is old new free bytes place current w in
    let out : (n : ℕ) → Among (pages_of old.page other) n → Among whole n → ⊥ = λ n theirs here.
    elim (cases_Bool (is_chain other)) [
      | inl chain ↦ share w.long chain n (subst (λ (l : List ℕ). Among l n) (sym mine) here) theirs
      | inr no_ ↦
          let is : n ≡ page_of other = elim (subst (λ (l : List ℕ). Among l n) (pages_slot old.page other no_) theirs) [ inl is_ ↦ is_ | inr never ↦ absurd never ] in
          let form = subst (λ (k : ℕ). is_overflow_page k (old.page k) ≡ true) is (was_overflow old new free bytes place current n w here) in
          nothing earlier (record_at old.page other) (slot_nothing old other no_ (λ record_. overflow_not_record (page_of other) (page_of other) (old.page (page_of other)) form record_)) holds.at
    ] in
    holds_still old new other earlier (omega (arith, w.gave.fresh)) holds
    (each_from (λ n. new.page n ≡ old.page n) (pages_of old.page other) (λ n theirs. w.gave.stays n (out n theirs)))

slots_still : (old new : PagesView) (free bytes : List ℕ) (place current : ℕ) → AllGiven old new free bytes place current → (other : ℕ) → is_chain other ≡ false → record_at new.page other ≡ record_at old.page other
slots_still old new free bytes place current w other no_ =
    let whole = chain_pages 17 old.page (page_of place) in
    elim (among_or_not whole (page_of other)) [
      | inl here ↦
          let form = was_overflow old new free bytes place current (page_of other) w here in
          let link = free_in new new.free w.gave.after (page_of other) w.gave.chain (after_all old new free bytes place current (page_of other) w here) in
          slot_nothing new other no_ (λ record_. free_not_record (page_of other) (page_of other) link.0 (new.page (page_of other)) link.1 record_)
          ∙ sym (slot_nothing old other no_ (λ record_. overflow_not_record (page_of other) (page_of other) (old.page (page_of other)) form record_))
      | inr out ↦ slot_equal old.page new.page other no_ (ap (λ (p : List ℕ). record_in (page_of other) p (slot_of other)) (w.gave.stays (page_of other) out))
    ]

is_gone : (old new : PagesView) (free bytes : List ℕ) (place current : ℕ) → AllGiven old new free bytes place current → record_at new.page place ≡ None
is_gone old new free bytes place current w =
    let n = page_of place in
    let first = first_page 17 old.page n bytes (chain_of old.page place bytes w.long w.holds.at) in
    let link = free_in new new.free w.gave.after n w.gave.chain (after_all old new free bytes place current n w first) in
    elim (cases_lt n 4294967296) [
      | inr past ↦ far new.page place past
      | inl low ↦
          let none_ : chain_at 17 new.page n ≡ None =
          elim (cases_Bool (is_overflow_page n (new.page n))) [
            | inl form ↦ absurd (free_not_overflow n n link.0 (new.page n) link.1 form)
            | inr bad ↦ chain_unformed 17 new.page n bad
          ] in
          record_chain new.page place low w.long ∙ ap (λ (o : Option (List ℕ)). long_enough o) none_
    ]

records_still : (old new : PagesView) (free bytes : List ℕ) (place current : ℕ) → AllGiven old new free bytes place current → IsForRecords old current → IsForRecords new current
records_still old new free bytes place current w (inl none_) = inl none_
records_still old new free bytes place current w (inr form) =
    inr (subst (λ (p : List ℕ). is_record_page current p ≡ true) (sym (w.gave.stays current (λ here. overflow_not_record current current (old.page current) (was_overflow old new free bytes place current current w here) form))) form)

pub chain_drops : (old new : PagesView) (free bytes : List ℕ) (place current : ℕ) → AllGiven old new free bytes place current → Drops old new current free place
chain_drops old new free bytes place current w =
    let mine = mine_is old new free bytes place current w in
    record {
      gone = is_gone old new free bytes place current w;
      others = λ other earlier holds differs share. others_still old new free bytes place current w other earlier holds share;
      after = w.gave.after;
      heap = record {
        least = omega (arith, w.heap.least, w.gave.fresh);
        chain = w.gave.chain;
        page = elim w.heap.page [ inl none_ ↦ inl none_ | inr was ↦ inr (was.0, omega (arith, was.1, w.gave.fresh)) ];
      };
      more = w.gave.more;
      given = λ n among. elim (w.gave.given n among) [ inl was ↦ inl was | inr here ↦ inr (subst (λ (l : List ℕ). Among l n) (sym mine) here) ];
      emptied = λ n among away empty. after_all old new free bytes place current n w (subst (λ (l : List ℕ). Among l n) mine among);
      whole = λ long n among. after_all old new free bytes place current n w (subst (λ (l : List ℕ). Among l n) mine among);
      stays = λ n out. w.gave.stays n (λ here. out (subst (λ (l : List ℕ). Among l n) (sym mine) here));
      fresh = w.gave.fresh;
      slots = λ other slotted differs. slots_still old new free bytes place current w other (false_from_ne_true (is_chain other) slotted);
      records = records_still old new free bytes place current w;
    }

-- where a chain goes on from a page, or ends with it
pub chain_next : (most : ℕ) (pages : ℕ → List ℕ) (number : ℕ) (bytes : List ℕ) → chain_at (suc most) pages number ≡ Some bytes → next_in (pages number) ≢ 0
    → ((rest : List ℕ) × (chain_at most pages (next_in (pages number)) ≡ Some rest)) × (chain_pages (suc most) pages number ≡ number ∷ chain_pages most pages (next_in (pages number)))
chain_next most pages number bytes is onward =
    elim (step_of most pages number bytes is) [
      | ends last same ↦ absurd (onward last)
      | goes more full rest there same ↦ ((rest, there), pages_more most pages number onward)
    ]

pub chain_last_page : (most : ℕ) (pages : ℕ → List ℕ) (number : ℕ) → next_in (pages number) ≡ 0 → chain_pages (suc most) pages number ≡ number ∷ []
chain_last_page most pages number last = pages_last most pages number last

-- one page more of a chain is given, and the chain goes on
pub step_given : (turn : ℕ) (old now new : PagesView) (free whole rest : List ℕ) (page next : ℕ) → turn < 17 → Given old now free whole (chain_pages (17 - turn) old.page page) → chain_at (17 - turn) old.page page ≡ Some rest
    → is_overflow_page page (now.page page) ≡ true → next_in (now.page page) ≡ next → Gives page now new → Each (InUse old) whole → next ≢ 0
    → Given old new free whole (chain_pages (17 - (turn + 1)) old.page next) × ((r : List ℕ) × (chain_at (17 - (turn + 1)) old.page next ≡ Some r))
step_given turn old now new free whole rest page next low d there form link gives used onward =
    let m = 16 - turn in
    let turns : 17 - turn ≡ suc m = omega arith in
    let later : m ≡ 17 - (turn + 1) = omega arith in
    let there_ = subst (λ (k : ℕ). chain_at k old.page page ≡ Some rest) turns there in
    let d_ = subst (λ (k : ℕ). Given old now free whole (chain_pages k old.page page)) turns d in
    let e = d_.stand page (first_of_more m old.page page) in
    let link_ : next_in (old.page page) ≡ next = ap (λ (p : List ℕ). next_in p) (sym e) ∙ link in
    let more : next_in (old.page page) ≢ 0 = λ zero_. onward (sym link_ ∙ zero_) in
    let n = chain_next m old.page page rest there_ more in
    let d_2 = subst (λ (l : List ℕ). Given old now free whole l) n.1 d_ in
    let once = not_twice m old.page page rest n.0.0 there_ more n.0.1 in
    let inside = each_at (InUse old) whole page used (d_2.within page (inl refl)) in
    let g = given_more old now new free whole (chain_pages m old.page (next_in (old.page page))) page d_2 once form inside gives in (
      subst (λ (k : ℕ). Given old new free whole (chain_pages k old.page next)) later (subst (λ (k : ℕ). Given old new free whole (chain_pages m old.page k)) link_ g),
      (n.0.0, subst (λ (k : ℕ). chain_at k old.page next ≡ Some n.0.0) later (subst (λ (k : ℕ). chain_at m old.page k ≡ Some n.0.0) link_ n.0.1)),
    )

pub last_given_page : (turn : ℕ) (old now new : PagesView) (free whole : List ℕ) (page next : ℕ) → turn < 17 → Given old now free whole (chain_pages (17 - turn) old.page page)
    → is_overflow_page page (now.page page) ≡ true → next_in (now.page page) ≡ next → Gives page now new → Each (InUse old) whole → next ≡ 0 → Given old new free whole []
last_given_page turn old now new free whole page next low d form link gives used last =
    let m = 16 - turn in
    let turns : 17 - turn ≡ suc m = omega arith in
    let d_ = subst (λ (k : ℕ). Given old now free whole (chain_pages k old.page page)) turns d in
    let e = d_.stand page (first_of_more m old.page page) in
    let link_ : next_in (old.page page) ≡ 0 = ap (λ (p : List ℕ). next_in p) (sym e) ∙ link ∙ last in
    let d_2 = subst (λ (l : List ℕ). Given old now free whole l) (chain_last_page m old.page page link_) d_ in
    let inside = each_at (InUse old) whole page used (d_2.within page (inl refl)) in
    given_more old now new free whole [] page d_2 (λ never. never) form inside gives
