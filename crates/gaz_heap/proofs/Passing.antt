-- The pages that are taken for a long record, whatever the free chain is, and the damage that a put names.
use Rattle.std.proofs.Common.{◌≡◌, ◌≤◌, ◌<◌, ◌+◌, ℕ, suc, true, List, length, arith, inl, inr, Some, None, refl}
use Rattle.std.specs.Prelude.{Option, Result, Ok, Err}
use Rattle.gaz_page.specs.declared.pages.PageFault.{PageFault}
use Rattle.gaz_page.specs.declared.pages.PageFault.TheVariants.{Failed, Damaged, Memory}
use Rattle.gaz_page.specs.Free.{free_link}
use Rattle.gaz_page.specs.Pages.{PagesView, damage}
use Rattle.gaz_page.specs.Chains.{TakesAlong, TakeMeets}
use Rattle.gaz_page.proofs.Takes.{along_same, along_on, along_taken, take_meets, meets_more}
use Rattle.gaz_slots.specs.Overflow.{is_overflow_page}
use Rattle.gaz_slots.proofs.PageKinds.{free_not_overflow}
use Rattle.gaz_heap.specs.Heap.{StoresPiece, StoresPieceIn, PutDamage}
use Rattle.gaz_heap.specs.Facts.{LongNames, PutNames}

pub along_none : (old : PagesView) → TakesAlong 0 old old
along_none old = along_same old old (record { pages = refl; free = refl; fresh = refl })

none_of : (o : Option ℕ) → ((n : ℕ) → o ≡ Some n → ⊥) → o ≡ None
none_of None no_ = refl
none_of (Some n) no_ = absurd (no_ n refl)

-- an overflow page is no free one
overflow_none : (n : ℕ) (page : List ℕ) → is_overflow_page n page ≡ true → free_link n page ≡ None
overflow_none n page form = none_of (free_link n page) (λ next link. free_not_overflow n n next page link form)

pub along_piece : (old now new : PagesView) (number next turn : ℕ) (piece : List ℕ) → TakesAlong turn old now → StoresPiece number next piece now new → TakesAlong (turn + 1) old new
along_piece old now new number next turn piece a stores =
    along_on turn 1 old now new a (along_taken now new number (record {
      first = stores.taken;
      free = stores.free;
      fresh = stores.fresh;
      now = overflow_none number (new.page number) stores.form;
      others = λ n differs. inl (stores.others n differs);
    }))

-- what one take more meets
meets_17 : (old now : PagesView) (turn page : ℕ) → TakesAlong turn old now → turn < 17 → damage now ≡ Some page → TakeMeets 17 old page
meets_17 old now turn page a few met = meets_more (suc turn) 17 old page (omega (arith, few)) (take_meets turn old now page a met)

pub piece_names : (old now new : PagesView) (turn next : ℕ) (piece : List ℕ) (fault : PageFault) → TakesAlong turn old now → turn < 17 → StoresPieceIn next piece now new (Err fault) → LongNames old (Err fault)
piece_names old now new turn next piece Failed a few d = tt
piece_names old now new turn next piece Memory a few d = tt
piece_names old now new turn next piece (Damaged page) a few d = meets_17 old now turn page a few d

pub short_names : (old : PagesView) (current : ℕ) (bytes : List ℕ) (r : Result ℕ PageFault) → length bytes ≤ 4076 → PutDamage current old r → PutNames old current bytes r
short_names old current bytes (Ok n) short d = tt
short_names old current bytes (Err Failed) short d = tt
short_names old current bytes (Err Memory) short d = tt
short_names old current bytes (Err (Damaged page)) short d =
    elim d [
      | inl bad ↦ inl (short, bad.0, bad.1, bad.2)
      | inr met ↦ inr (meets_17 old old 0 page (along_none old) (omega arith) met)
    ]

pub long_names : (old : PagesView) (current : ℕ) (bytes : List ℕ) (r : Result ℕ PageFault) → LongNames old r → PutNames old current bytes r
long_names old current bytes (Ok n) d = tt
long_names old current bytes (Err Failed) d = tt
long_names old current bytes (Err Memory) d = tt
long_names old current bytes (Err (Damaged page)) d = inr d
