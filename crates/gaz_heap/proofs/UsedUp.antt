-- The damage that a put meets.
use Rattle.std.proofs.Common.{◌<◌, ℕ, List, length, ap, arith, inl, inr}
use Rattle.std.specs.Prelude.{Result, Ok, Err}
use Rattle.gaz_page.specs.declared.pages.PageFault.{PageFault}
use Rattle.gaz_page.specs.declared.pages.PageFault.TheVariants.{Failed, Damaged, Memory}
use Rattle.gaz_page.specs.Pages.{PagesView}
use Rattle.gaz_page.proofs.TakeDamages.{take_damage}
use Rattle.gaz_heap.specs.Heap.{PutDamage, StoresPieceIn}
use Rattle.gaz_heap.specs.Facts.{IsHeap, PutFails, LongFails}
use Rattle.gaz_heap.proofs.LongPuts.{Chaining}

pub short_fails : (old : PagesView) (current : ℕ) (free : List ℕ) (r : Result ℕ PageFault) → IsHeap old current free → PutDamage current old r → PutFails old current free r
short_fails old current free (Ok n) heap d = tt
short_fails old current free (Err Failed) heap d = tt
short_fails old current free (Err Memory) heap d = tt
short_fails old current free (Err (Damaged page)) heap d =
    elim d [
      | inl bad ↦ inl bad
      | inr met ↦
          let n = take_damage old free page heap.chain met in
          let none_ = ap (λ (l : List ℕ). length l) n.none_free in
          inr (n.named, (omega (arith, n.last), omega (arith, none_)))
    ]

pub piece_fails : (old now new : PagesView) (free rest piece : List ℕ) (next count : ℕ) (fault : PageFault) → Chaining old now free next count rest → count < 17 → StoresPieceIn next piece now new (Err fault) → LongFails old free (Err fault)
piece_fails old now new free rest piece next count Failed c low d = tt
piece_fails old now new free rest piece next count Memory c low d = tt
piece_fails old now new free rest piece next count (Damaged page) c low d =
    let n = take_damage now c.left page c.chain d in
    let none_ = ap (λ (l : List ℕ). length l) n.none_free in
    let takes = c.takes in
    let grows = c.grows in
    let last = n.last in
    (n.named, (omega arith, omega arith))

pub long_fails : (old : PagesView) (current : ℕ) (free : List ℕ) (r : Result ℕ PageFault) → LongFails old free r → PutFails old current free r
long_fails old current free (Ok n) d = tt
long_fails old current free (Err Failed) d = tt
long_fails old current free (Err Memory) d = tt
long_fails old current free (Err (Damaged page)) d = inr d
