-- Reads of a page that is in memory.
use Rattle.std.proofs.Common.{Ok, refl, arith}
use Rattle.gaz_page.specs.Pages.{PagesView, HasReads}

-- no read at all
pub reads_none : {A : Type 0} (v : PagesView) (a : A) → HasReads 1 v v (Ok a)
reads_none v a = record {
  same = λ sound told. record { pages = refl; free = refl; fresh = refl };
  counts = record { told = refl; read_only = refl; reads_grow = omega arith; reads = omega arith; changed = omega arith };
  unchanged = refl;
  cause = record { grows = omega arith; counted = refl; starved = refl };
}
