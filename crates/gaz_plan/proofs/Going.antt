-- What a search leaves, from its questions.
use Rattle.std.proofs.Common.{◌≡◌, ℕ, subst, sym, Result, Ok, Err}
use Rattle.gaz_page.specs.Pages.{PagesView}
use Rattle.gaz_rows.specs.declared.fault.AskFault.{AskFault}
use Rattle.gaz_rows.specs.declared.fault.AskFault.TheVariants.{Failed, Damaged, Memory}
use Rattle.gaz_rows.specs.Store.{HasAsked, IsSound, IsUndamaged, TakesNoMemory}
use Rattle.gaz_kin.specs.Leading.{asked_nothing, one_asked, only_ok, only_err}
use Rattle.gaz_plan.specs.Searched.{HasSearched}

-- a question of a store is one of a search
pub searched : {T : Type 0} (most : ℕ) (old new : PagesView) (result : Result T AskFault) → HasAsked most old new result → HasSearched old new result
searched most old new (Ok given) a = only_ok old new given tt (one_asked most old new (Ok given) a)
searched most old new (Err Failed) a = only_err old new Failed (one_asked most old new (Err Failed) a)
searched most old new (Err (Damaged page)) a = only_err old new (Damaged page) (one_asked most old new (Err (Damaged page)) a)
searched most old new (Err Memory) a = absurd a.no_memory

-- nothing was asked
pub searched_nothing : (T : Type 0) (v : PagesView) → HasSearched {T = T} v v (Err Memory)
searched_nothing T v = (0, asked_nothing v tt)

-- a sound fault is no damage, and nor is the want of memory
pub sound_undamaged : (fault : AskFault) → IsSound fault → IsUndamaged fault
sound_undamaged Failed is = tt
sound_undamaged (Damaged page) is = absurd is
sound_undamaged Memory is = absurd is

pub memory_undamaged : (fault : AskFault) → fault ≡ Memory → IsUndamaged fault
memory_undamaged fault is = subst IsUndamaged (sym is) tt

pub sound_memory : (fault : AskFault) → IsSound fault → TakesNoMemory fault
sound_memory Failed is = tt
sound_memory (Damaged page) is = absurd is
sound_memory Memory is = absurd is
