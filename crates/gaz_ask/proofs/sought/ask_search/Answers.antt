use Rattle.std.proofs.Common.{Result, Ok, Err}
use Rattle.gaz_page.specs.Pages.{PagesView}
use Rattle.gaz_rows.specs.declared.fault.AskFault.{AskFault}
use Rattle.gaz_rows.specs.declared.fault.AskFault.TheVariants.{Failed, Damaged, Memory}
use Rattle.gaz_rows.specs.Store.{FailsOnce}
use Rattle.gaz_plan.specs.Searched.{HasSearched}
use Rattle.gaz_ask.proofs.sought.ask_search.Goals as goal

-- the count of faults stands where memory for names is wanting
fails_once : {T : Type 0} (old new : PagesView) (result : Result T AskFault) → HasSearched old new result → FailsOnce old.faults new.faults result
fails_once old new (Ok given) s = s.1.cause.counted
fails_once old new (Err Failed) s = s.1.cause.counted
fails_once old new (Err (Damaged page)) s = s.1.cause.counted
fails_once old new (Err Memory) s = s.1.cause.counted

pub returns-clause-leaves : goal.returns-clause-leaves
returns-clause-leaves g c = record {
  reads = c.search.ensures.keeps.2;
  cause = fails_once _ _ c.search.result c.search.ensures.asked;
}
