use Rattle.gaz_rows.proofs.store.RowStore.get_code.Goals as goal

pub returns-in-Ok-Found-clause-line : goal.returns-in-Ok-Found-clause-line
returns-in-Ok-Found-clause-line g c = rw c.in-Ok-Found.field-0-is at c.in-Ok-Found.ensures.line

pub returns-in-Ok-Free-clause-line : goal.returns-in-Ok-Free-clause-line
returns-in-Ok-Free-clause-line g c = rw c.in-Ok-Free.field-0-is at c.in-Ok-Free.ensures.line
