use Rattle.gaz_rows.proofs.store.RowStore.slot_of.Goals as goal

pub returns-in-Ok-Found-clause-slot : goal.returns-in-Ok-Found-clause-slot
returns-in-Ok-Found-clause-slot g c = rw c.in-Ok-Found.field-0-is at c.in-Ok-Found.ensures.slot

pub returns-in-Ok-Free-clause-slot : goal.returns-in-Ok-Free-clause-slot
returns-in-Ok-Free-clause-slot g c = rw c.in-Ok-Free.field-0-is at c.in-Ok-Free.ensures.slot
