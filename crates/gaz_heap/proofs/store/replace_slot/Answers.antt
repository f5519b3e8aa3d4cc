use Rattle.gaz_heap.proofs.Asked.{told_still}
use Rattle.gaz_heap.proofs.SlotReplaces.{slot_replaced}
use Rattle.gaz_heap.proofs.store.replace_slot.Goals as goal

pub returns-in-Ok-write-clause-replaces : goal.returns-in-Ok-write-clause-replaces
returns-in-Ok-write-clause-replaces g c told =
    let v = g.P.Pages.view in
    let load = c.in-Ok.ensures in
    let still = told_still (v c.args.pages.now) (v c.load_used.new.pages) c.load_used.ensures.reads.counts.told told in
    slot_replaced c.args.number c.args.slot c.args.bytes.now c.load_used.new.page c.replace.new.page (v c.args.pages.now) (v c.load_used.new.pages) (v c.write.new.self) (load.reads.same (λ failed. failed) told) (load.bytes told) load.form load.used
    (c.replace.ensures.replaced c.if-not-replace.false) (c.in-Ok-write.ensures.written still)
