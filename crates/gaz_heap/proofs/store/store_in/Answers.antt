use Rattle.std.proofs.Common.{◌∙◌, sym}
use Rattle.gaz_heap.proofs.Asked.{told_still}
use Rattle.gaz_heap.proofs.Stored.{stored}
use Rattle.gaz_heap.proofs.store.store_in.Goals as goal

pub returns-in-Ok-write-clause-stores : goal.returns-in-Ok-write-clause-stores
returns-in-Ok-write-clause-stores g c told =
    let v = g.P.Pages.view in
    let asks = c.load.ensures.reads in
    let load = c.in-Ok.ensures in
    let filled = c.in-Some.ensures.filled in
    let still = told_still (v c.args.pages.now) (v c.load.new.pages) asks.counts.told told in (
      stored c.args.number c.in-Some.slot c.args.bytes.now c.load.new.page c.put_in_page.new.page (v c.args.pages.now) (v c.load.new.pages) (v c.write.new.self) (load.reads.same (λ failed. failed) told) (load.bytes told)
          (sym c.is_record_page.ensures ∙ c.if-not-is_record_page.false) filled.0 c.in-Some.ensures.least (c.in-Ok-write.ensures.written still),
      filled.1,
    )
