use Rattle.std.proofs.Common.{List, ℕ, sym, subst}
use Rattle.std.specs.Prelude.{Option}
use Rattle.gaz_heap.specs.Heap.{GetsRecord}
use Rattle.gaz_heap.proofs.Placing.{no_place, no_place_shown, chain_place_shown, slot_place_shown, gets_shown}
use Rattle.gaz_heap.proofs.heap.get.Goals as goal

pub returns-then-place-clause-record : goal.returns-then-place-clause-record
returns-then-place-clause-record g c told = no_place (g.P.Pages.view c.args.pages.now).page c.args.place c.if-place.true

pub returns-then-place-clause-shown : goal.returns-then-place-clause-shown
returns-then-place-clause-shown g c told = no_place_shown (g.P.Pages.view c.args.pages.now).page c.args.place c.if-place.true

pub returns-then-slot-eq-CHAIN-clause-shown : goal.returns-then-slot-eq-CHAIN-clause-shown
returns-then-slot-eq-CHAIN-clause-shown g c told =
    subst (λ (o : Option (List ℕ)). GetsRecord o c.get_chain.new.buf c.get_chain.result) (sym (chain_place_shown (g.P.Pages.view c.args.pages.now).page c.args.place c.if-place.false c.if-slot-eq-CHAIN.true)) (c.get_chain.ensures.shown told)

pub returns-then-slot-eq-CHAIN-clause-record : goal.returns-then-slot-eq-CHAIN-clause-record
returns-then-slot-eq-CHAIN-clause-record g c told =
    gets_shown (g.P.Pages.view c.args.pages.now).page c.args.place c.get_chain.new.buf c.get_chain.result (returns-then-slot-eq-CHAIN-clause-shown g c told)

pub returns-else-slot-eq-CHAIN-clause-shown : goal.returns-else-slot-eq-CHAIN-clause-shown
returns-else-slot-eq-CHAIN-clause-shown g c told =
    subst (λ (o : Option (List ℕ)). GetsRecord o c.get_slot.new.buf c.get_slot.result) (sym (slot_place_shown (g.P.Pages.view c.args.pages.now).page c.args.place c.if-place.false c.if-slot-eq-CHAIN.false)) (c.get_slot.ensures.shown told)

pub returns-else-slot-eq-CHAIN-clause-record : goal.returns-else-slot-eq-CHAIN-clause-record
returns-else-slot-eq-CHAIN-clause-record g c told =
    gets_shown (g.P.Pages.view c.args.pages.now).page c.args.place c.get_slot.new.buf c.get_slot.result (returns-else-slot-eq-CHAIN-clause-shown g c told)
