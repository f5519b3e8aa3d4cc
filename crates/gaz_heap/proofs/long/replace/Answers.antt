use Rattle.std.proofs.Common.{◌<◌, arith}
use Rattle.std.proofs.lemmas.Bool.{eq-eqb, ne_eqb, false_from_ne_true}
use Rattle.gaz_heap.specs.Place.{page_of, slot_of, is_chain}
use Rattle.gaz_heap.proofs.Placing.{no_place}
use Rattle.gaz_heap.proofs.SlotReplaces.{replaces_of, damage_of, fits_of, not_short}
use Rattle.gaz_heap.proofs.long.replace.Goals as goal
use Rattle.gaz_heap.proofs.long.replace.Goals.{then-slot-eq-CHAIN-via-then-slot-eq-CHAIN, then-slot-eq-CHAIN-via-else-slot-eq-CHAIN+then-bytes-gt-SHORT}

pub returns-then-place-clause-damaged : goal.returns-then-place-clause-damaged
returns-then-place-clause-damaged g c told = no_place (g.P.Pages.view c.args.pages.now).page c.args.place c.if-place.true

pub returns-then-slot-eq-CHAIN-clause-fits : goal.returns-then-slot-eq-CHAIN-clause-fits
returns-then-slot-eq-CHAIN-clause-fits g c told earlier is slotted less =
    let place = c.args.place in
    let low : page_of place < 4294967296 = omega (arith, c.if-place.false) in
    elim c.then-slot-eq-CHAIN.branch [
      | then-slot-eq-CHAIN-via-then-slot-eq-CHAIN w ↦ absurd (slotted (eq-eqb (slot_of place) 65535 w.if-slot-eq-CHAIN.true))
      | then-slot-eq-CHAIN-via-else-slot-eq-CHAIN+then-bytes-gt-SHORT w ↦
          let short = not_short (g.P.Pages.view c.args.pages.now).page place earlier low (false_from_ne_true (is_chain place) slotted) is in
          absurd (omega (arith, w.if-bytes-gt-SHORT.true, short, less))
    ]

pub returns-clause-replaces : goal.returns-clause-replaces
returns-clause-replaces g c told =
    let place = c.args.place in
    let low : page_of place < 4294967296 = omega (arith, c.if-place.false) in
    replaces_of (g.P.Pages.view c.args.pages.now) (g.P.Pages.view c.replace_slot.new.pages) place c.args.bytes.now c.replace_slot.result low (ne_eqb (slot_of place) 65535 c.if-slot-eq-CHAIN.false) (c.replace_slot.ensures.replaces told)

pub returns-clause-fits : goal.returns-clause-fits
returns-clause-fits g c told earlier is slotted less =
    let place = c.args.place in
    let low : page_of place < 4294967296 = omega (arith, c.if-place.false) in
    fits_of (g.P.Pages.view c.args.pages.now) (g.P.Pages.view c.replace_slot.new.pages) place c.args.bytes.now earlier c.replace_slot.result low (ne_eqb (slot_of place) 65535 c.if-slot-eq-CHAIN.false) (c.replace_slot.ensures.replaces told) is less

pub returns-clause-damaged : goal.returns-clause-damaged
returns-clause-damaged g c told =
    damage_of (g.P.Pages.view c.args.pages.now) (g.P.Pages.view c.replace_slot.new.pages) c.args.place c.args.bytes.now c.replace_slot.result c.if-place.false c.if-slot-eq-CHAIN.false (c.replace_slot.ensures.replaces told)
