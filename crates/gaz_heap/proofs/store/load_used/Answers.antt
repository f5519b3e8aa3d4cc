use Rattle.std.proofs.Common.{◌≡◌, ℕ, List, false, refl, sym, ◌∙◌, subst}
use Rattle.std.specs.Prelude.{None}
use Rattle.gaz_slots.specs.RecordPage.{is_record_page, record_in}
use Rattle.gaz_slots.proofs.Slots.{slots_fit}
use Rattle.gaz_slots.proofs.Recorded.{formed, unformed}
use Rattle.gaz_heap.proofs.Stored.{unused_record}
use Rattle.gaz_heap.proofs.store.load_used.Goals as goal

pub returns-then-not-is_record_page-clause-damaged : goal.returns-then-not-is_record_page-clause-damaged
returns-then-not-is_record_page-clause-damaged g c told =
    (refl, unformed c.args.number ((g.P.Pages.view c.args.pages.now).page c.args.number) c.args.slot (subst (λ (p : List ℕ). is_record_page c.args.number p ≡ false) (c.in-Ok.ensures.bytes told) (sym c.is_record_page.ensures ∙ c.if-not-is_record_page.true)))

pub is_used-requires-clause-slots : goal.is_used-requires-clause-slots
is_used-requires-clause-slots g c = slots_fit c.args.number c.load.new.page (sym c.is_record_page.ensures ∙ c.if-not-is_record_page.false)

pub returns-then-not-is_used-clause-damaged : goal.returns-then-not-is_used-clause-damaged
returns-then-not-is_used-clause-damaged g c told =
    let form = sym c.is_record_page.ensures ∙ c.if-not-is_record_page.false in
    let unused = sym c.is_used.ensures ∙ c.if-not-is_used.true in
    (refl, subst (λ (p : List ℕ). record_in c.args.number p c.args.slot ≡ None) (c.in-Ok.ensures.bytes told) (formed c.args.number c.load.new.page c.args.slot form ∙ unused_record c.load.new.page c.args.slot unused))
