use Rattle.std.proofs.Common.{refl, sym, ap, subst, ◌∙◌, ◌-◌, ◌≡◌, true, false}
use Rattle.gaz_page.specs.declared.tree_root.Root.{Root}
use Rattle.gaz_keys.specs.Lines.{more_keys}
use Rattle.std.specs.Prelude.{Some}
use Rattle.gaz_heap.specs.Place.{record_at}
use Rattle.gaz_rows.specs.Stands.{places_in}
use Rattle.gaz_rows.specs.Steps.{counted, recounted}
use Rattle.gaz_rows.specs.Work.{ChangesFew}
use Rattle.gaz_rows.specs.Stepping.{StandsAt, most_between}
use Rattle.gaz_rows.specs.Change.{HasGone, HasReplaced}
use Rattle.std.proofs.lemmas.Slice.Eq.{bytes_eq-Decides}
use Rattle.gaz_rows.proofs.Working.{map_ok, both_ok}
use Rattle.gaz_rows.proofs.SteppedOver.{put_is_none, put_is_line, still, go_over, replace_over, same_over, laid_over, there_over}
use Rattle.gaz_rows.proofs.store.RowStore.change.Goals as goal

pub returns-then-is_delete-clause-stands : goal.returns-then-is_delete-clause-stands
returns-then-is_delete-clause-stands g c =
    let v = g.P.Pages.view c.args.self.now.pages in
    let new = g.P.Pages.view c.go.new.self.pages in
    let root = c.args.self.now.root in
    let last = c.go.new.self.root in
    let table = c.table_of.ensures in
    both_ok c.go.result
    (λ gone count told gaz stands over at one.
    go_over gaz v root stands c.args.kind c.args.line.now c.args.key.now one c.requires.accepted c.requires.keyed over new last c.args.place c.args.was.now
    (sym c.is_delete.ensures ∙ c.if-is_delete.true) at
    (subst (λ t. HasGone v new last stands.pairs (places_in stands.pairs) c.args.key.now (more_keys t c.args.was.now) c.args.place) table
    (gone told stands.pairs (places_in stands.pairs) (laid_over gaz v root stands c.args.kind c.args.line.now c.args.key.now one c.requires.accepted c.requires.keyed over)
    (there_over gaz v root stands c.args.kind c.args.line.now c.args.key.now one c.requires.accepted c.requires.keyed over c.args.place at.at)))
    (subst (λ t. last.counts ≡ recounted root.counts t (counted root.counts t - 1)) table count)
    (ap (λ (r : Root). r.day) c.go.ensures.root))
    c.go.ensures.gone c.go.ensures.count

pub returns-then-eq-clause-stands : goal.returns-then-eq-clause-stands
returns-then-eq-clause-stands g c told gaz stands over at one =
    let v = g.P.Pages.view c.args.self.now.pages in
    same_over gaz v c.args.self.now.root stands c.args.kind c.args.line.now c.args.key.now one c.requires.accepted c.requires.keyed over c.args.place (sym c.is_delete.ensures ∙ c.if-is_delete.false)
    (subst (StandsAt v c.args.key.now stands.pairs c.args.place) ((bytes_eq-Decides c.args.was.now c.args.line.now).0 (sym c.eq.ensures ∙ c.if-eq.true)) at)

pub returns-clause-stands : goal.returns-clause-stands
returns-clause-stands g c =
    let v = g.P.Pages.view c.args.self.now.pages in
    let new = g.P.Pages.view c.replace.new.self.pages in
    let root = c.args.self.now.root in
    let last = c.replace.new.self.root in
    let table = c.table_of-2.ensures in
    map_ok c.replace.result
    (λ replaced told gaz stands over at one.
    replace_over gaz v root stands c.args.kind c.args.line.now c.args.key.now one c.requires.accepted c.requires.keyed over new last c.args.place c.args.was.now
    (sym c.is_delete.ensures ∙ c.if-is_delete.false) at
    (subst (λ t. HasReplaced v new last stands.pairs (places_in stands.pairs) c.args.key.now (more_keys t c.args.was.now) (more_keys t c.args.line.now) c.args.place c.args.line.now) table
    (replaced told stands.pairs (places_in stands.pairs) (laid_over gaz v root stands c.args.kind c.args.line.now c.args.key.now one c.requires.accepted c.requires.keyed over)
    (there_over gaz v root stands c.args.kind c.args.line.now c.args.key.now one c.requires.accepted c.requires.keyed over c.args.place at.at)))
    c.replace.ensures.count
    (ap (λ (r : Root). r.day) c.replace.ensures.root))
    c.replace.ensures.replaced

pub returns-then-is_delete-clause-idle : goal.returns-then-is_delete-clause-idle
returns-then-is_delete-clause-idle g c =
    map_ok c.go.result
    (λ count told put. absurd (put_is_none c.args.kind c.args.line.now c.args.was.now (sym c.is_delete.ensures ∙ c.if-is_delete.true) put))
    c.go.ensures.count

pub returns-then-eq-clause-idle : goal.returns-then-eq-clause-idle
returns-then-eq-clause-idle g c told put = still (g.P.Pages.view c.args.self.now.pages) c.args.self.now.root

pub returns-clause-idle : goal.returns-clause-idle
returns-clause-idle g c =
    map_ok c.replace.result
    (λ replaced told put.
    absurd (differ (sym ((bytes_eq-Decides c.args.was.now c.args.line.now).1 (put_is_line c.args.kind c.args.line.now c.args.was.now (sym c.is_delete.ensures ∙ c.if-is_delete.false) put)) ∙ sym c.eq.ensures ∙ c.if-eq.false)))
    c.replace.ensures.replaced
  where
    differ : true ≡ false → ⊥
    differ same = cc

pub returns-then-is_delete-clause-differ : goal.returns-then-is_delete-clause-differ
returns-then-is_delete-clause-differ g c puts low = absurd (differ (sym (sym c.is_delete.ensures ∙ c.if-is_delete.true) ∙ puts))
  where
    differ : true ≡ false → ⊥
    differ same = cc

pub returns-clause-differ : goal.returns-clause-differ
returns-clause-differ g c puts low =
    subst (λ t. ChangesFew (most_between t c.args.was.now c.args.line.now) (g.P.Pages.view c.args.self.now.pages) (g.P.Pages.view c.replace.new.self.pages) c.args.self.now.root c.replace.new.self.root) c.table_of-2.ensures
    (c.replace.ensures.differ low)

pub returns-then-is_delete-clause-stays : goal.returns-then-is_delete-clause-stays
returns-then-is_delete-clause-stays g c =
    map_ok c.go.result (λ count told puts. absurd (differ (sym (sym c.is_delete.ensures ∙ c.if-is_delete.true) ∙ puts))) c.go.ensures.count
  where
    differ : true ≡ false → ⊥
    differ same = cc

pub returns-then-eq-clause-stays : goal.returns-then-eq-clause-stays
returns-then-eq-clause-stays g c told puts pairs places laid there at chain short =
    at ∙ ap (λ l. Some l) ((bytes_eq-Decides c.args.was.now c.args.line.now).0 (sym c.eq.ensures ∙ c.if-eq.true))

pub returns-clause-stays : goal.returns-clause-stays
returns-clause-stays g c =
    map_ok c.replace.result
    (λ replaced told puts pairs places laid there at chain short.
    let r = replaced told pairs places laid there in
    subst (λ p. record_at (g.P.Pages.view c.replace.new.self.pages).page p ≡ Some c.args.line.now) (r.stays c.args.was.now at chain short) (r.changed.left.there c.args.line.now refl))
    c.replace.ensures.replaced
