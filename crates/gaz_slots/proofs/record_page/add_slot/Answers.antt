use Rattle.std.proofs.Common.{◌≡◌, ◌+◌, ◌*◌, ℕ, List, sym, ap, ◌∙◌, subst}
use Rattle.std.specs.Int.{w16, to_be_bytes}
use Rattle.gaz_slots.specs.Bytes.{edited}
use Rattle.gaz_slots.specs.RecordPage.{count_in, mark_in}
use Rattle.gaz_slots.specs.Edited.{Added}
use Rattle.gaz_slots.proofs.Form.{form_says}
use Rattle.gaz_slots.proofs.Added.{Fit, grown, added, count_more, mark_same}
use Rattle.gaz_slots.proofs.record_page.add_slot.Goals as goal

pub returns : goal.returns
returns c =
    let old = c.args.page.now in
    let s = c.count-slot.result in
    let n : s ≡ count_in old = c.count-slot.ensures.value in
    let is : c.put_short-3.new.page ≡ grown old =
    c.put_short-3.ensures.page
    ∙ (λ i. edited 2 (to_be_bytes w16 (s + 1)) ((c.put_short-2.ensures.page ∙ (λ j. edited (18 + 4 * s) (to_be_bytes w16 0) (c.put_short.ensures.page j))) i))
    ∙ (λ i. edited 2 (to_be_bytes w16 (n i + 1)) (edited (18 + 4 * n i) (to_be_bytes w16 0) (edited (16 + 4 * n i) (to_be_bytes w16 0) old))) in
    let fit : Fit old = record { size = c.requires.size; mark = c.requires.mark; room = c.requires.room } in
    record {
      added = λ number form. subst (Added number old) (sym is) (added number old (record { form = form_says number old form; room = c.requires.room }));
      count = ap (λ (p : List ℕ). count_in p) is ∙ count_more old fit;
      mark = ap (λ (p : List ℕ). mark_in p) is ∙ mark_same old fit;
      size = c.put_short-3.ensures.size ∙ c.put_short-2.ensures.size ∙ c.put_short.ensures.size ∙ c.requires.size;
    }
