use Rattle.std.proofs.Common.{◌≡◌, ℕ, List, ◌++◌, replicate, length, drop, ◌∙◌, ap, sym, arith}
use Rattle.std.proofs.lemmas.List.{length-take-le}
use Rattle.gaz_slots.specs.RecordPage.{is_record_page, count_in, mark_in}
use Rattle.gaz_slots.specs.Edited.{empty_page}
use Rattle.gaz_slots.proofs.Empty.{empty_form, empty_count, empty_mark}
use Rattle.gaz_slots.proofs.record_page.start_page.Goals as goal

pub slice_bounds-copy_from_slice-end-2 : goal.slice_bounds-copy_from_slice-end-2
slice_bounds-copy_from_slice-end-2 c = sym (length-take-le 16 c.fill.new.self (omega (arith, c.fill.ensures.len, c.requires)))

pub copy_from_slice-requires : goal.copy_from_slice-requires
copy_from_slice-requires c =
    length-take-le 16 c.fill.new.self (omega (arith, c.fill.ensures.len, c.requires)) ∙ sym (ap (λ (l : List ℕ). length l) c.empty_start.ensures)

pub returns : goal.returns
unfolding empty_page
returns c =
    let n = c.args.number in
    let zeros : c.fill.new.self ≡ replicate 4096 0 = c.fill.ensures.after (λ y same. same) ∙ ap (λ (n : ℕ). replicate n 0) c.requires in
    let page : _ ≡ empty_page n = λ i. (c.copy_from_slice.ensures.after ∙ c.empty_start.ensures) i ++ drop 16 (zeros i) in
    record {
      page = page;
      form = ap (λ (p : List ℕ). is_record_page n p) page ∙ empty_form n (omega arith);
      count = ap (λ (p : List ℕ). count_in p) page ∙ empty_count n;
      mark = ap (λ (p : List ℕ). mark_in p) page ∙ empty_mark n;
      size = ap (λ (p : List ℕ). length p) page;
    }
