-- A record is written into a free slot, or into one that was added.
use Rattle.std.proofs.Common.{◌≡◌, ◌<◌, ℕ, true, List, refl, ap, ◌∙◌, arith}
use Rattle.gaz_slots.specs.RecordPage.{count_in, from_in, is_record_page}
use Rattle.gaz_slots.specs.Edited.{Placed, Added, Opened, FilledExactly}
use Rattle.gaz_slots.proofs.Form.{free_record, past_record}

pub opened_same : (number slot : ℕ) (old : List ℕ) → is_record_page number old ≡ true → from_in old slot ≡ 0 → slot < count_in old → Opened number slot old old
opened_same number slot old form free below = record {
  form = form;
  free = free;
  was_free = free_record old slot free;
  records = λ k. refl;
  count = omega (arith, below);
  mark = refl;
}

pub opened_new : (number slot : ℕ) (old grown : List ℕ) → slot ≡ count_in old → Added number old grown → Opened number slot old grown
opened_new number slot old grown is a = record {
  form = a.form;
  free = ap (λ (k : ℕ). from_in grown k) is ∙ a.free;
  was_free = past_record old slot (omega (arith, is));
  records = a.records;
  count = omega (arith, a.count, is);
  mark = a.mark;
}

pub filled_opened : (number slot : ℕ) (bytes old opened new : List ℕ) → Opened number slot old opened → Placed number slot bytes opened new → FilledExactly number slot bytes old new
filled_opened number slot bytes old opened new o p = record {
  filled = record {
    form = p.form;
    there = p.there;
    was_free = o.was_free;
    others = λ k differs. p.others k differs ∙ o.records k;
  };
  count = p.count ∙ o.count;
  mark = p.mark ∙ o.mark;
}
