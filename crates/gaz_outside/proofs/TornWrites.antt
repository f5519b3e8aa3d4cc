-- What a torn write may leave, from below.
use Rattle.std.proofs.Common.{⊎_elim, ℕ, ◌+◌, ◌≤◌, List, ◌++◌, length, take, refl, ◌∙◌, arith, length-append}
use Rattle.std.proofs.lemmas.List.{length-take, get_or-take, get_or_append_left}
use Rattle.gaz_outside.specs.Station.{Torn, overlaid}
use Rattle.gaz_outside.specs.Overlaid.{length-overlaid, overlaid_before, overlaid_after}

pub torn_none : (at n : ℕ) (file : List ℕ) → Torn at n file file
torn_none at n file = record { no_shorter = omega arith; no_longer = omega arith; same = λ i lt out. refl }

pub torn_fill : (at n from : ℕ) (file fill : List ℕ) → at ≤ from → from + length fill ≤ at + n → Torn at n file (overlaid file from fill)
torn_fill at n from file fill low high = record {
  no_shorter = omega (arith, length-overlaid file from fill);
  no_longer = omega (arith, length-overlaid file from fill, high);
  same = λ i lt out. ⊎_elim (λ before. overlaid_before file from fill i (omega (arith, before, low))) (λ after. overlaid_after file from fill i (omega (arith, after, high))) out;
}

pub torn_tail : (at n : ℕ) (file tail : List ℕ) → length file + length tail ≤ at + n → Torn at n file (file ++ tail)
torn_tail at n file tail fits = record {
  no_shorter = omega (arith, length-append file tail);
  no_longer = omega (arith, length-append file tail, fits);
  same = λ i lt out. get_or_append_left file tail 0 i lt;
}

pub torn_end : (at n end : ℕ) (file torn : List ℕ) → length file ≤ end → Torn at n file torn → Torn at n file (take end torn)
torn_end at n end file torn behind is = record {
  no_shorter = omega (arith, length-take end torn, behind, is.no_shorter);
  no_longer = omega (arith, length-take end torn, is.no_longer);
  same = λ i lt out. get_or-take end torn i 0 (omega (arith, lt, behind)) ∙ is.same i lt out;
}
