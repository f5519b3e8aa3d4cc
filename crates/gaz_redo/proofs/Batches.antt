-- Bytes that are held before they are written.
use Rattle.std.proofs.Common.{Bool, true, false, ◌≡◌, ◌≢◌, ◌⊎◌, inl, inr, ⊎_elim, ℕ, ◌+◌, ◌-◌, ◌<◌, ◌≤◌, ◌==◌, List, [], ◌++◌, length, get_or, take, drop, replicate, refl, sym, ◌∙◌, ap, subst, arith, append_assoc, length-append, if◌then◌else◌}
use Rattle.std.proofs.lemmas.Bool.{cases_lt}
use Rattle.std.proofs.lemmas.Bool.Decides.{nat_tests}
use Rattle.std.proofs.lemmas.List.{take_at, drop_at, append-nil, drop-drop, length-take, length-replicate}
use Rattle.gaz_outside.specs.declared.station.Area.{Area}
use Rattle.gaz_outside.specs.SameArea.{which, same_place}
use Rattle.gaz_outside.specs.Station.{StationView, Outcome, Leaves, Writes, Confined, AnyIn, overlaid, pieces, area_place}
use Rattle.gaz_outside.proofs.TornWrites.{torn_none}
use Rattle.gaz_outside.proofs.Runs.{confined_start, confined_write, confined_on, confined_weaker, any_run, torn_on}
use Rattle.gaz_redo.specs.declared.batch.Batch.{Batch}
use Rattle.gaz_redo.specs.Batch.{held, TakesIn, laid_over, once_out, InRangeOf}
use Rattle.gaz_redo.specs.Slots.{Slot, Covers, Scattered, start_of, end_in, laid_in, is_in}
use Rattle.gaz_redo.proofs.Laid.{scattered_same, scattered_on, covers_at, end_at, laid_more}

-- bytes that are put right behind others, and both at once
pub overlaid_on : (file : List ℕ) (at : ℕ) (first second : List ℕ) → overlaid (overlaid file at first) (at + length first) second ≡ overlaid file at (first ++ second)
overlaid_on file at first second =
    let front = take at (file ++ replicate (at - length file) 0) in
    let rest = drop (at + length first) file in
    let whole = overlaid file at first in
    let end = at + length first in
    let size : length front ≡ at = omega (arith, length-take at (file ++ replicate (at - length file) 0), length-append file (replicate (at - length file) 0), length-replicate {A = ℕ} (at - length file) 0) in
    let both : length (front ++ first) ≡ end = omega (arith, length-append front first, size) in
    let inside : end - length whole ≡ 0 = omega (arith, length-append (front ++ first) rest, both) in
    let padded : whole ++ replicate (end - length whole) 0 ≡ whole = ap (λ (n : ℕ). whole ++ replicate n 0) inside ∙ append-nil whole in
    let kept : take end (whole ++ replicate (end - length whole) 0) ≡ front ++ first = ap (λ (l : List ℕ). take end l) padded ∙ take_at (front ++ first) rest end both in
    let behind : drop (end + length second) whole ≡ drop (at + length (first ++ second)) file =
    sym (drop-drop (length second) end whole) ∙ ap (λ (l : List ℕ). drop (length second) l) (drop_at (front ++ first) rest end both)
    ∙ drop-drop (length second) (at + length first) file ∙ ap (λ (n : ℕ). drop n file) (far at first second) in
    (λ i. kept i ++ second ++ behind i) ∙ ap (λ (l : List ℕ). l ++ drop (at + length (first ++ second)) file) (append_assoc front first second)
  where
    far : (at : ℕ) (first second : List ℕ) → at + length first + length second ≡ at + length (first ++ second)
    far at first second = omega (arith, length-append first second)

-- of nothing at the start, nothing comes
over_none : (b : Bool) (file : List ℕ) → (if b then overlaid file 0 [] else file) ≡ file
over_none true file = refl
over_none false file = refl

pub laid_none : (area : Area) (at : ℕ) (bytes : List ℕ) (areas : Area → List ℕ) (a : Area) → at ≡ 0 → bytes ≡ [] → laid_over area at bytes areas a ≡ areas a
laid_none area at bytes areas a start none =
    (λ i. laid_over area (start i) (none i) areas a) ∙ over_none (area_place area == area_place a) (areas a)

over_on : (b : Bool) (file : List ℕ) (at : ℕ) (first second : List ℕ)
    → (if b then overlaid file at (first ++ second) else file) ≡ (if b then overlaid (if b then overlaid file at first else file) (at + length first) second else (if b then overlaid file at first else file))
over_on true file at first second = sym (overlaid_on file at first second)
over_on false file at first second = refl

-- what goes on behind what is held
laid_on : (area : Area) (at : ℕ) (first second : List ℕ) (areas : Area → List ℕ) (a : Area) → laid_over area at (first ++ second) areas a ≡ laid_over area (at + length first) second (laid_over area at first areas) a
laid_on area at first second areas a = over_on (area_place area == area_place a) (areas a) at first second

pub put_behind : (old new : Batch) (area : Area) (at : ℕ) (bytes : List ℕ) (areas : Area → List ℕ) (a : Area) → old.area ≡ area → new.area ≡ area → old.at + length (held old) ≡ at → new.at ≡ old.at → held new ≡ held old ++ bytes
    → once_out new areas a ≡ laid_over area at bytes (once_out old areas) a
put_behind old new area at bytes areas a old_area new_area behind same more =
    (λ i. laid_over (new_area i) (same i) (more i) areas a)
    ∙ laid_on area old.at (held old) bytes areas a
    ∙ (λ i. laid_over area (behind i) bytes (λ b. laid_over (sym old_area i) old.at (held old) areas b) a)

pub put_alone : (old new : Batch) (area : Area) (at : ℕ) (bytes : List ℕ) (areas after : Area → List ℕ) (a : Area) → new.area ≡ area → new.at ≡ at → held new ≡ bytes
    → ((b : Area) → after b ≡ once_out old areas b) → once_out new after a ≡ laid_over area at bytes (once_out old areas) a
put_alone old new area at bytes areas after a new_area new_at alone written =
    (λ i. laid_over (new_area i) (new_at i) (alone i) (λ b. written b i) a)

pub same_bytes : (b : Batch) (before after : Area → List ℕ) → ((a : Area) → after a ≡ before a) → (a : Area) → once_out b after a ≡ once_out b before a
same_bytes b before after same a = (λ i. laid_over b.area b.at (held b) (λ c. same c i) a)

-- a batch that is not written, and one that is
in_same : (b : Batch) (a : Area) (d : List ℕ) → InRangeOf b a d d
in_same b a d = ((λ is. torn_none b.at (length (held b)) d), (λ other. refl))

in_on : (b : Batch) (a : Area) (d e c : List ℕ) → InRangeOf b a d e → InRangeOf b a e c → InRangeOf b a d c
in_on b a d e c first next = ((λ is. torn_on b.at (length (held b)) d e c (first.0 is) (next.0 is)), (λ other. next.1 other ∙ first.1 other))

pub batch_waits : (b : Batch) (v : StationView) → ((c : Outcome) → v.left_since v.moment c → Leaves v c) → Confined (InRangeOf b) v v
batch_waits b v only = confined_start (InRangeOf b) (in_same b) v only

pub batch_goes : (b : Batch) (old new : StationView) → ((c : Outcome) → old.left_since old.moment c → Leaves old c) → Writes b.area b.at (length (held b)) old new → Confined (InRangeOf b) old new
batch_goes b old new only writes =
    confined_write (InRangeOf b) (in_same b) (in_on b) old old new b.area b.at (length (held b)) (λ a. which a b.area)
    (λ d c torn. ((λ is. torn), (λ other. absurd (other refl)))) (batch_waits b old only) writes

own_area : (a : Area) → (area_place a == area_place a) ≡ true
own_area a = grind (arith, nat_tests)

apart : (a b : Area) → a ≢ b → (area_place b == area_place a) ≡ false
apart a b other = let differ : area_place b ≢ area_place a = λ is. other (sym (same_place b a is)) in grind (arith, nat_tests)

pub batch_written : (b : Batch) (old new : StationView) → new.bytes b.area ≡ overlaid (old.bytes b.area) b.at (held b) → Writes b.area b.at (length (held b)) old new → (a : Area) → new.bytes a ≡ once_out b old.bytes a
batch_written b old new written writes a = ⊎_elim
    (λ here. subst (λ (c : Area). new.bytes c ≡ once_out b old.bytes c) (sym here) (written ∙ sym (rw (own_area b.area))))
    (λ other. (writes.others a other).bytes ∙ sym (rw (apart a b.area other)))
    (which a b.area)

-- a run of batches in one area
pub only_there : (b : Batch) (area : Area) (old new : StationView) → b.area ≡ area → Confined (InRangeOf b) old new → Confined (AnyIn area) old new
only_there b area old new is run = confined_weaker (InRangeOf b) (AnyIn area) (λ a d c in_range other. in_range.1 (λ same. other (same ∙ is))) old new run

pub any_more : (b : Batch) (area : Area) (old mid new : StationView) → b.area ≡ area → Confined (AnyIn area) old mid → Confined (InRangeOf b) mid new → Confined (AnyIn area) old new
any_more b area old mid new is so_far run = any_run old mid new area so_far (only_there b area mid new is run)

-- The batch stands within images.
pub record IsWithin (b : Batch) (ss : List Slot) : Type 0 where
  pub covers : (i : ℕ) → b.at ≤ i → i < b.at + length (held b) → Covers b.area ss i
  pub ends : b.at + length (held b) ≤ end_in b.area ss

pub within_none : (b : Batch) (ss : List Slot) → b.at ≡ 0 → held b ≡ [] → IsWithin b ss
within_none b ss start none = record {
  covers = λ i from to. absurd (omega (arith, from, to, start, ap length none));
  ends = omega (arith, start, ap length none);
}

pub within_more : (ss : List Slot) (k : ℕ) (s : Slot) (old new : Batch) → k < length ss → s ≡ get_or ss k s → IsWithin old ss → TakesIn old new s.area (start_of s) s.image → IsWithin new ss
within_more ss k s old new lt is within takes = ⊎_elim
    (λ behind.
    let old_at = behind.1 in
    let new_at = behind.2 in
    let size : length (held new) ≡ length (held old) + length s.image = ap length behind.3 ∙ length-append (held old) s.image in
    record {
      covers = λ i from to. subst (λ (a : Area). Covers a ss i) (sym takes.0) (elim (cases_lt i (start_of s)) [
        | inl before ↦ subst (λ (a : Area). Covers a ss i) behind.0 (within.covers i (omega (arith, from, new_at)) (omega (arith, before, old_at)))
        | inr here ↦ covers_at ss k s i lt is here (omega (arith, to, new_at, old_at, size))
      ]);
      ends = let last = end_at ss k s lt is in let same = ap (λ (a : Area). end_in a ss) takes.0 in omega (arith, last, same, new_at, old_at, size);
    })
    (λ alone.
    let new_at = alone.0 in
    let size : length (held new) ≡ length s.image = ap length alone.1 in
    record {
      covers = λ i from to. subst (λ (a : Area). Covers a ss i) (sym takes.0) (covers_at ss k s i lt is (omega (arith, from, new_at)) (omega (arith, to, new_at, size)));
      ends = let last = end_at ss k s lt is in let same = ap (λ (a : Area). end_in a ss) takes.0 in omega (arith, last, same, new_at, size);
    })
    takes.1

in_images : (b : Batch) (ss : List Slot) (a : Area) (d c : List ℕ) → IsWithin b ss → InRangeOf b a d c → Scattered a ss d c
in_images b ss a d c within in_range = ⊎_elim
    (λ here. let torn = in_range.0 here in let same = ap (λ (a : Area). end_in a ss) here in let ends = within.ends in record {
      no_shorter = torn.no_shorter;
      no_longer = omega (arith, torn.no_longer, ends, same);
      same = λ i below out. torn.same i below (outside i (λ covered. out (subst (λ (a : Area). Covers a ss i) (sym here) covered)));
    })
    (λ other. subst (λ (f : List ℕ). Scattered a ss d f) (sym (in_range.1 other)) (scattered_same ss a d))
    (which a b.area)
  where
    outside : (i : ℕ) → (Covers b.area ss i → ⊥) → (i < b.at) ⊎ (b.at + length (held b) ≤ i)
    outside i out = elim (cases_lt i b.at) [
      | inl below ↦ inl below
      | inr from ↦ elim (cases_lt i (b.at + length (held b))) [
        | inl inside ↦ absurd (out (within.covers i from inside))
        | inr past ↦ inr past
      ]
    ]

pub scattered_more : (b : Batch) (ss : List Slot) (old mid new : StationView) → IsWithin b ss → Confined (λ a. Scattered a ss) old mid → Confined (InRangeOf b) mid new → Confined (λ a. Scattered a ss) old new
scattered_more b ss old mid new within so_far run =
    confined_on (λ a. Scattered a ss) (scattered_same ss) (scattered_on ss) old mid new so_far
    (confined_weaker (InRangeOf b) (λ a. Scattered a ss) (λ a d c in_range. in_images b ss a d c within in_range) mid new run)

-- one image more, held or written
pub laid_next : (ss : List Slot) (k : ℕ) (s : Slot) (before after : Area → List ℕ) (a : Area) (file : List ℕ) → k < length ss → s ≡ get_or ss k s → before a ≡ laid_in a (take k ss) file
    → after a ≡ laid_over s.area (start_of s) s.image before a → after a ≡ laid_in a (take (k + 1) ss) file
laid_next ss k s before after a file lt is so_far put =
    put ∙ ap (λ (f : List ℕ). if is_in a s then overlaid f (start_of s) s.image else f) so_far ∙ sym (laid_more a ss k s file lt is)

-- bytes in two parts make no fewer pieces
pub pieces_more : (m n : ℕ) → pieces (m + n) ≤ pieces m + pieces n
pieces_more m n = omega arith
