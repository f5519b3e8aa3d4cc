-- Reads of a page.
use Rattle.std.proofs.Common.{◌≡◌, ℕ, ◌+◌, ◌-◌, ◌*◌, ◌<◌, ◌≤◌, min, List, ◌++◌, length, get_or, take, drop, replicate, IsTrue, refl, sym, ◌∙◌, ap, arith, inl, inr}
use Rattle.std.proofs.lemmas.Bool.{cases_lt}
use Rattle.std.proofs.lemmas.List.{length-take, length-append, length-replicate, get_or-take, get_or-drop, get_or_append_left, get_or-append_right, get_or-replicate, get_or_past, ext_get_or}
use Rattle.gaz_outside.specs.Station.{StationView, Outcome, Leaves, Stays, Counts}
use Rattle.gaz_outside.proofs.Runs.{confined_start, confined_stays}
use Rattle.gaz_page.specs.Area.{page_at, length-page_at}
use Rattle.gaz_page.proofs.Area.{byte_of_page}
use Rattle.gaz_redo.specs.Slots.{SameBytes}
use Rattle.gaz_pool.specs.Keeps.{OnlyReads}

-- one call that changes nothing
pub only_reads_call : (old new : StationView) (n : ℕ) → (IsTrue old.is_told → (c : Outcome) → old.left_since old.moment c → Leaves old c) → (IsTrue old.is_told → Stays old new) → Counts n 0 old new → old.faults ≤ new.faults → OnlyReads old new
only_reads_call old new n now stays counts grows = record {
  areas = λ told. confined_stays SameBytes (λ a d. refl) (λ a d e c f g. g ∙ f) old old new (confined_start SameBytes (λ a d. refl) old (now told)) (stays told);
  counts = record { told = counts.told; faults = grows; reads = counts.reads_grow; writes = counts.writes_grow };
  writes = (let most = counts.writes in let least = counts.writes_grow in omega (arith, most, least));
}

zero_at : (m i : ℕ) → get_or {A = ℕ} (replicate m 0) i 0 ≡ 0
zero_at m i =
    elim (cases_lt i m) [
      | inl below ↦ get_or-replicate m i 0 0 below
      | inr past ↦ get_or_past (replicate m 0) i 0 (omega (arith, past, length-replicate {A = ℕ} m 0))
    ]

-- what was read, with zeros behind it, is the page
pub padded_page : (bytes buf : List ℕ) (page n : ℕ) → n ≡ min 4096 (length bytes - 4096 * page) → n ≤ length buf → take n buf ≡ take n (drop (4096 * page) bytes) → take n buf ++ replicate (4096 - n) 0 ≡ page_at bytes page
padded_page bytes buf page n count within same =
    let front = take n buf in
    let zeros = replicate {A = ℕ} (4096 - n) 0 in
    let front_long : length front ≡ n = (let long = length-take n buf in omega (arith, long, within)) in
    let long : length (front ++ zeros) ≡ 4096 = omega (arith, length-append front zeros, length-replicate {A = ℕ} (4096 - n) 0, front_long, count) in
    ext_get_or 0 (front ++ zeros) (page_at bytes page) (long ∙ sym (length-page_at bytes page))
    (λ i lt.
    let low : i < 4096 = omega (arith, lt, long) in
    elim (cases_lt i n) [
      | inl less ↦
          get_or_append_left front zeros 0 i (omega (arith, less, front_long))
          ∙ ap (λ (l : List ℕ). get_or l i 0) same
          ∙ get_or-take n (drop (4096 * page) bytes) i 0 less
          ∙ get_or-drop (4096 * page) bytes i 0
          ∙ sym (byte_of_page bytes page i low)
      | inr past ↦
          get_or-append_right front zeros n i 0 front_long past
          ∙ zero_at (4096 - n) (i - n)
          ∙ sym (get_or_past bytes (4096 * page + i) 0 (omega (arith, past, count, low)))
          ∙ sym (byte_of_page bytes page i low)
    ])
