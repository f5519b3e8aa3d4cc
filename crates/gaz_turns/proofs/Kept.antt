-- What keeps the areas: a print, calls that only read, and one behind the other; and what a stop leaves of a reply that is read and printed.
use Rattle.std.proofs.Common.{◌≡◌, inl, inr, ⊎_elim, ◌≤◌, ◌+◌, ℕ, List, ◌++◌, append-nil, Bool, IsTrue, refl, sym, ◌∙◌, ap, subst, arith}
use Rattle.std.specs.Io.KnownBytes.{append_known}
use Rattle.gaz_outside.specs.declared.station.Area.{Area}
use Rattle.gaz_outside.specs.Outside.{printed_of}
use Rattle.gaz_outside.specs.Station.{StationView, Outcome, Leaves, LeavesOnly, LeavesAreas, LeavesFront, HasFrontOf, AreaStays, AreasStay, Elapses, Confined, Near}
use Rattle.gaz_redo.specs.Slots.{SameBytes}
use Rattle.gaz_pages.specs.Keeps.{OnlyReads}
use Rattle.gaz_reply.specs.Tells.{MayBeCut}
use Rattle.gaz_reply.proofs.Cuts.{front_of_first, front_of_second, printed_whole}
use Rattle.gaz_turns.specs.Steps.{Passes, IsCutIn, AreasKept}

pub passes_in : (old new : StationView) (P : Outcome → Type 0) → Elapses old new P → Passes old new P
passes_in old new P time = record { later = time.later; nothing_else = time.nothing_else }

pub passes_on : (old mid new : StationView) (P Q : Outcome → Type 0) → Passes old mid P → Passes mid new Q → ((c : Outcome) → Q c → P c) → Passes old new P
passes_on old mid new P Q first next here = record {
  later = omega (arith, first.later, next.later);
  nothing_else = λ t c le left. ⊎_elim (first.nothing_else t c le) (λ q. inr (here c q)) (next.nothing_else t c (omega (arith, le, first.later)) left);
}

-- a run and then a call
pub goes_by : (old mid new : StationView) (P Q : Outcome → Type 0) → LeavesOnly old mid P → Passes mid new Q → ((c : Outcome) → Q c → P c) → LeavesOnly old new P
goes_by old mid new P Q so_far next here = record {
  later = omega (arith, so_far.later, next.later);
  each = λ c left. ⊎_elim (so_far.each c) (λ q. here c q) (next.nothing_else old.moment c so_far.later left);
  before = λ t c le left. ⊎_elim (so_far.before t c le) (λ q. inr (here c q)) (next.nothing_else t c (omega (arith, le, so_far.later)) left);
}

pub cut_in : (piece : List ℕ) (old new : StationView) → MayBeCut piece old new → IsCutIn piece old new
cut_in piece old new cut told = passes_in old new (LeavesFront piece old old) (cut told)

pub kept_same : (v : StationView) → AreasKept v v
kept_same v = record {
  each = λ told a. record { bytes = refl; outcomes = λ c may. may };
  time = λ told. record { later = omega arith; nothing_else = λ t c le left. inl left };
  unwritten = refl;
}

-- what neither reads nor writes
pub kept_stay : (old new : StationView) → AreasStay old new → AreasKept old new
kept_stay old new stay = record { each = stay.each; time = λ told. passes_in old new (LeavesAreas old) (stay.time told); unwritten = stay.unwritten }

-- an outcome by calls that change no byte is one of before
as_before : (v : StationView) (a : Area) (c : List ℕ) → (d : List ℕ) × v.may_leave a d × (c ≡ d) → v.may_leave a c
as_before v a c near = subst (v.may_leave a) (sym near.2) near.1

-- what only reads
pub kept_read : (old new : StationView) → OnlyReads old new → AreasKept old new
kept_read old new reads = record {
  each = λ told a. let run = reads.areas told in record { bytes = run.bytes a; outcomes = λ c may. as_before old a c (run.outcomes a c may) };
  time = λ told. let moments = (reads.areas told).moments in record {
    later = moments.later;
    nothing_else = λ t c le left. ⊎_elim (λ past. inl past) (λ near. inr (λ a. as_before old a (c.areas a) (near.areas a))) (moments.before t c le left);
  };
  unwritten = reads.writes;
}

pub kept_on : (old mid new : StationView) → mid.is_told ≡ old.is_told → AreasKept old mid → AreasKept mid new → AreasKept old new
kept_on old mid new same first next = record {
  each = λ told a.
      let one = first.each told a in
      let two = next.each (here told) a in
      record { bytes = two.bytes ∙ one.bytes; outcomes = λ c may. one.outcomes c (two.outcomes c may) };
  time = λ told. passes_on old mid new (LeavesAreas old) (LeavesAreas mid) (first.time told) (next.time (here told)) (λ c leaves a. (first.each told a).outcomes (c.areas a) (leaves a));
  unwritten = next.unwritten ∙ first.unwritten;
}
  where
    here : IsTrue old.is_told → IsTrue mid.is_told
    here told = subst (λ (b : Bool). IsTrue b) (sym same) told

-- calls that only read leave a front of any piece: none of it
pub cut_by_reads : (piece : List ℕ) (old new : StationView) → OnlyReads old new → IsCutIn piece old new
cut_by_reads piece old new reads told =
    let run = reads.areas told in
    record {
      later = run.moments.later;
      nothing_else = λ t c le left.
          ⊎_elim (λ past. inl past)
          (λ near. inr (record { areas = λ a. as_before old a (c.areas a) (near.areas a); text = (0, omega arith, near.text ∙ sym (append-nil old.printed)) }))
          (run.moments.before t c le left);
    }

-- what is printed after calls that only read
pub cut_read : (piece : List ℕ) (old mid new : StationView) → OnlyReads old mid → IsCutIn piece mid new → IsCutIn piece old new
cut_read piece old mid new reads cut told =
    let run = reads.areas told in
    passes_on old mid new (LeavesFront piece old old) (LeavesFront piece mid mid)
    (cut_by_reads piece old mid reads told)
    (cut (subst (λ (b : Bool). IsTrue b) (sym reads.counts.told) told))
    (λ c front. record {
      areas = λ a. as_before old a (c.areas a) (run.outcomes a (c.areas a) (front.areas a));
      text = subst (λ (text : List ℕ). HasFrontOf piece text c.text) run.printed front.text;
    })

-- a first piece that failed
pub cut_first : (first second : List ℕ) (old new : StationView) → IsCutIn first old new → IsCutIn (first ++ second) old new
cut_first first second old new cut told = let time = cut told in record {
  later = time.later;
  nothing_else = λ t c le left. ⊎_elim (λ past. inl past)
      (λ front. inr (record { areas = front.areas; text = front_of_first first second old.printed c.text front.text }))
      (time.nothing_else t c le left);
}

-- the second piece after a first that was printed whole
pub cut_both : (first second : List ℕ) (old mid new : StationView) → mid.is_told ≡ old.is_told → AreasKept old mid → printed_of mid ≡ append_known (printed_of old) first → IsCutIn first old mid → IsCutIn second mid new → IsCutIn (first ++ second) old new
cut_both first second old mid new same kept whole one two told =
    passes_on old mid new (LeavesFront (first ++ second) old old) (LeavesFront second mid mid)
    (cut_first first second old mid one told)
    (two (subst (λ (b : Bool). IsTrue b) (sym same) told))
    (λ c front. record {
      areas = λ a. (kept.each told a).outcomes (c.areas a) (front.areas a);
      text = front_of_second first second old.printed mid.printed c.text (printed_whole first old mid told same whole) front.text;
    })

-- the same text in another form
pub same_cut_in : (text same : List ℕ) (old new : StationView) → text ≡ same → IsCutIn text old new → IsCutIn same old new
same_cut_in text same old new e cut = subst (λ xs. IsCutIn xs old new) e cut
