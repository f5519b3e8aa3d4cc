-- What a stop leaves of pieces that are printed one behind the other.
use Rattle.std.proofs.Common.{◌≡◌, inl, inr, ⊎_elim, ℕ, ◌+◌, Bool, IsTrue, List, ◌++◌, take, length, length-append, ap, ◌∙◌, sym, subst, arith, append_assoc, Option, Some, None}
use Rattle.std.proofs.lemmas.List.{take-append-le}
use Rattle.std.proofs.Math.Seq.{take-append-add}
use Rattle.std.specs.Prelude.{if◌then◌else◌}
use Rattle.std.specs.Io.KnownBytes.{append_known}
use Rattle.gaz_outside.specs.Outside.{StationView, printed_of}
use Rattle.gaz_outside.specs.Station.{Appends, AreasStay, HasFrontOf}
use Rattle.gaz_reply.specs.Tells.{MayBeCut}

-- one piece
pub cut_in_one : (piece : List ℕ) (old new : StationView) → (IsTrue old.is_told → Appends piece old new) → MayBeCut piece old new
cut_in_one piece old new appends told = let p = appends told in record {
  later = p.time.later;
  nothing_else = λ t c le left. ⊎_elim (λ past. inl past)
      (λ front. inr (record { areas = λ a. (p.areas a).outcomes (c.areas a) (front.areas a); text = front.text }))
      (p.time.nothing_else t c le left);
  keeps = p.time.keeps;
}

-- a front of the first piece is one of both
pub front_of_first : (first second before text : List ℕ) → HasFrontOf first before text → HasFrontOf (first ++ second) before text
front_of_first first second before text front =
    let sum = length-append first second in
    (front.0, omega (arith, front.1, sum), front.2 ∙ ap (λ xs. before ++ xs) (sym (take-append-le front.0 first second front.1)))

-- the first piece with a front of the second is one of both
pub front_of_second : (first second before mid text : List ℕ) → mid ≡ before ++ first → HasFrontOf second mid text → HasFrontOf (first ++ second) before text
front_of_second first second before mid text whole front =
    let sum = length-append first second in (
      length first + front.0,
      omega (arith, front.1, sum),
      front.2 ∙ ap (λ xs. xs ++ take front.0 second) whole ∙ append_assoc before first (take front.0 second) ∙ ap (λ xs. before ++ xs) (sym (take-append-add first second front.0)),
    )

-- the first piece was printed whole, where bytes are told
pub whole_text : (told_old told_mid : Bool) (before mid first : List ℕ) → IsTrue told_old → told_mid ≡ told_old → (if told_mid then Some mid else None) ≡ append_known (if told_old then Some before else None) first → mid ≡ before ++ first
whole_text told_old told_mid before mid first told same whole =
    let known = subst (λ b. (if told_mid then Some mid else None) ≡ append_known (if b then Some before else None) first) told whole in
    text_in (subst (λ b. (if b then Some mid else None) ≡ Some (before ++ first)) (same ∙ told) known)
  where
    text_or : Option (List ℕ) → List ℕ
    text_or (Some xs) = xs
    text_or None = mid

    text_in : Some mid ≡ Some (before ++ first) → mid ≡ before ++ first
    text_in e = ap text_or e

pub printed_whole : (piece : List ℕ) (old new : StationView) → IsTrue old.is_told → new.is_told ≡ old.is_told → printed_of new ≡ append_known (printed_of old) piece → new.printed ≡ old.printed ++ piece
unfolding printed_of
printed_whole piece old new told same whole = whole_text old.is_told new.is_told old.printed new.printed piece told same whole

-- a first piece that failed
pub cut_in_first : (first second : List ℕ) (old new : StationView) → MayBeCut first old new → MayBeCut (first ++ second) old new
cut_in_first first second old new cut told = let time = cut told in record {
  later = time.later;
  nothing_else = λ t c le left. ⊎_elim (λ past. inl past)
      (λ front. inr (record { areas = front.areas; text = front_of_first first second old.printed c.text front.text }))
      (time.nothing_else t c le left);
  keeps = time.keeps;
}

-- the second piece after a first that was printed whole
pub cut_in_both : (first second : List ℕ) (old mid new : StationView) → mid.is_told ≡ old.is_told → AreasStay old mid → printed_of mid ≡ append_known (printed_of old) first → MayBeCut first old mid → MayBeCut second mid new → MayBeCut (first ++ second) old new
unfolding printed_of
cut_in_both first second old mid new same stay whole cut_first cut_second told =
    let one = cut_in_first first second old mid cut_first told in
    let two = cut_second (subst (λ (b : Bool). IsTrue b) (sym same) told) in
    let text = whole_text old.is_told mid.is_told old.printed mid.printed first told same whole in
    record {
      later = omega (arith, one.later, two.later);
      nothing_else = λ t c le left. ⊎_elim (λ past. one.nothing_else t c le past)
          (λ front. inr (record {
            areas = λ a. (stay.each told a).outcomes (c.areas a) (front.areas a);
            text = front_of_second first second old.printed mid.printed c.text text front.text;
          }))
          (two.nothing_else t c (omega (arith, le, one.later)) left);
      keeps = λ t c le left. two.keeps t c (omega (arith, le, one.later)) (one.keeps t c le left);
    }

-- the same text in another form
pub same_cut : (text same : List ℕ) (old new : StationView) → text ≡ same → MayBeCut text old new → MayBeCut same old new
same_cut text same old new e cut = subst (λ xs. MayBeCut xs old new) e cut
