-- What was taken of a source, line by line.
use Rattle.std.proofs.Common.{◌≡◌, ℕ, ◌+◌, ◌^◌, List, [], ◌∷◌, ◌++◌, length, ap, arith, Option, append_assoc, ◌∙◌, sym, subst, length-append, ◌⊎◌, inl, inr}
use Rattle.std.specs.Io.KnownBytes.{prepend_known}
use Rattle.gaz_lines.specs.Cutter.{Cuts, Waited, IsFresh, pending, line_of, allowed_of, file_limit_of}
use Rattle.gaz_lines.specs.declared.cutter.LineCutter.{LineCutter}
use Rattle.gaz_lines.proofs.Rests.{prepend_none, prepend_two}
use Rattle.gaz_num.specs.Pieces.{ended_lines, all_but_last}
use Rattle.gaz_lines.proofs.Pieces.{pieces_last, ended_line}
use Rattle.gaz_serve.specs.Serve.{Taken}
use Rattle.gaz_serve.specs.Ran.{IsHeard}

-- The bytes of the lines before are what the limit has lost.
pub record Spent (limit : ℕ) (pending left : Option (List ℕ)) : Type 0 where
  pub given : List ℕ
  pub size : length given + limit ≡ 2 ^ 40
  pub before : left ≡ prepend_known given pending

abbrev pub spent_start : (cutter : LineCutter) (left : Option (List ℕ)) → IsFresh cutter → file_limit_of cutter ≡ 2 ^ 40 → Spent (allowed_of cutter) (pending cutter left) left
spent_start cutter left fresh limit = record {
  given = [];
  size = omega (arith, fresh.allowed, limit);
  before = sym (prepend_none (pending cutter left) ∙ ap (λ xs. prepend_known xs left) fresh.held ∙ prepend_none left);
}

-- a line with its LF is given
abbrev pub spent_with_lf : (limit now : ℕ) (text : List ℕ) (pending new left : Option (List ℕ)) → pending ≡ prepend_known (text ++ 10 ∷ []) new → limit ≡ now + (length text + 1) → Spent limit pending left → Spent now new left
spent_with_lf limit now text pending new left gives less s = record {
  given = s.given ++ (text ++ 10 ∷ []);
  size = omega (arith, s.size, less, length-append s.given (text ++ 10 ∷ []), length-append text (10 ∷ []));
  before = s.before ∙ ap (prepend_known s.given) gives ∙ sym (prepend_two s.given (text ++ 10 ∷ []) new);
}

abbrev pub taken_nothing : (room : ℕ) (left : Option (List ℕ)) → Taken room left left
taken_nothing room left = record { front = []; within = omega arith; chunk = []; fits = omega arith; given = sym (prepend_none left) }

abbrev pub taken_waited : (limit room : ℕ) (start : List ℕ) (pending left new : Option (List ℕ)) → Spent limit pending left → Waited limit room start pending new → Taken room left new
taken_waited limit room start pending left new s w = record {
  front = s.given ++ w.part;
  within = omega (arith, s.size, w.within, length-append s.given w.part);
  chunk = w.chunk;
  fits = w.fits;
  given = s.before ∙ ap (prepend_known s.given) w.given ∙ sym (prepend_two s.given (w.part ++ w.chunk) new)
      ∙ ap (λ xs. prepend_known xs new) (sym (append_assoc s.given w.part w.chunk));
}

-- So many lines were given, and what they spent of the source.
pub record Counted (n limit : ℕ) (pending left : Option (List ℕ)) : Type 0 where
  pub spent : Spent limit pending left
  pub goes_on : (rest : List ℕ) → length (ended_lines (spent.given ++ rest)) ≡ n + length (ended_lines rest)

pub counted_start : (cutter : LineCutter) (left : Option (List ℕ)) → IsFresh cutter → file_limit_of cutter ≡ 2 ^ 40 → Counted (line_of cutter) (allowed_of cutter) (pending cutter left) left
counted_start cutter left fresh limit = record { spent = spent_start cutter left fresh limit; goes_on = λ rest. omega (arith, fresh.number) }

pub counted_line : (at_end : Type 0) (n m limit now : ℕ) (text : List ℕ) (pending new left : Option (List ℕ)) → m ≡ n + 1 → Cuts at_end text limit now pending new → Counted n limit pending left → Counted m now new left ⊎ at_end
counted_line at_end n m limit now text pending new left next cuts k = elim cuts.ends [
  | inl with_lf ↦ inl record {
    spent = spent_with_lf limit now text pending new left with_lf.0 with_lf.1 k.spent;
    goes_on = λ rest.
        let joined = ap (λ xs. length (ended_lines xs)) (append_assoc k.spent.given (text ++ 10 ∷ []) rest ∙ ap (λ xs. k.spent.given ++ xs) (append_assoc text (10 ∷ []) rest)) in
        let before = k.goes_on (text ++ 10 ∷ rest) in
        let one = ap length (ended_line text rest cuts.is_line) in
        omega (arith, joined, before, one, next);
  }
  | inr last ↦ inr last.4
]

pub answered_nothing : (room n : ℕ) (left : Option (List ℕ)) → IsHeard room left left n
answered_nothing room n left = record { taken = taken_nothing room left; enough = omega arith }

-- after one more line
pub answered_more : (room n m : ℕ) (old new : Option (List ℕ)) → m ≡ n + 1 → IsHeard room old new n → IsHeard room old new m
answered_more room n m old new next h = record { taken = h.taken; enough = let before = h.enough in omega (arith, before, next) }

answered_waited : (n limit room : ℕ) (start : List ℕ) (pending left new : Option (List ℕ)) → Counted n limit pending left → Waited limit room start pending new → IsHeard room left new n
answered_waited n limit room start pending left new k w = record {
  taken = taken_waited limit room start pending left new k.spent w;
  enough = let before = k.goes_on w.part in let none = ap (λ ps. length (all_but_last ps)) (pieces_last w.part w.is_line) in omega (arith, before, none);
}

-- The source failed where it was asked, so no line that was taken is left.
pub answered_all : (n limit : ℕ) (start : List ℕ) (pending left new : Option (List ℕ)) (at_end : Type 0) → (at_end → ⊥) → Counted n limit pending left ⊎ at_end → Waited limit 0 start pending new → IsHeard 0 left new n
answered_all n limit start pending left new at_end goes_on (inr ended) w = absurd (goes_on ended)
answered_all n limit start pending left new at_end goes_on (inl k) w = answered_waited n limit 0 start pending left new k w

module _ {S : Type 0} (left : S → Option (List ℕ)) (first now next : S) (n limit : ℕ) (start : List ℕ) (pending : Option (List ℕ)) (at_end : Type 0) (rests : at_end → next ≡ now) (before : Counted n limit pending (left first) ⊎ at_end) where
  -- the source wasn't asked, or only where all whole lines before were answered
  pub answered_next : (next ≡ now) ⊎ Waited limit 65536 start pending (left next) → IsHeard 65536 (left first) (left now) n → IsHeard 65536 (left first) (left next) n
  answered_next (inl same) h = subst (λ s. IsHeard 65536 (left first) (left s) n) (sym same) h
  answered_next (inr w) h = elim before [
    | inl k ↦ answered_waited n limit 65536 start pending (left first) (left next) k w
    | inr ended ↦ subst (λ s. IsHeard 65536 (left first) (left s) n) (sym (rests ended)) h
  ]
