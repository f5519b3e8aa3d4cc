-- What questions read, one after another.
use Rattle.std.proofs.Common.{ℕ, ◌+◌, ◌≤◌, List, [], ◌∷◌, ◌++◌, length, arith, subst, length-append}
use Rattle.std.specs.Prelude.{All}
use Rattle.std.proofs.lemmas.List.{get_or_append_left, get_or-append-add}
use Rattle.std.proofs.lemmas.List.Sums.{sum_by-append, sum_by-cons}
use Rattle.gaz_parent.specs.Questions.{Question, ReadsNoMore}

-- of two lists in a row, each
front : (P : Question → Type 0) (xs ys : List Question) → All P (xs ++ ys) → All P xs
front P xs ys all k d lt = subst P (get_or_append_left xs ys d k lt) (all k d (omega (arith, length-append xs ys)))

back : (P : Question → Type 0) (xs ys : List Question) → All P (xs ++ ys) → All P ys
back P xs ys all k d lt = subst P (get_or-append-add xs ys k d) (all (length xs + k) d (omega (arith, length-append xs ys)))

-- one question
pub one_read : (bounded : Question → ℕ → Type 0) (question : Question) (before now : ℕ) → ((most : ℕ) → bounded question most → now ≤ before + most) → ReadsNoMore bounded (question ∷ []) before now
one_read bounded question before now reads = record {
  most = λ bound all. let le = reads (bound question) (all 0 question (omega arith)) in omega (arith, le, sum_by-cons bound question []);
}

-- none
pub none_read : (bounded : Question → ℕ → Type 0) (count : ℕ) → ReadsNoMore bounded [] count count
none_read bounded count = record { most = λ bound all. omega arith }

-- more questions may read more
pub front_read : (bounded : Question → ℕ → Type 0) (xs ys : List Question) (before now : ℕ) → ReadsNoMore bounded xs before now → ReadsNoMore bounded (xs ++ ys) before now
front_read bounded xs ys before now read = record {
  most = λ bound all. let le = read.most bound (front (λ question. bounded question (bound question)) xs ys all) in omega (arith, le, sum_by-append bound xs ys);
}

-- some questions, and then others, for which the bounds still stand
pub both_read : (bounded later : Question → ℕ → Type 0) (xs ys : List Question) (before between now : ℕ) → ((question : Question) (most : ℕ) → bounded question most → later question most) → ReadsNoMore bounded xs before between → ReadsNoMore later ys between now → ReadsNoMore bounded (xs ++ ys) before now
both_read bounded later xs ys before between now still first then = record {
  most = λ bound all.
      let le = first.most bound (front (λ question. bounded question (bound question)) xs ys all) in
      let rest = back (λ question. bounded question (bound question)) xs ys all in
      let more = then.most bound (λ k d lt. still _ _ (rest k d lt)) in
      omega (arith, le, more, sum_by-append bound xs ys);
}
