-- Pages are read one after another.
use Rattle.std.proofs.Common.{◌≡◌, ◌≤◌, ◌+◌, ◌-◌, ◌^◌, min, ℕ, List, refl, sym, ap, ◌∙◌, subst, arith}
use Rattle.std.specs.Prelude.{IsTrue, Ok, Err}
use Rattle.gaz_page.specs.Pages.{PagesView, SamePages, Counts, HasReads}
use Rattle.gaz_page.specs.declared.pages.PageFault.TheVariants.{Failed, Damaged}

-- all went well so far
pub record AskedSoFar (most : ℕ) (old new : PagesView) : Type 0 where
  pub same : IsTrue old.is_told → SamePages old new
  pub counts : Counts most 0 old new
  pub unchanged : new.changed ≡ old.changed
  pub faults : new.faults ≡ old.faults
  pub starved : new.is_starved ≡ old.is_starved

pub asked_none : (old : PagesView) → AskedSoFar 0 old old
asked_none old = record {
  same = λ told. record { pages = refl; free = refl; fresh = refl };
  counts = record { told = refl; read_only = refl; reads_grow = omega arith; reads = omega arith; changed = omega arith };
  unchanged = refl;
  faults = refl;
  starved = refl;
}

pub told_still : (old new : PagesView) → new.is_told ≡ old.is_told → IsTrue old.is_told → IsTrue new.is_told
told_still old new same told = subst IsTrue (sym same) told

more_counts : (most : ℕ) (a b c : PagesView) → Counts most 0 a b → b.changed ≡ a.changed → Counts 1 0 b c → c.changed ≡ b.changed → Counts (most + 1) 0 a c
more_counts most a b c first kept second same = record {
  told = second.told ∙ first.told;
  read_only = second.read_only ∙ first.read_only;
  reads_grow = omega (arith, first.reads_grow, second.reads_grow);
  reads = omega (arith, first.reads, second.reads);
  changed = omega (arith, kept, same);
}

pub asked_more : {T : Type 0} (most : ℕ) (a b c : PagesView) (value : T) → AskedSoFar most a b → HasReads 1 b c (Ok value) → AskedSoFar (most + 1) a c
asked_more most a b c value first second = record {
  same = λ told.
      let s = first.same told in
      let t = second.same (λ failed. failed) (told_still a b first.counts.told told) in
      record { pages = t.pages ∙ s.pages; free = t.free ∙ s.free; fresh = t.fresh ∙ s.fresh };
  counts = more_counts most a b c first.counts first.unchanged second.counts second.unchanged;
  unchanged = second.unchanged ∙ first.unchanged;
  faults = second.cause.counted ∙ first.faults;
  starved = second.cause.starved ∙ first.starved;
}

-- the answers after so many reads
pub asked_ok : {T : Type 0} (most bound : ℕ) (a b : PagesView) (value : T) → AskedSoFar most a b → most ≤ bound → HasReads bound a b (Ok value)
asked_ok most bound a b value s fits = record {
  same = λ fine. s.same;
  counts = record { told = s.counts.told; read_only = s.counts.read_only; reads_grow = s.counts.reads_grow; reads = omega (arith, s.counts.reads, fits); changed = s.counts.changed };
  unchanged = s.unchanged;
  cause = record { grows = omega (arith, s.faults); counted = s.faults; starved = s.starved };
}

pub asked_damaged : {T : Type 0} (most bound : ℕ) (a b : PagesView) (page : ℕ) → AskedSoFar most a b → most ≤ bound → HasReads {T = T} bound a b (Err (Damaged page))
asked_damaged most bound a b page s fits = record {
  same = λ fine. s.same;
  counts = record { told = s.counts.told; read_only = s.counts.read_only; reads_grow = s.counts.reads_grow; reads = omega (arith, s.counts.reads, fits); changed = s.counts.changed };
  unchanged = s.unchanged;
  cause = record { grows = omega (arith, s.faults); counted = s.faults; starved = s.starved };
}

pub asked_failed : {T U : Type 0} (most bound : ℕ) (a b c : PagesView) → AskedSoFar most a b → HasReads {T = U} 1 b c (Err Failed) → most + 1 ≤ bound → HasReads {T = T} bound a c (Err Failed)
asked_failed most bound a b c s r fits = record {
  same = λ fine. absurd (fine tt);
  counts =
      let m = more_counts most a b c s.counts s.unchanged r.counts r.unchanged in
      record { told = m.told; read_only = m.read_only; reads_grow = m.reads_grow; reads = omega (arith, m.reads, fits); changed = m.changed };
  unchanged = r.unchanged ∙ s.unchanged;
  cause = record { grows = omega (arith, s.faults, r.cause.grows); counted = r.cause.counted ∙ ap (λ (n : ℕ). min (n + 1) (2 ^ 64 - 1)) s.faults; starved = r.cause.starved ∙ s.starved };
}

-- the bytes that are read are those that the page had in the beginning
pub page_read : (most : ℕ) (old now : PagesView) (page : ℕ) (bytes : List ℕ) → AskedSoFar most old now → IsTrue old.is_told → (IsTrue now.is_told → bytes ≡ now.page page) → bytes ≡ old.page page
page_read most old now page bytes s told is = is (told_still old now s.counts.told told) ∙ (λ i. (s.same told).pages i page)
