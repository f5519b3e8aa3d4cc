-- Pages are changed one after another.
use Rattle.std.proofs.Common.{◌≡◌, ◌≤◌, ◌+◌, ◌-◌, ◌^◌, min, ℕ, refl, ap, ◌∙◌, arith}
use Rattle.std.specs.Prelude.{Ok, Err}
use Rattle.gaz_page.specs.Pages.{PagesView, Counts, Costs}
use Rattle.gaz_page.specs.declared.pages.PageFault.{PageFault}
use Rattle.gaz_page.specs.declared.pages.PageFault.TheVariants.{Failed, Damaged, Memory}

-- all went well so far
pub record ChangedSoFar (most_reads most_changed : ℕ) (old new : PagesView) : Type 0 where
  pub counts : Counts most_reads most_changed old new
  pub faults : new.faults ≡ old.faults
  pub starved : new.is_starved ≡ old.is_starved

pub changed_none : (old : PagesView) → ChangedSoFar 0 0 old old
changed_none old = record {
  counts = record { told = refl; read_only = refl; reads_grow = omega arith; reads = omega arith; changed = omega arith };
  faults = refl;
  starved = refl;
}

both : (r s x y : ℕ) (a b c : PagesView) → Counts r s a b → Counts x y b c → Counts (r + x) (s + y) a c
both r s x y a b c first second = record {
  told = second.told ∙ first.told;
  read_only = second.read_only ∙ first.read_only;
  reads_grow = omega (arith, first.reads_grow, second.reads_grow);
  reads = omega (arith, first.reads, second.reads);
  changed = omega (arith, first.changed, second.changed);
}

wider : (r s x y : ℕ) (a b : PagesView) → r ≤ x → s ≤ y → Counts r s a b → Counts x y a b
wider r s x y a b more_reads more_changed c = record {
  told = c.told;
  read_only = c.read_only;
  reads_grow = c.reads_grow;
  reads = omega (arith, c.reads, more_reads);
  changed = omega (arith, c.changed, more_changed);
}

pub changed_more : {T : Type 0} (r s x y : ℕ) (a b c : PagesView) (value : T) → ChangedSoFar r s a b → Costs x y b c (Ok value) → ChangedSoFar (r + x) (s + y) a c
changed_more r s x y a b c value first second = record { counts = both r s x y a b c first.counts second.counts; faults = second.cause.counted ∙ first.faults; starved = second.cause.starved ∙ first.starved }

pub changed_ok : {T : Type 0} (r s x y : ℕ) (a b : PagesView) (value : T) → r ≤ x → s ≤ y → ChangedSoFar r s a b → Costs x y a b (Ok value)
changed_ok r s x y a b value more_reads more_changed c = record { counts = wider r s x y a b more_reads more_changed c.counts; cause = record { grows = omega (arith, c.faults); counted = c.faults; starved = c.starved } }

pub changed_damaged : {T : Type 0} (r s x y : ℕ) (a b : PagesView) (page : ℕ) → r ≤ x → s ≤ y → ChangedSoFar r s a b → Costs {T = T} x y a b (Err (Damaged page))
changed_damaged r s x y a b page more_reads more_changed c = record { counts = wider r s x y a b more_reads more_changed c.counts; cause = record { grows = omega (arith, c.faults); counted = c.faults; starved = c.starved } }

-- an error of the last call
pub changed_err : {T U : Type 0} (r s x y p q : ℕ) (a b c : PagesView) (fault : PageFault) → r + x ≤ p → s + y ≤ q → ChangedSoFar r s a b → Costs {T = U} x y b c (Err fault) → Costs {T = T} p q a c (Err fault)
changed_err r s x y p q a b c Failed more_reads more_changed first last = record {
  counts = wider (r + x) (s + y) p q a c more_reads more_changed (both r s x y a b c first.counts last.counts);
  cause = record { grows = omega (arith, first.faults, last.cause.grows); counted = last.cause.counted ∙ ap (λ (n : ℕ). min (n + 1) (2 ^ 64 - 1)) first.faults; starved = last.cause.starved ∙ first.starved };
}
changed_err r s x y p q a b c (Damaged page) more_reads more_changed first last = record {
  counts = wider (r + x) (s + y) p q a c more_reads more_changed (both r s x y a b c first.counts last.counts);
  cause = record { grows = omega (arith, first.faults, last.cause.grows); counted = last.cause.counted ∙ first.faults; starved = last.cause.starved ∙ first.starved };
}
changed_err r s x y p q a b c Memory more_reads more_changed first last = record {
  counts = wider (r + x) (s + y) p q a c more_reads more_changed (both r s x y a b c first.counts last.counts);
  cause = record { grows = omega (arith, first.faults, last.cause.grows); counted = last.cause.counted ∙ first.faults; starved = last.cause.starved };
}
