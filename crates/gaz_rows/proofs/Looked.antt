-- A look at the next line of a scan, and looks one after the other.
use Rattle.std.proofs.Common.{◌≡◌, ◌<◌, ◌≤◌, ◌+◌, ◌^◌, ℕ, suc, List, [], ◌∷◌, refl, sym, ◌∙◌, ap, arith, subst, true, false, Some, None, Result, Ok, Err}
use Rattle.std.specs.Prelude.{IsTrue, IsSome, Contains}
use Rattle.gaz_page.specs.Pages.{PagesView, SamePages, Counts}
use Rattle.gaz_heap.specs.Place.{record_at}
use Rattle.gaz_leaf.specs.Node.{Pair, key_of}
use Rattle.gaz_scan.specs.declared.scan.Scan.{Scan}
use Rattle.gaz_scan.specs.Scan.{Comes, IsGiven}
use Rattle.gaz_rows.specs.declared.fault.AskFault.{AskFault}
use Rattle.gaz_rows.specs.declared.fault.AskFault.TheVariants.{Failed, Damaged, Memory}
use Rattle.gaz_rows.specs.Store.{HasAsked, UnlessFailed, FailsOnce, StarvesBy, IsSound}
use Rattle.gaz_rows.specs.Found.{GivesNext, HaveRecords, IsPassed, StandsInSlot, coded_in, has_code, slot_in}
use Rattle.gaz_keys.specs.Parts.{slot_of}
use Rattle.gaz_rows.proofs.Members.{head_is_in}
use Rattle.gaz_rows.proofs.SlotKeys.{slot_key}

pub none_left : (old new : ℕ → List ℕ) (scan : Scan) (left : List Pair) → GivesNext old new scan left (Ok None) → left ≡ []
none_left old new scan left gives = gives.0

pub failed_soundly : (old new : ℕ → List ℕ) (scan : Scan) (left : List Pair) (fault : AskFault) → GivesNext old new scan left (Err fault) → IsSound fault
failed_soundly old new scan left Failed gives = tt
failed_soundly old new scan left (Damaged page) gives = absurd gives
failed_soundly old new scan left Memory gives = absurd gives

-- a pair was given, at whose place a record stands
module _ (code : List ℕ) (old mid new : ℕ → List ℕ) (scan : Scan) (left : List Pair) (given : List ℕ × ℕ) (mid_is : mid ≡ old) (have : HaveRecords old left) (gives : IsGiven mid scan left given) where
  abbrev pair_given : Pair
  pair_given = record { key = key_of given.0; value = given.1 }

  all_have : HaveRecords old (record { key = key_of given.0; value = given.1 } ∷ gives.rest)
  all_have = subst (HaveRecords old) gives.first have

  pub record_given : IsSome (record_at mid given.1)
  record_given = subst (λ pages. IsSome (record_at pages given.1)) (sym mid_is) (all_have 0 (record { key = 0; value = 0 }) (omega arith))

  module _ (slot : ℕ) (slot_is : slot ≡ slot_of given.0) (small : slot < 2 ^ 32) (line : List ℕ) (there : IsSome (record_at mid given.1) → record_at mid given.1 ≡ Some line) where
    slot_at : slot_in pair_given.key ≡ slot
    slot_at = slot_key given.0 (subst (λ n. n < 2 ^ 32) slot_is small) ∙ sym slot_is

    here : record_at old given.1 ≡ Some line
    here = subst (λ pages. record_at pages given.1 ≡ Some line) mid_is (there record_given)

    pub line_coded : has_code code line ≡ true → (coded_in code old left ≡ Some line) × StandsInSlot old left slot line
    line_coded is = (
      ap (coded_in code old) gives.first ∙ rw (here, is) refl,
      record { pair = pair_given; there = subst (λ ps. Contains ps pair_given) (sym gives.first) (head_is_in pair_given gives.rest); at = slot_at; stands = here },
    )

    pub line_passed : has_code code line ≡ false → new ≡ mid → IsPassed slot code old new scan left
    line_passed is new_is =
        let same : new ≡ old = new_is ∙ mid_is in
        record {
          pair = pair_given;
          rest = gives.rest;
          first = gives.first;
          at = slot_at;
          comes = subst (λ pages. Comes pages scan gives.rest) (sym new_is) gives.comes;
          have = subst (λ pages. HaveRecords pages gives.rest) (sym same) (λ k d within. all_have (suc k) d (omega (arith, within)));
          same = ap (λ pages. coded_in code pages gives.rest) same ∙ sym (ap (coded_in code old) gives.first ∙ rw (here, is) refl);
        }

-- ---- one call after the other

unless : {T : Type 0} (result : Result T AskFault) (P Q : Type 0) → (P → Q) → UnlessFailed result P → UnlessFailed result Q
unless (Ok given) P Q to is = to is
unless (Err Failed) P Q to is = tt
unless (Err (Damaged page)) P Q to is = to is
unless (Err Memory) P Q to is = to is

counts_on : (some more most : ℕ) (old mid new : PagesView) → some + more ≤ most → Counts some 0 old mid → Counts more 0 mid new → Counts most 0 old new
counts_on some more most old mid new le a b =
    let grow = a.reads_grow in let also = b.reads_grow in let few = a.reads in let again = b.reads in let one = a.changed in let two = b.changed in
    record {
      told = b.told ∙ a.told;
      read_only = b.read_only ∙ a.read_only;
      reads_grow = omega (arith, grow, also);
      reads = omega (arith, few, again, le);
      changed = omega (arith, one, two);
    }

same_on : (old mid new : PagesView) → SamePages old mid → SamePages mid new → SamePages old new
same_on old mid new a b = record { pages = b.pages ∙ a.pages; free = b.free ∙ a.free; fresh = b.fresh ∙ a.fresh }

module _ {S T : Type 0} (some more most : ℕ) (old mid new : PagesView) (given : S) where
  pub asked_on : (result : Result T AskFault) → some + more ≤ most → HasAsked {T = S} some old mid (Ok given) → HasAsked more mid new result → HasAsked most old new result
  asked_on result le a b =
      let faults : mid.faults ≡ old.faults = a.cause.counted in
      let starved : mid.is_starved ≡ old.is_starved = a.cause.starved in
      let first = a.cause.grows in
      let then = b.cause.grows in
      record {
        same = unless result (IsTrue mid.is_told → SamePages mid new) (IsTrue old.is_told → SamePages old new)
            (λ is told. same_on old mid new (a.same told) (is (subst IsTrue (sym a.counts.told) told))) b.same;
        counts = counts_on some more most old mid new le a.counts b.counts;
        unchanged = b.unchanged ∙ a.unchanged;
        cause = record {
          grows = omega (arith, first, then);
          counted = subst (λ n. FailsOnce n new.faults result) faults b.cause.counted;
          starved = subst (λ s. StarvesBy s new.is_starved result) starved b.cause.starved;
        };
        no_memory = b.no_memory;
      }

-- what was asked, for an answer of another type
pub asked_ok : {S T : Type 0} (most : ℕ) (old new : PagesView) (given : S) (other : T) → HasAsked most old new (Ok given) → HasAsked most old new (Ok other)
asked_ok most old new given other a =
    record { same = a.same; counts = a.counts; unchanged = a.unchanged; cause = record { grows = a.cause.grows; counted = a.cause.counted; starved = a.cause.starved }; no_memory = tt }
