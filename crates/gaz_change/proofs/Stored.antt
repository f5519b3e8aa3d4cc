-- What a store becomes by the lines of a file, stepped in one after another.
use Rattle.std.proofs.Common.{◌≡◌, ◌≤◌, ◌+◌, ◌*◌, ◌^◌, ℕ, List, [], ◌∷◌, ◌++◌, length, Option, Some, None, true, false, IsTrue, refl, sym, ◌∙◌, ap, arith, subst, length-append}
use Rattle.std.specs.Prelude.{IfSome, option_map, Result, Ok, Err}
use Rattle.gaz_num.specs.declared.words.FileName.{FileName}
use Rattle.gaz_num.specs.declared.words.FileName.TheVariants.{Rows}
use Rattle.gaz_num.specs.declared.words.Kind.{Kind}
use Rattle.gaz_num.specs.Pieces.{lines_within}
use Rattle.gaz_num.specs.Refusal.{Refusal}
use Rattle.gaz_num.specs.Words.{kind_of_file}
use Rattle.gaz_outside.specs.Outside.{ShelfView, RisesOnce, bytes_of}
use Rattle.gaz_lines.specs.Lines.{Rest, onto}
use Rattle.gaz_lines.specs.Cutter.{rest, line_limit_of, file_limit_of, line_of, place_of, IsFresh}
use Rattle.gaz_lines.specs.Files.{left_at}
use Rattle.gaz_lines.specs.declared.cutter.LineCutter.{LineCutter}
use Rattle.gaz_lines.proofs.Rests.{rest_with}
use Rattle.gaz_lines.proofs.Told.{Told, told_line}
use Rattle.gaz_plain.specs.Gazetteer.{Gazetteer, empty, after_line}
use Rattle.gaz_plain.specs.Fold.{fold, refusal_at}
use Rattle.gaz_page.specs.declared.tree_root.Root.{Root}
use Rattle.gaz_page.specs.Pages.{PagesView}
use Rattle.gaz_rows.specs.declared.fault.ChangeFault.TheVariants.{Shelf, TooLong, Malformed}
use Rattle.gaz_num.specs.declared.words.Reason.TheVariants.{Length}
use Rattle.gaz_rows.specs.declared.fault.StepFault.{StepFault}
use Rattle.gaz_rows.specs.declared.fault.StepFault.TheVariants as step
use Rattle.gaz_rows.specs.Store.{IsStore, IsStepFaultOf, StepFailsOnce}
use Rattle.gaz_rows.specs.Stepping.{HasStepped, HasNewCounts, StepCosts, StepStarves}
use Rattle.gaz_change.specs.Change.{Gives, Folds, FoldCosts, FailsOnce, Starves, IsSound, IsFaultOfFile, fault_at}
use Rattle.gaz_change.proofs.Folding.{Folded, file_of, folded_start, folded_line, fold_ends, fold_overruns, fold_refuses, fold_too_long, gives_fault, if_some_map}

-- Of told bytes so many lines were given.
pub record Counted (number : ℕ) (now : Option Rest) (bytes : List ℕ) : Type 0 where
  pub given : List (List ℕ)
  pub told : Told 65535 given now bytes
  pub numbered : number ≡ length given

counted_of : (name : FileName) (first gaz : Gazetteer) (number : ℕ) (now : Option Rest) (bytes : List ℕ) → Folded name first gaz number now bytes → Counted number now bytes
counted_of name first gaz number now bytes f = record { given = f.given; told = f.told; numbered = f.numbered }

pub counted_start : (cutter : LineCutter) (shelf : ShelfView) (file : ℕ) → IsFresh cutter → line_limit_of cutter ≡ 65535 → file_limit_of cutter ≡ 2 ^ 40 → IfSome (bytes_of shelf file) (λ bytes. Counted (line_of cutter) (rest cutter (left_at shelf file (place_of cutter))) bytes)
counted_start cutter shelf file fresh line_limit file_limit =
    if_some_map _ (λ bytes f. counted_of Rows empty empty (line_of cutter) (rest cutter (left_at shelf file (place_of cutter))) bytes f) (folded_start Rows empty cutter shelf file fresh line_limit file_limit)

pub counted_line : (number number_now : ℕ) (line : List ℕ) (now later : Option Rest) (bytes : List ℕ) → number_now ≡ number + 1 → now ≡ option_map (onto (Some line)) later → Counted number now bytes → Counted number_now later bytes
counted_line number number_now line now later bytes counts gives c =
    let is = c.numbered in
    record {
      given = c.given ++ line ∷ [];
      told = told_line 65535 c.given line now later bytes gives c.told;
      numbered = omega (arith, counts, is, length-append c.given (line ∷ []));
    }

pub counted_few : (before after number : ℕ) (now : Option Rest) (bytes : List ℕ) → after ≤ before + 320 * number → Counted number now bytes → after ≤ before + 320 * length (lines_within bytes)
counted_few before after number now bytes few c =
    let is = c.numbered in
    let all = ap length c.told.lines_are ∙ length-append c.given c.told.later in
    omega (arith, is, all, few)

-- A store that stood for a gazetteer stands for the one after the lines that were stepped in.
pub record Stored (known : Option (List ℕ)) (name : FileName) (first : Gazetteer) (number : ℕ) (now : Option Rest) (v : PagesView) (root : Root) : Type 0 where
  pub next : Gazetteer
  pub stands : IsStore next v root
  pub folded : IfSome known (λ bytes. Folded name first next number now bytes)

pub stored_start : (name : FileName) (gaz : Gazetteer) (v : PagesView) (root : Root) (cutter : LineCutter) (shelf : ShelfView) (file : ℕ) → IsStore gaz v root → IsFresh cutter → line_limit_of cutter ≡ 65535 → file_limit_of cutter ≡ 2 ^ 40
    → Stored (bytes_of shelf file) name gaz (line_of cutter) (rest cutter (left_at shelf file (place_of cutter))) v root
stored_start name gaz v root cutter shelf file stands fresh line_limit file_limit =
    record { next = gaz; stands = stands; folded = folded_start name gaz cutter shelf file fresh line_limit file_limit }

-- the lines of a file so far, with the store before and after them
module _ (known : Option (List ℕ)) (name : FileName) (first : Gazetteer) (number : ℕ) (now : Option Rest) (v : PagesView) (root : Root) (s : Stored known name first number now v root) where
  -- one line more was stepped in
  pub stored_line : (kind : Kind) (line : List ℕ) (number_now : ℕ) (later : Option Rest) (new : PagesView) (root_now : Root) → kind ≡ kind_of_file name → HasStepped kind line v root new root_now → number_now ≡ number + 1 → now ≡ option_map (onto (Some line)) later
      → Stored known name first number_now later new root_now
  stored_line kind line number_now later new root_now is steps counts gives =
      let stepped = steps s.next s.stands in
      record {
        next = stepped.0;
        stands = stepped.2;
        folded = if_some_map known (λ bytes f. folded_line name first s.next stepped.0 number number_now line now later bytes f counts gives (subst (λ k. after_line s.next k line ≡ Ok stepped.0) is stepped.1)) s.folded;
      }

  -- all lines were stepped in
  pub folds_all : s.next.date ≡ first.date → IfSome now (λ rest. rest ≡ rest_with [] false) → Folds known (λ bytes. fold first (file_of name bytes ∷ [])) first v root (Ok tt)
  folds_all date none = record {
    next = s.next;
    date = date;
    stands = s.stands;
    gives = if_some_map known (λ bytes f. fold_ends name first s.next number now bytes f none) s.folded;
    sound = tt;
  }

  pub folds_overrun : IfSome now (λ rest. rest ≡ rest_with [] true) → Folds known (λ bytes. fold first (file_of name bytes ∷ [])) first v root (Err (TooLong name))
  folds_overrun none = record {
    next = first;
    date = refl;
    stands = tt;
    gives = if_some_map known (λ bytes f. fold_overruns name first s.next number now bytes f none) s.folded;
    sound = tt;
  }

  pub folds_too_long : (later : Option Rest) (n : ℕ) → n ≡ number + 1 → now ≡ option_map (onto None) later → Folds known (λ bytes. fold first (file_of name bytes ∷ [])) first v root (Err (Malformed name n Length))
  folds_too_long later n is gives = record {
    next = first;
    date = refl;
    stands = tt;
    gives = if_some_map known (λ bytes f. subst (λ k. Gives first (fold first (file_of name bytes ∷ [])) (Err (Malformed name k Length))) (sym is) (fold_too_long name first s.next number now later bytes f gives)) s.folded;
    sound = tt;
  }

  -- a line was refused
  pub folds_fault : (kind : Kind) (line : List ℕ) (n : ℕ) (later : Option Rest) (fault : StepFault) (new : PagesView) (root_now : Root) → kind ≡ kind_of_file name → IsStepFaultOf (after_line s.next kind line) fault → n ≡ number + 1 → now ≡ option_map (onto (Some line)) later
      → Folds known (λ bytes. fold first (file_of name bytes ∷ [])) first new root_now (Err (fault_at name n fault))
  folds_fault kind line n later fault new root_now is bad counts gives = record {
    next = first;
    date = refl;
    stands = tt;
    gives = if_some_map known (λ bytes f. gives_fault first name n _ (after_line s.next kind line) fault bad
        (λ why wrong. fold_refuses name first s.next number line now later bytes why f gives (subst (λ k. after_line s.next k line ≡ Err why) is wrong)
        ∙ ap (λ k. Err (refusal_at name k why)) (sym counts))) s.folded;
    sound = sound_fault fault bad;
  }
    where
      sound_fault : (fault : StepFault) → IsStepFaultOf (after_line s.next kind line) fault → IsSound (fault_at name n fault)
      sound_fault (step.Malformed reason) bad = tt
      sound_fault (step.Full table) bad = tt
      sound_fault step.Failed bad = tt
      sound_fault (step.Damaged page) bad = bad
      sound_fault step.Memory bad = tt

-- the shelf failed
pub folds_failed : (known : Option (List ℕ)) (defined : List ℕ → Result Gazetteer Refusal) (first : Gazetteer) (v : PagesView) (root : Root) (file : FileName) → Folds known defined first v root (Err (Shelf file))
folds_failed known defined first v root file = record { next = first; date = refl; stands = tt; gives = free known; sound = tt }
  where
    free : (known : Option (List ℕ)) → IfSome known (λ bytes. Gives first (defined bytes) (Err (Shelf file)))
    free None = tt
    free (Some bytes) = tt

-- The date stays.
pub same_date : (gaz next : Gazetteer) (old new : PagesView) (root now : Root) → HasNewCounts root now → IsStore gaz old root → IsStore next new now → next.date ≡ gaz.date
same_date gaz next old new root now counts first stands = stands.date ∙ ap (λ r. Some r.day) counts ∙ sym first.date

-- what two runs of lines leave of the root
pub counts_on : (root mid now : Root) → HasNewCounts root mid → HasNewCounts mid now → HasNewCounts root now
counts_on root mid now first second =
    let renew : Root → Root = λ r. record r { top = now.top; height = now.height; heap = now.heap; counts = now.counts } in
    second ∙ ap renew first

-- what a refused line leaves of the pages
pub costs_fault : (name : FileName) (n most : ℕ) (first old new : PagesView) (root now : Root) (fault : StepFault) → FoldCosts first old (Ok tt) → StepCosts most old root new now (Err fault) → FoldCosts first new (Err (fault_at name n fault))
costs_fault name n most first old new root now fault before costs =
    let a = before.reads_grow in
    let b = costs.reads_grow in
    record {
      told = costs.told ∙ before.told;
      read_only = costs.read_only ∙ before.read_only;
      reads_grow = omega (arith, a, b);
      faults = faults fault costs.faults;
      starved = starved fault costs.starved;
    }
  where
    faults : (fault : StepFault) → StepFailsOnce {T = Unit} old.faults new.faults (Err fault) → FailsOnce first.faults new.faults (Err (fault_at name n fault))
    faults (step.Malformed reason) is = is ∙ before.faults
    faults (step.Full table) is = is ∙ before.faults
    faults step.Failed is = subst (λ k. RisesOnce k new.faults) before.faults is
    faults (step.Damaged page) is = is ∙ before.faults
    faults step.Memory is = is ∙ before.faults

    starved : (fault : StepFault) → StepStarves old.is_starved new.is_starved (Err fault) → Starves first.is_starved new.is_starved (Err (fault_at name n fault))
    starved (step.Malformed reason) is = is ∙ before.starved
    starved (step.Full table) is = is ∙ before.starved
    starved step.Failed is = is ∙ before.starved
    starved (step.Damaged page) is = is ∙ before.starved
    starved step.Memory is = λ was. is (subst IsTrue (sym before.starved) was)

-- a fault of a line names the file
pub line_fault : (name : FileName) (n : ℕ) (fault : StepFault) → IsFaultOfFile name (fault_at name n fault)
line_fault name n (step.Malformed reason) = refl
line_fault name n (step.Full table) = refl
line_fault name n step.Failed = tt
line_fault name n (step.Damaged page) = tt
line_fault name n step.Memory = tt
