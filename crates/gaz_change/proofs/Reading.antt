-- The files of a request: opened one after another, and then folded one after another.
use Rattle.std.proofs.Common.{◌≡◌, ◌≢◌, ℕ, zero, suc, ◌+◌, ◌<◌, ◌≤◌, ◌*◌, List, [], ◌∷◌, length, take, drop, set, get_or, refl, ap, arith, Option, Some, None, unwrap_or, IsTrue, ◌∙◌, sym, subst, ◌⊎◌, inl, inr}
use Rattle.std.specs.Prelude.{IfSome, IsSome, Result, Ok, Err, ok_or}
use Rattle.std.proofs.lemmas.Bool.{cases_eq}
use Rattle.std.proofs.lemmas.List.Sums.{sum_by-cons}
use Rattle.gaz_outside.specs.Outside.{ShelfView, RisesOnce, FindsFiles, OpensNumber, files_of, bytes_of}
use Rattle.gaz_num.specs.declared.words.FileName.{FileName}
use Rattle.gaz_num.specs.Pieces.{lines_within}
use Rattle.gaz_num.specs.Refusal.{absent, ◌>>=◌}
use Rattle.gaz_num.specs.Words.{file_text}
use Rattle.gaz_plain.specs.Gazetteer.{Gazetteer}
use Rattle.gaz_plain.specs.Fold.{File, fold}
use Rattle.gaz_plain.specs.Load.{Files, files_of as files_named}
use Rattle.gaz_plain.proofs.Folds.{fold-append}
use Rattle.gaz_rows.specs.declared.fault.ChangeFault.{ChangeFault}
use Rattle.gaz_rows.specs.declared.fault.ChangeFault.TheVariants.{NotLoaded, Sequence, Absent, Shelf, TooLong, Malformed, Full, Station, Damaged, Memory}
use Rattle.gaz_page.specs.declared.tree_root.Root.{Root}
use Rattle.gaz_page.specs.Pages.{PagesView}
use Rattle.gaz_rows.specs.Store.{IsStore}
use Rattle.gaz_change.specs.Change.{Gives, Folds, FoldCosts, FailsOnce, Starves, IsReached, lines_of, Opened, AreOpen, AreThere, AreFound, IsUnblamed, Blamed, BlamesReached, IsFaultOfFile, fold_named}
use Rattle.gaz_change.proofs.Folding.{file_of}
use Rattle.gaz_change.proofs.Changing.{FileGives, of_file, always, weaker, both_known, known_name, told_before, stays_open, finds_then, gives_first, gives_same}

-- what is open stays so where a number is given
stays_for : (name other : List ℕ) (old new : ShelfView) (number n : ℕ) → OpensNumber name old new number → old.opened n ≡ Some other → (n ≡ number) ⊎ (n ≢ number) → new.opened n ≡ Some other
stays_for name other old new number n opens is (inl same) =
    ap new.opened same ∙ opens.given ∙ ap Some (sym (subst (λ o. IfSome o (λ earlier. earlier ≡ name)) (ap old.opened (sym same) ∙ is) opens.before))
stays_for name other old new number n opens is (inr apart) = opens.others n apart ∙ is

all_stay : (names : List FileName) (numbers : List ℕ) (name : List ℕ) (old new : ShelfView) (number : ℕ) → OpensNumber name old new number → AreOpen names numbers old → AreOpen names numbers new
all_stay [] numbers name old new number opens are = tt
all_stay (x ∷ names) [] name old new number opens are = absurd are
all_stay (x ∷ names) (n ∷ numbers) name old new number opens are =
    (stays_for name (file_text x) old new number n opens are.0 (cases_eq n number), all_stay names numbers name old new number opens are.1)

more_open : (place : ℕ) (names : List FileName) (numbers : List ℕ) (d : FileName) (number : ℕ) (view : ShelfView) → place < length names → place < length numbers → AreOpen (take place names) (take place numbers) view → view.opened number ≡ Some (file_text (get_or names place d)) → AreOpen (take (suc place) names) (take (suc place) (set numbers place number)) view
more_open place [] numbers d number view below room are is = absurd (omega (arith, below))
more_open place (x ∷ names) [] d number view below room are is = absurd (omega (arith, room))
more_open zero (x ∷ names) (n ∷ numbers) d number view below room are is = (is, tt)
more_open (suc place) (x ∷ names) (n ∷ numbers) d number view below room are is =
    (are.0, more_open place names numbers d number view (omega (arith, below)) (omega (arith, room)) are.1 is)

-- one file more was opened
pub open_on : (place : ℕ) (names : List FileName) (numbers : List ℕ) (d : FileName) (number : ℕ) (mid new : ShelfView) → place < length names → place < length numbers → AreOpen (take place names) (take place numbers) mid → OpensNumber (file_text (get_or names place d)) mid new number → AreOpen (take (place + 1) names) (take (place + 1) (set numbers place number)) new
open_on place names numbers d number mid new below room are opens =
    let next : suc place ≡ place + 1 = omega arith in
    subst (λ k. AreOpen (take k names) (take k (set numbers place number)) new) next
    (more_open place names numbers d number new below room (all_stay (take place names) (take place numbers) (file_text (get_or names place d)) mid new number opens are) opens.given)

-- numbers behind the last name mean nothing
pub open_longer : (count : ℕ) (names : List FileName) (numbers : List ℕ) (view : ShelfView) → AreOpen names (take count numbers) view → AreOpen names numbers view
open_longer count [] numbers view are = tt
open_longer zero (x ∷ names) numbers view are = absurd are
open_longer (suc count) (x ∷ names) [] view are = absurd are
open_longer (suc count) (x ∷ names) (n ∷ numbers) view are = (are.0, open_longer count names numbers view are.1)

-- an open number stands for its name
pub opened_at : (place : ℕ) (names : List FileName) (numbers : List ℕ) (d : FileName) (e : ℕ) (view : ShelfView) → place < length names → AreOpen names numbers view → view.opened (get_or numbers place e) ≡ Some (file_text (get_or names place d))
opened_at place [] numbers d e view below are = absurd (omega (arith, below))
opened_at place (x ∷ names) [] d e view below are = absurd are
opened_at zero (x ∷ names) (n ∷ numbers) d e view below are = are.0
opened_at (suc place) (x ∷ names) (n ∷ numbers) d e view below are = opened_at place names numbers d e view (omega (arith, below)) are.1

pub same_open : (names : List FileName) (numbers : List ℕ) (old new : ShelfView) → ((n : ℕ) → new.opened n ≡ old.opened n) → AreOpen names numbers old → AreOpen names numbers new
same_open [] numbers old new same are = tt
same_open (x ∷ names) [] old new same are = absurd are
same_open (x ∷ names) (n ∷ numbers) old new same are = (same n ∙ are.0, same_open names numbers old new same are.1)

-- while a file is open the files stay, and at first none is
pub finds_on : (place : ℕ) (names : List FileName) (numbers : List ℕ) (first mid new : ShelfView) → place < length names → AreOpen (take place names) (take place numbers) mid → (place ≡ 0 → mid ≡ first) → FindsFiles first mid → FindsFiles mid new → FindsFiles first new
finds_on place [] numbers first mid new below are same found finds = absurd (omega (arith, below))
finds_on zero (x ∷ names) numbers first mid new below are same found finds = subst (λ v. FindsFiles v new) (same refl) finds
finds_on (suc place) (x ∷ names) [] first mid new below are same found finds = absurd are
finds_on (suc place) (x ∷ names) (n ∷ numbers) first mid new below are same found finds =
    finds_then first mid new found (stays_open mid new n (file_text x) finds are.0)

-- the files that were found are there still
pub there_on : (place : ℕ) (names : List FileName) (numbers : List ℕ) (mid new : ShelfView) → place < length names → AreOpen (take place names) (take place numbers) mid → FindsFiles mid new → IfSome (files_of mid) (λ files. AreThere files (take place names)) → IfSome (files_of new) (λ files. AreThere files (take place names))
there_on place [] numbers mid new below are finds there = absurd (omega (arith, below))
there_on zero (x ∷ names) numbers mid new below are finds there = always (files_of new) (λ files. tt)
there_on (suc place) (x ∷ names) [] mid new below are finds there = absurd are
there_on (suc place) (x ∷ names) (n ∷ numbers) mid new below are finds there =
    told_before (λ files. AreThere files (take (suc place) (x ∷ names))) new mid (sym (stays_open mid new n (file_text x) finds are.0).files) there

more_there : (place : ℕ) (names : List FileName) (d : FileName) (files : Files) → place < length names → AreThere files (take place names) → IsSome (files (file_text (get_or names place d))) → AreThere files (take (suc place) names)
more_there place [] d files below are some = absurd (omega (arith, below))
more_there zero (x ∷ names) d files below are some = (some, tt)
more_there (suc place) (x ∷ names) d files below are some = (are.0, more_there place names d files (omega (arith, below)) are.1 some)

pub one_there : (place : ℕ) (names : List FileName) (d : FileName) (known : Option Files) → place < length names → IfSome known (λ files. AreThere files (take place names)) → IfSome known (λ files. IsSome (files (file_text (get_or names place d)))) → IfSome known (λ files. AreThere files (take (place + 1) names))
one_there place names d known below are some =
    let next : suc place ≡ place + 1 = omega arith in
    both_known known are some (λ files are some. subst (λ k. AreThere files (take k names)) next (more_there place names d files below are some))

absent_at : (place : ℕ) (names : List FileName) (d : FileName) (files : Files) → place < length names → AreThere files (take place names) → files (file_text (get_or names place d)) ≡ None → files_named files names ≡ Err (absent (get_or names place d))
absent_at place [] d files below are none = absurd (omega (arith, below))
absent_at zero (x ∷ names) d files below are none = ap (λ o. ok_or o (absent x) >>= λ bytes. files_named files names >>= λ found. Ok (file_of x bytes ∷ found)) none
absent_at (suc place) (x ∷ names) d files below are none =
    let text = known_name (file_text x) files (files (file_text x)) refl are.0 in
    ap (λ o. ok_or o (absent x) >>= λ bytes. files_named files names >>= λ found. Ok (file_of x bytes ∷ found)) text.1
    ∙ ap (λ r. r >>= λ found. Ok (file_of x text.0 ∷ found)) (absent_at place names d files (omega (arith, below)) are.1 none)

reached_at : (place : ℕ) (names : List FileName) (d : FileName) (files : Files) → place < length names → AreThere files (take place names) → IsReached files (get_or names place d) names
reached_at place [] d files below are = absurd (omega (arith, below))
reached_at zero (x ∷ names) d files below are = inl refl
reached_at (suc place) (x ∷ names) d files below are = inr (are.0, reached_at place names d files (omega (arith, below)) are.1)

-- a file couldn't be opened
pub found_fault : (A : Type 0) (place : ℕ) (names : List FileName) (d : FileName) (mid new : ShelfView) (fault : ChangeFault) → place < length names → IfSome (files_of new) (λ files. AreThere files (take place names)) → Opened (get_or names place d) mid new (Err fault) → IfSome (files_of new) (λ files. AreFound {A = A} files names (Err fault))
found_fault A place names d mid new NotLoaded below there h = absurd h
found_fault A place names d mid new (Sequence have) below there h = absurd h
found_fault A place names d mid new (Absent file) below there h =
    both_known (files_of new) there h.2 (λ files are none. absent_at place names d files below are none ∙ ap (λ n. Err (absent n)) (sym h.0))
found_fault A place names d mid new (Shelf file) below there h =
    weaker (files_of new) (λ files are. subst (λ n. IsReached files n names) (sym h.0) (reached_at place names d files below are)) there
found_fault A place names d mid new (TooLong file) below there h = absurd h
found_fault A place names d mid new (Malformed file line reason) below there h = absurd h
found_fault A place names d mid new (Full file line table) below there h = absurd h
found_fault A place names d mid new Station below there h = absurd h
found_fault A place names d mid new (Damaged page) below there h = absurd h
found_fault A place names d mid new Memory below there h = absurd h

-- the shelf is to blame for no more than before
pub blamed_on : (A : Type 0) (first mid new : ShelfView) (result : Result A ChangeFault) → IsUnblamed first mid → Blamed mid new result → Blamed first new result
blamed_on A first mid new (Ok x) un b = record { faults = b.faults ∙ un.faults; last = b.last ∙ un.last }
blamed_on A first mid new (Err NotLoaded) un b = record { faults = b.faults ∙ un.faults; last = b.last ∙ un.last }
blamed_on A first mid new (Err (Sequence have)) un b = record { faults = b.faults ∙ un.faults; last = b.last ∙ un.last }
blamed_on A first mid new (Err (Absent file)) un b = record { faults = b.faults ∙ un.faults; last = b.last ∙ un.last }
blamed_on A first mid new (Err (Shelf file)) un b = record { faults = subst (λ n. RisesOnce n new.faults) un.faults b.faults; last = b.last }
blamed_on A first mid new (Err (TooLong file)) un b = record { faults = b.faults ∙ un.faults; last = b.last ∙ un.last }
blamed_on A first mid new (Err (Malformed file line reason)) un b = record { faults = b.faults ∙ un.faults; last = b.last ∙ un.last }
blamed_on A first mid new (Err (Full file line table)) un b = record { faults = b.faults ∙ un.faults; last = b.last ∙ un.last }
blamed_on A first mid new (Err Station) un b = record { faults = b.faults ∙ un.faults; last = b.last ∙ un.last }
blamed_on A first mid new (Err (Damaged page)) un b = record { faults = b.faults ∙ un.faults; last = b.last ∙ un.last }
blamed_on A first mid new (Err Memory) un b = record { faults = b.faults ∙ un.faults; last = b.last ∙ un.last }

-- files that are there have bytes
all_named : (files : Files) (names : List FileName) → AreThere files names → (found : List File) × (files_named files names ≡ Ok found)
all_named files [] are = ([], refl)
all_named files (x ∷ names) are =
    let text = known_name (file_text x) files (files (file_text x)) refl are.0 in
    let later = all_named files names are.1 in (
      file_of x text.0 ∷ later.0,
      ap (λ o. ok_or o (absent x) >>= λ bytes. files_named files names >>= λ found. Ok (file_of x bytes ∷ found)) text.1
          ∙ ap (λ r. r >>= λ found. Ok (file_of x text.0 ∷ found)) later.1,
    )

-- the first file and then the others
by_first : (files : Files) (name : FileName) (names : List FileName) (gaz : Gazetteer) (bytes : List ℕ) (rest : List File) → files (file_text name) ≡ Some bytes → files_named files names ≡ Ok rest → fold_named files (name ∷ names) gaz ≡ (fold gaz (file_of name bytes ∷ []) >>= λ new. fold new rest)
by_first files name names gaz bytes rest is are =
    ap (λ o. (ok_or o (absent name) >>= λ bytes. files_named files names >>= λ found. Ok (file_of name bytes ∷ found)) >>= λ found. fold gaz found) is
    ∙ ap (λ r. (r >>= λ found. Ok (file_of name bytes ∷ found)) >>= λ found. fold gaz found) are
    ∙ fold-append gaz (file_of name bytes ∷ []) rest

-- a file was folded
named_one : (place : ℕ) (names : List FileName) (d : FileName) (files : Files) (gaz next : Gazetteer) (done : Unit) → place < length names → AreThere files names → FileGives files (get_or names place d) gaz next (Ok done) → fold_named files (drop (suc place) names) next ≡ fold_named files (drop place names) gaz
named_one place [] d files gaz next done below are m = absurd (omega (arith, below))
named_one zero (x ∷ names) d files gaz next done below are m =
    let rest = all_named files names are.1 in
    sym (by_first files x names gaz m.bytes rest.0 m.stands rest.1
    ∙ ap (λ r. r >>= λ new. fold new rest.0) m.gives
    ∙ sym (ap (λ r. r >>= λ found. fold next found) rest.1))
named_one (suc place) (x ∷ names) d files gaz next done below are m = named_one place names d files gaz next done (omega (arith, below)) are.1 m

named_on : (place : ℕ) (names : List FileName) (d : FileName) (files : Files) (gaz next : Gazetteer) (done : Unit) → place < length names → AreThere files names → FileGives files (get_or names place d) gaz next (Ok done) → fold_named files (drop (place + 1) names) next ≡ fold_named files (drop place names) gaz
named_on place names d files gaz next done below are m =
    let more : place + 1 ≡ suc place = omega arith in
    ap (λ k. fold_named files (drop k names) next) more ∙ named_one place names d files gaz next done below are m

-- a file was refused
named_fault : (place : ℕ) (names : List FileName) (d : FileName) (files : Files) (gaz any : Gazetteer) (fault : ChangeFault) → place < length names → AreThere files names → FileGives files (get_or names place d) gaz any (Err fault) → Gives any (fold_named files (drop place names) gaz) (Err fault)
named_fault place [] d files gaz any fault below are m = absurd (omega (arith, below))
named_fault zero (x ∷ names) d files gaz any fault below are m =
    let rest = all_named files names are.1 in
    gives_same any _ _ (Err fault) (sym (by_first files x names gaz m.bytes rest.0 m.stands rest.1))
    (gives_first any (fold gaz (file_of x m.bytes ∷ [])) (λ new. fold new rest.0) fault m.gives)
named_fault (suc place) (x ∷ names) d files gaz any fault below are m = named_fault place names d files gaz any fault (omega (arith, below)) are.1 m

there_front : (place : ℕ) (names : List FileName) (files : Files) → AreThere files names → AreThere files (take place names)
there_front zero names files are = tt
there_front (suc place) [] files are = tt
there_front (suc place) (x ∷ names) files are = (are.0, there_front place names files are.1)

-- the file that was folded is among them
pub reached_fault : (A : Type 0) (place : ℕ) (names : List FileName) (d : FileName) (files : Files) (fault : ChangeFault) → place < length names → AreThere files names → IsFaultOfFile (get_or names place d) fault → BlamesReached {A = A} files names (Err fault)
reached_fault A place names d files NotLoaded below are is = tt
reached_fault A place names d files (Sequence have) below are is = tt
reached_fault A place names d files (Absent file) below are is = tt
reached_fault A place names d files (Shelf file) below are is = subst (λ n. IsReached files n names) (sym is) (reached_at place names d files below (there_front place names files are))
reached_fault A place names d files (TooLong file) below are is = tt
reached_fault A place names d files (Malformed file line reason) below are is = tt
reached_fault A place names d files (Full file line table) below are is = tt
reached_fault A place names d files Station below are is = tt
reached_fault A place names d files (Damaged page) below are is = tt
reached_fault A place names d files Memory below are is = tt

three_known : {A B C D : Files → Type 0} (known : Option Files) → IfSome known A → IfSome known B → IfSome known C → ((files : Files) → A files → B files → C files → D files) → IfSome known D
three_known None a b c f = tt
three_known (Some files) a b c f = f files a b c

-- A store that stood for a gazetteer stands for the one of which the files that are left make what all of them make of the first.
pub record FilesStored (known : Option Files) (names : List FileName) (place : ℕ) (first : Gazetteer) (v : PagesView) (root : Root) : Type 0 where
  pub next : Gazetteer
  pub date : next.date ≡ first.date
  pub stands : IsStore next v root
  pub folded : IfSome known (λ files. fold_named files (drop place names) next ≡ fold_named files names first)

all_folded : (place : ℕ) (names : List FileName) (files : Files) (gaz : Gazetteer) → drop place names ≡ [] → fold_named files (drop place names) gaz ≡ Ok gaz
all_folded place names files gaz none = ap (λ left. fold_named files left gaz) none

all_given : (known : Option Files) (names : List FileName) (place : ℕ) (first next : Gazetteer) → drop place names ≡ [] → IfSome known (λ files. fold_named files (drop place names) next ≡ fold_named files names first) → IfSome known (λ files. fold_named files names first ≡ Ok next)
all_given None names place first next none same = tt
all_given (Some files) names place first next none same = sym same ∙ all_folded place names files next none

-- all files were stepped in
pub folds_named : (known : Option Files) (names : List FileName) (place : ℕ) (first : Gazetteer) (v : PagesView) (root : Root) → drop place names ≡ [] → FilesStored known names place first v root
    → Folds known (λ files. fold_named files names first) first v root (Ok tt)
folds_named known names place first v root none s = record {
  next = s.next;
  date = s.date;
  stands = s.stands;
  gives = all_given known names place first s.next none s.folded;
  sound = tt;
}

-- how many pages were changed, after all files
pub few_all : (first now place : ℕ) (names : List FileName) (known : Option Files) → drop place names ≡ [] → IfSome known (λ files. now + 320 * lines_of files (drop place names) ≤ first + 320 * lines_of files names) → IfSome known (λ files. now ≤ first + 320 * lines_of files names)
few_all first now place names known none few = weaker known (λ files few. let at_end = subst (λ left. now + 320 * lines_of files left ≤ first + 320 * lines_of files names) none few in omega (arith, at_end)) few

-- how many pages one file changed, by its bytes
pub few_file : (name : FileName) (mid new : ℕ) (view : ShelfView) (number : ℕ) (known : Option Files) → view.opened number ≡ Some (file_text name) → files_of view ≡ known → IfSome known (λ files. IsSome (files (file_text name)))
    → IfSome (bytes_of view number) (λ bytes. new ≤ mid + 320 * length (lines_within bytes)) → IfSome known (λ files. new ≤ mid + 320 * lines_of files (name ∷ []))
few_file name mid new view number known is same some few =
    of_file (λ bytes. new ≤ mid + 320 * length (lines_within bytes)) (λ files. new ≤ mid + 320 * lines_of files (name ∷ [])) view number (file_text name) known is same some few
    (λ files text stands few.
    let count = ap (λ (o : Option (List ℕ)). length (lines_within (unwrap_or o []))) stands in
    omega (arith, few, count))

-- what a refused file leaves of the pages
pub costs_on : (first mid new : PagesView) (fault : ChangeFault) → FoldCosts first mid (Ok tt) → FoldCosts mid new (Err fault) → FoldCosts first new (Err fault)
costs_on first mid new fault before costs =
    let a = before.reads_grow in
    let b = costs.reads_grow in
    record {
      told = costs.told ∙ before.told;
      read_only = costs.read_only ∙ before.read_only;
      reads_grow = omega (arith, a, b);
      faults = faults fault costs.faults;
      starved = starved fault costs.starved;
    }
  where
    faults : (fault : ChangeFault) → FailsOnce mid.faults new.faults (Err fault) → FailsOnce first.faults new.faults (Err fault)
    faults NotLoaded is = is ∙ before.faults
    faults (Sequence have) is = is ∙ before.faults
    faults (Absent file) is = is ∙ before.faults
    faults (Shelf file) is = is ∙ before.faults
    faults (TooLong file) is = is ∙ before.faults
    faults (Malformed file line reason) is = is ∙ before.faults
    faults (Full file line table) is = is ∙ before.faults
    faults Station is = subst (λ n. RisesOnce n new.faults) before.faults is
    faults (Damaged page) is = is ∙ before.faults
    faults Memory is = is ∙ before.faults

    starved : (fault : ChangeFault) → Starves mid.is_starved new.is_starved (Err fault) → Starves first.is_starved new.is_starved (Err fault)
    starved NotLoaded is = is ∙ before.starved
    starved (Sequence have) is = is ∙ before.starved
    starved (Absent file) is = is ∙ before.starved
    starved (Shelf file) is = is ∙ before.starved
    starved (TooLong file) is = is ∙ before.starved
    starved (Malformed file line reason) is = is ∙ before.starved
    starved (Full file line table) is = is ∙ before.starved
    starved Station is = is ∙ before.starved
    starved (Damaged page) is = is ∙ before.starved
    starved Memory is = λ was. is (subst IsTrue (sym before.starved) was)

-- what is known of one file of those that are there
module _ (place : ℕ) (names : List FileName) (name : FileName) (known : Option Files) (below : place < length names) (is : name ≡ get_or names place name) (there : IfSome known (λ files. AreThere files names)) where
  there_at : (place : ℕ) (names : List FileName) (d : FileName) (files : Files) → place < length names → AreThere files names → IsSome (files (file_text (get_or names place d)))
  there_at place [] d files below are = absurd (omega (arith, below))
  there_at zero (x ∷ names) d files below are = are.0
  there_at (suc place) (x ∷ names) d files below are = there_at place names d files (omega (arith, below)) are.1

  pub file_there : IfSome known (λ files. IsSome (files (file_text name)))
  file_there = weaker known (λ files are. subst (λ n. IsSome (files (file_text n))) (sym is) (there_at place names name files below are)) there

  pub fold_refused : (first gaz any : Gazetteer) (fault : ChangeFault) → IfSome known (λ files. FileGives files name gaz any (Err fault)) → IfSome known (λ files. fold_named files (drop place names) gaz ≡ fold_named files names first) → IfSome known (λ files. Gives any (fold_named files names first) (Err fault))
  fold_refused first gaz any fault gives folded =
      three_known known there gives folded (λ files are m same.
      gives_same any _ _ (Err fault) same (named_fault place names name files gaz any fault below are (subst (λ n. FileGives files n gaz any (Err fault)) is m)))

  pub fold_goes_on : (first gaz next : Gazetteer) (done : Unit) → IfSome known (λ files. FileGives files name gaz next (Ok done)) → IfSome known (λ files. fold_named files (drop place names) gaz ≡ fold_named files names first) → IfSome known (λ files. fold_named files (drop (place + 1) names) next ≡ fold_named files names first)
  fold_goes_on first gaz next done gives folded =
      three_known known there gives folded (λ files are m same.
      named_on place names name files gaz next done below are (subst (λ n. FileGives files n gaz next (Ok done)) is m) ∙ same)

  first_line_count : (place : ℕ) (names : List FileName) (d : FileName) (files : Files) → place < length names → lines_of files (drop place names) ≡ lines_of files (get_or names place d ∷ []) + lines_of files (drop (suc place) names)
  first_line_count place [] d files below = absurd (omega (arith, below))
  first_line_count zero (x ∷ names) d files below =
      let one : lines_of files (x ∷ []) ≡ length (lines_within (unwrap_or (files (file_text x)) [])) = omega arith in
      sum_by-cons (λ name. length (lines_within (unwrap_or (files (file_text name)) []))) x names ∙ ap (λ k. k + lines_of files names) (sym one)
  first_line_count (suc place) (x ∷ names) d files below = first_line_count place names d files (omega (arith, below))

  -- how many pages were changed, after one file more
  pub few_on : (first mid new : ℕ) → IfSome known (λ files. mid + 320 * lines_of files (drop place names) ≤ first + 320 * lines_of files names) → IfSome known (λ files. new ≤ mid + 320 * lines_of files (name ∷ [])) → IfSome known (λ files. new + 320 * lines_of files (drop (place + 1) names) ≤ first + 320 * lines_of files names)
  few_on first mid new before more =
      both_known known before more (λ files before more.
      let next : suc place ≡ place + 1 = omega arith in
      let split = subst (λ k. lines_of files (drop place names) ≡ lines_of files (name ∷ []) + lines_of files (drop k names)) next (subst (λ n. lines_of files (drop place names) ≡ lines_of files (n ∷ []) + lines_of files (drop (suc place) names)) (sym is) (first_line_count place names name files below)) in
      omega (arith, before, more, split))

  pub fault_reached : (A : Type 0) (fault : ChangeFault) → IsFaultOfFile name fault → IfSome known (λ files. BlamesReached {A = A} files names (Err fault))
  fault_reached A fault of = weaker known (λ files are. reached_fault A place names name files fault below are (subst (λ n. IsFaultOfFile n fault) is of)) there
