-- A file's lines, folded one after another.
use Rattle.std.proofs.Common.{◌≡◌, ℕ, suc, ◌+◌, ◌^◌, ◌<◌, drop, Bool, true, false, List, [], ◌∷◌, ◌++◌, length, refl, ap, arith, Option, Some, None, append_assoc, length-append, ◌∙◌, sym, subst, IsTrue}
use Rattle.std.specs.Prelude.{IfSome, option_map, Result, Ok, Err, if◌then◌else◌, nat_le}
use Rattle.std.proofs.lemmas.Grind.{common_steps}
use Rattle.std.proofs.lemmas.List.{append-nil}
use Rattle.gaz_num.specs.declared.words.Kind.{Kind}
use Rattle.gaz_num.specs.declared.words.FileName.{FileName}
use Rattle.gaz_num.specs.declared.words.Reason.TheVariants.{Length}
use Rattle.gaz_num.specs.Check.{reason_against}
use Rattle.gaz_num.specs.Pieces.{lines_within, is_too_long}
use Rattle.gaz_num.specs.Refusal.{Refusal, malformed, too_long, ◌>>=◌}
use Rattle.gaz_num.specs.Words.{kind_of_file}
use Rattle.gaz_lines.specs.Lines.{IsLine, Rest, onto}
use Rattle.gaz_lines.proofs.Rests.{rest_with}
use Rattle.gaz_lines.proofs.Told.{Told, told_start, told_line, told_too_long, told_end}
use Rattle.gaz_plain.specs.Gazetteer.{Gazetteer, LineFault, is_one_line, after_line, after_check, malformed as malformed_line, full as full_line}
use Rattle.gaz_rows.specs.declared.fault.StepFault.{StepFault}
use Rattle.gaz_rows.specs.declared.fault.StepFault.TheVariants as step
use Rattle.gaz_rows.specs.Store.{IsStepFaultOf}
use Rattle.gaz_outside.specs.Outside.{ShelfView, bytes_of}
use Rattle.gaz_lines.specs.Cutter.{rest, line_limit_of, file_limit_of, line_of, place_of, IsFresh}
use Rattle.gaz_lines.specs.Files.{left_at, place_in}
use Rattle.gaz_lines.specs.declared.cutter.LineCutter.{LineCutter}
use Rattle.gaz_change.specs.Change.{Gives, fault_at}
use Rattle.gaz_plain.specs.Fold.{File, Item, line as line_item, overrun, lines_from, items_of, in_place, refusal_at, after_items, fold}
use Rattle.gaz_plain.proofs.Folds.{after_items-append}

-- a line without LF, as a test
pub one_line_from : (text : List ℕ) → IsLine text → IsTrue (is_one_line text)
one_line_from [] is = refl
one_line_from (b ∷ text) is =
    let other = is.0 in
    let later = one_line_from text is.1 in
    grind (arith, common_steps)

lines_from-append : (name : FileName) (n : ℕ) (xs ys : List (List ℕ)) → lines_from name n (xs ++ ys) ≡ lines_from name n xs ++ lines_from name (n + length xs) ys
lines_from-append name n [] ys = ap (λ k. lines_from name k ys) (omega arith)
lines_from-append name n (x ∷ xs) ys =
    let next : suc n + length xs ≡ n + suc (length xs) = omega arith in
    ap (λ items. line_item name n x ∷ items) (lines_from-append name (suc n) xs ys ∙ ap (λ k. lines_from name (suc n) xs ++ lines_from name k ys) next)

-- Of told bytes these lines were folded, and no more.
pub record Folded (name : FileName) (first gaz : Gazetteer) (number : ℕ) (now : Option Rest) (bytes : List ℕ) : Type 0 where
  pub given : List (List ℕ)
  pub told : Told 65535 given now bytes
  pub numbered : number ≡ length given
  pub folded : after_items first (lines_from name 1 given) ≡ Ok gaz

-- the items behind the lines of a file
abbrev ending : FileName → Bool → List Item
ending name past = if past then overrun name ∷ [] else []

-- what is folded behind lines that were
behind : (name : FileName) (first gaz : Gazetteer) (given later : List (List ℕ)) (items : List Item) → after_items first (lines_from name 1 given) ≡ Ok gaz → after_items first (lines_from name 1 (given ++ later) ++ items) ≡ after_items gaz (lines_from name (suc (length given)) later ++ items)
behind name first gaz given later items folded =
    let number : 1 + length given ≡ suc (length given) = omega arith in
    ap (λ xs. after_items first (xs ++ items)) (lines_from-append name 1 given later)
    ∙ ap (after_items first) (append_assoc (lines_from name 1 given) (lines_from name (1 + length given) later) items)
    ∙ after_items-append (lines_from name 1 given) (lines_from name (1 + length given) later ++ items) first
    ∙ ap (λ r. r >>= λ new. after_items new (lines_from name (1 + length given) later ++ items)) folded
    ∙ ap (λ k. after_items gaz (lines_from name k later ++ items)) number

abbrev pub file_of : FileName → List ℕ → File
file_of name bytes = record { name = name; bytes = bytes }

-- the fold of a file whose lines begin with those that were folded
fold_behind : (name : FileName) (first gaz : Gazetteer) (given later : List (List ℕ)) (bytes : List ℕ) → lines_within bytes ≡ given ++ later → after_items first (lines_from name 1 given) ≡ Ok gaz → fold first (file_of name bytes ∷ []) ≡ after_items gaz (lines_from name (suc (length given)) later ++ ending name (is_too_long bytes))
fold_behind name first gaz given later bytes lines_are folded =
    ap (after_items first) (append-nil (items_of (file_of name bytes)))
    ∙ ap (λ ls. after_items first (lines_from name 1 ls ++ ending name (is_too_long bytes))) lines_are
    ∙ behind name first gaz given later (ending name (is_too_long bytes)) folded

-- after the last line
pub fold_ends : (name : FileName) (first gaz : Gazetteer) (number : ℕ) (now : Option Rest) (bytes : List ℕ) → Folded name first gaz number now bytes → IfSome now (λ rest. rest ≡ rest_with [] false) → fold first (file_of name bytes ∷ []) ≡ Ok gaz
fold_ends name first gaz number now bytes f none =
    let e = told_end 65535 f.given now bytes false f.told none in
    fold_behind name first gaz f.given [] bytes (e.0 ∙ sym (append-nil f.given)) f.folded
    ∙ ap (λ past. after_items gaz (ending name past)) e.1

-- after the last line of a file that is too long
pub fold_overruns : (name : FileName) (first gaz : Gazetteer) (number : ℕ) (now : Option Rest) (bytes : List ℕ) → Folded name first gaz number now bytes → IfSome now (λ rest. rest ≡ rest_with [] true) → fold first (file_of name bytes ∷ []) ≡ Err (too_long name)
fold_overruns name first gaz number now bytes f none =
    let e = told_end 65535 f.given now bytes true f.told none in
    fold_behind name first gaz f.given [] bytes (e.0 ∙ sym (append-nil f.given)) f.folded
    ∙ ap (λ past. after_items gaz (ending name past)) e.1

-- the line behind those that were folded is refused
line_refused : (name : FileName) (gaz : Gazetteer) (n m : ℕ) (line : List ℕ) (later : List Item) (fault : LineFault) → n ≡ m → after_line gaz (kind_of_file name) line ≡ Err fault → after_items gaz (line_item name n line ∷ later) ≡ Err (refusal_at name m fault)
line_refused name gaz n m line later fault same bad =
    ap (λ r. in_place name n r >>= λ new. after_items new later) bad ∙ ap (λ k. Err (refusal_at name k fault)) same

pub fold_refuses : (name : FileName) (first gaz : Gazetteer) (number : ℕ) (line : List ℕ) (now later : Option Rest) (bytes : List ℕ) (fault : LineFault) → Folded name first gaz number now bytes → now ≡ option_map (onto (Some line)) later → after_line gaz (kind_of_file name) line ≡ Err fault → fold first (file_of name bytes ∷ []) ≡ Err (refusal_at name (number + 1) fault)
fold_refuses name first gaz number line now later bytes fault f gives bad =
    let next = told_line 65535 f.given line now later bytes gives f.told in
    let is = f.numbered in
    fold_behind name first gaz f.given (line ∷ next.later) bytes (next.lines_are ∙ append_assoc f.given (line ∷ []) next.later) f.folded
    ∙ line_refused name gaz (suc (length f.given)) (number + 1) line (lines_from name (suc (suc (length f.given))) next.later ++ ending name (is_too_long bytes)) fault (omega (arith, is)) bad

le_false : (n most : ℕ) → most < n → nat_le n most ≡ false
le_false n most h = grind (arith, common_steps)

-- a line that is too long is refused for its length
long_is_refused : (kind : Kind) (text : List ℕ) → 65535 < length text → reason_against kind text ≡ Some Length
unfolding reason_against
long_is_refused kind text long = rw (le_false (length text) 65535 long) refl

long_line : (gaz : Gazetteer) (kind : Kind) (text : List ℕ) → 65535 < length text → after_line gaz kind text ≡ Err (malformed_line Length)
unfolding after_line
long_line gaz kind text long = ap (after_check gaz kind text) (long_is_refused kind text long)

-- the line behind those that were folded is too long
pub fold_too_long : (name : FileName) (first gaz : Gazetteer) (number : ℕ) (now later : Option Rest) (bytes : List ℕ) → Folded name first gaz number now bytes → now ≡ option_map (onto None) later → fold first (file_of name bytes ∷ []) ≡ Err (malformed name (number + 1) Length)
fold_too_long name first gaz number now later bytes f gives =
    let next = told_too_long 65535 f.given now later bytes gives f.told in
    let is = f.numbered in
    fold_behind name first gaz f.given (next.0 ∷ next.2.later) bytes (next.2.lines_are ∙ append_assoc f.given (next.0 ∷ []) next.2.later) f.folded
    ∙ line_refused name gaz (suc (length f.given)) (number + 1) next.0 (lines_from name (suc (suc (length f.given))) next.2.later ++ ending name (is_too_long bytes)) (malformed_line Length) (omega (arith, is)) (long_line gaz (kind_of_file name) next.0 next.1)

-- one more line is folded
pub folded_line : (name : FileName) (first gaz new : Gazetteer) (number number_now : ℕ) (line : List ℕ) (now later : Option Rest) (bytes : List ℕ) → Folded name first gaz number now bytes → number_now ≡ number + 1 → now ≡ option_map (onto (Some line)) later → after_line gaz (kind_of_file name) line ≡ Ok new → Folded name first new number_now later bytes
folded_line name first gaz new number number_now line now later bytes f counts gives good =
    let is = f.numbered in
    record {
      given = f.given ++ line ∷ [];
      told = told_line 65535 f.given line now later bytes gives f.told;
      numbered = omega (arith, counts, is, length-append f.given (line ∷ []));
      folded =
          ap (after_items first) (sym (append-nil (lines_from name 1 (f.given ++ line ∷ []))))
          ∙ behind name first gaz f.given (line ∷ []) [] f.folded
          ∙ ap (λ r. in_place name (suc (length f.given)) r >>= λ next. after_items next []) good;
    }

pub if_some_map : {A B : List ℕ → Type 0} (o : Option (List ℕ)) → ((x : List ℕ) → A x → B x) → IfSome o A → IfSome o B
if_some_map None f h = tt
if_some_map (Some x) f h = f x h

-- before the first line
folded_first : (name : FileName) (gaz : Gazetteer) (number : ℕ) (now : Option Rest) (bytes : List ℕ) → number ≡ 0 → Told 65535 [] now bytes → Folded name gaz gaz number now bytes
folded_first name gaz number now bytes none told = record { given = []; told = told; numbered = none; folded = refl }

pub folded_start : (name : FileName) (gaz : Gazetteer) (cutter : LineCutter) (shelf : ShelfView) (file : ℕ) → IsFresh cutter → line_limit_of cutter ≡ 65535 → file_limit_of cutter ≡ 2 ^ 40 → IfSome (bytes_of shelf file) (λ bytes. Folded name gaz gaz (line_of cutter) (rest cutter (left_at shelf file (place_of cutter))) bytes)
folded_start name gaz cutter shelf file fresh line_limit file_limit =
    subst (λ reads. IfSome (bytes_of shelf file) (λ bytes. Folded name gaz gaz (line_of cutter) (rest cutter (left_at shelf file (place_in reads))) bytes)) (sym fresh.reads)
    (at_front (bytes_of shelf file))
  where
    at_front : (known : Option (List ℕ)) → IfSome known (λ bytes. Folded name gaz gaz (line_of cutter) (rest cutter (option_map (λ bytes. drop 0 bytes) known)) bytes)
    at_front None = tt
    at_front (Some bytes) = folded_first name gaz (line_of cutter) (rest cutter (Some bytes)) bytes fresh.number (told_start 65535 cutter (Some bytes) fresh line_limit file_limit)

-- what a fold comes to where a line has a fault
pub gives_fault : (any : Gazetteer) (name : FileName) (number : ℕ) (defined : Result Gazetteer Refusal) (taken : Result Gazetteer LineFault) (fault : StepFault) → IsStepFaultOf taken fault → ((why : LineFault) → taken ≡ Err why → defined ≡ Err (refusal_at name number why)) → Gives any defined (Err (fault_at name number fault))
gives_fault any name number defined taken (step.Malformed reason) is refuses = refuses (malformed_line reason) is
gives_fault any name number defined taken (step.Full table) is refuses = refuses (full_line table) is
gives_fault any name number defined taken step.Failed is refuses = tt
gives_fault any name number defined taken (step.Damaged page) is refuses = absurd is
gives_fault any name number defined taken step.Memory is refuses = tt
