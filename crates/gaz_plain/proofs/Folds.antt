-- What holds of the gazetteers that items lead to, and how items of files are told apart and joined.
use Rattle.std.proofs.Common.{◌≡◌, ℕ, zero, suc, ◌+◌, ◌<◌, Bool, true, false, List, [], ◌∷◌, ◌++◌, length, Result, Ok, Err, IfOk, IsTrue, refl, ap, arith}
use Rattle.std.specs.Prelude.{if◌then◌else◌}
use Rattle.std.proofs.lemmas.Grind.{flat_map-append}
use Rattle.std.proofs.lemmas.List.Sums.{sum_by-cons}
use Rattle.gaz_num.specs.declared.words.Kind.{Kind}
use Rattle.gaz_num.specs.declared.words.FileName.{FileName}
use Rattle.gaz_num.specs.Pieces.{lines_within, is_too_long}
use Rattle.gaz_num.specs.Refusal.{Refusal, ◌>>=◌}
use Rattle.gaz_num.specs.Words.{kind_of_file}
use Rattle.gaz_plain.specs.Gazetteer.{Gazetteer, LineFault, is_one_line, after_line}
use Rattle.gaz_plain.specs.Fold.{File, Item, line, overrun, lines_from, items_of, items_in, in_place, after_item, after_items, fold, up_to_line, part}
use Rattle.gaz_plain.specs.Laws.{line_count}
use Rattle.gaz_plain.proofs.OneLine.{AreOneLines, lines_within_are}

-- no line among these items has an LF
abbrev pub AreWhole : List Item → Type 0
AreWhole [] = Unit {0}
AreWhole (line name n bytes ∷ items) = IsTrue (is_one_line bytes) × AreWhole items
AreWhole (overrun name ∷ items) = AreWhole items

whole-append : (xs ys : List Item) → AreWhole xs → AreWhole ys → AreWhole (xs ++ ys)
whole-append [] ys left right = right
whole-append (line name n bytes ∷ xs) ys left right = (left.0, whole-append xs ys left.1 right)
whole-append (overrun name ∷ xs) ys left right = whole-append xs ys left right

whole_lines : (name : FileName) (n : ℕ) (texts : List (List ℕ)) → AreOneLines texts → AreWhole (lines_from name n texts)
whole_lines name n [] are = tt
whole_lines name n (text ∷ texts) are = (are.0, whole_lines name (suc n) texts are.1)

whole_end : (name : FileName) (test : Bool) → AreWhole (if test then overrun name ∷ [] else [])
whole_end name true = tt
whole_end name false = tt

-- the lines of files are whole
pub whole_items : (files : List File) → AreWhole (items_in files)
whole_items [] = tt
whole_items (file ∷ files) =
    let here = whole_lines file.name 1 (lines_within file.bytes) (lines_within_are file.bytes) in
    let end = whole_end file.name (is_too_long file.bytes) in
    whole-append (items_of file) (items_in files) (whole-append (lines_from file.name 1 (lines_within file.bytes)) (if is_too_long file.bytes then overrun file.name ∷ [] else []) here end) (whole_items files)

-- so are those up to a line
pub whole-up_to_line : (n : ℕ) (items : List Item) → AreWhole items → AreWhole (up_to_line n items)
whole-up_to_line zero items are = tt
whole-up_to_line (suc n) [] are = tt
whole-up_to_line (suc n) (line name number bytes ∷ items) are = (are.0, whole-up_to_line n items are.1)
whole-up_to_line (suc n) (overrun name ∷ items) are = whole-up_to_line (suc n) items are

-- what holds of the result of the second where it holds of all to which the first may lead
pub IfOk-bind : {A B E : Type 0} (P : B → Type 0) (r : Result A E) (f : A → Result B E) → IfOk r (λ x. IfOk (f x) P) → IfOk (r >>= f) P
IfOk-bind P (Ok x) f holds = holds
IfOk-bind P (Err e) f holds = tt

pub IfOk-always : {A E : Type 0} (P : A → Type 0) (r : Result A E) → ((x : A) → P x) → IfOk r P
IfOk-always P (Ok x) holds = holds x
IfOk-always P (Err e) holds = tt

pub IfOk-weaker : {A E : Type 0} (P Q : A → Type 0) (r : Result A E) → IfOk r P → ((x : A) → P x → Q x) → IfOk r Q
IfOk-weaker P Q (Ok x) holds implies = implies x holds
IfOk-weaker P Q (Err e) holds implies = tt

-- A line without LF that is taken keeps P.
abbrev pub LinesKeep : (Gazetteer → Type 0) → Type 0
LinesKeep P = (gaz : Gazetteer) (kind : Kind) (bytes : List ℕ) → IsTrue (is_one_line bytes) → P gaz → IfOk (after_line gaz kind bytes) P

in_place_keeps : (P : Gazetteer → Type 0) (name : FileName) (n : ℕ) (r : Result Gazetteer LineFault) → IfOk r P → IfOk (in_place name n r) P
in_place_keeps P name n (Ok gaz) holds = holds
in_place_keeps P name n (Err fault) holds = tt

-- what each line keeps, all do
pub items_keep : (P : Gazetteer → Type 0) → LinesKeep P → (items : List Item) (gaz : Gazetteer) → AreWhole items → P gaz → IfOk (after_items gaz items) P
items_keep P keep [] gaz are holds = holds
items_keep P keep (line name n bytes ∷ items) gaz are holds =
    IfOk-bind P (in_place name n (after_line gaz (kind_of_file name) bytes)) (λ new. after_items new items)
    (IfOk-weaker P (λ new. IfOk (after_items new items) P) (in_place name n (after_line gaz (kind_of_file name) bytes))
    (in_place_keeps P name n (after_line gaz (kind_of_file name) bytes) (keep gaz (kind_of_file name) bytes are.0 holds))
    (λ new stays. items_keep P keep items new are.1 stays))
items_keep P keep (overrun name ∷ items) gaz are holds = tt

pub fold_keeps : (P : Gazetteer → Type 0) → LinesKeep P → (gaz : Gazetteer) (files : List File) → P gaz → IfOk (fold gaz files) P
fold_keeps P keep gaz files holds = items_keep P keep (items_in files) gaz (whole_items files) holds

pub part_keeps : (P : Gazetteer → Type 0) → LinesKeep P → (gaz : Gazetteer) (files : List File) (n : ℕ) → P gaz → IfOk (part gaz files n) P
part_keeps P keep gaz files n holds = items_keep P keep (up_to_line n (items_in files)) gaz (whole-up_to_line n (items_in files) (whole_items files)) holds

after_two : (r : Result Gazetteer Refusal) (xs ys : List Item) → ((gaz : Gazetteer) → after_items gaz (xs ++ ys) ≡ (after_items gaz xs >>= λ new. after_items new ys)) → (r >>= λ new. after_items new (xs ++ ys)) ≡ ((r >>= λ new. after_items new xs) >>= λ new. after_items new ys)
after_two (Ok gaz) xs ys joined = joined gaz
after_two (Err refusal) xs ys joined = refl

-- items behind others
pub after_items-append : (xs ys : List Item) (gaz : Gazetteer) → after_items gaz (xs ++ ys) ≡ (after_items gaz xs >>= λ new. after_items new ys)
after_items-append [] ys gaz = refl
after_items-append (x ∷ xs) ys gaz = after_two (after_item gaz x) xs ys (after_items-append xs ys)

pub fold-append : (gaz : Gazetteer) (files more : List File) → fold gaz (files ++ more) ≡ (fold gaz files >>= λ new. fold new more)
fold-append gaz files more = rw (flat_map-append items_of files more) (after_items-append (items_in files) (items_in more) gaz)

-- how many of the items are lines
abbrev count_of : List Item → ℕ
count_of [] = 0
count_of (line name n bytes ∷ items) = suc (count_of items)
count_of (overrun name ∷ items) = count_of items

count_of-append : (xs ys : List Item) → count_of (xs ++ ys) ≡ count_of xs + count_of ys
count_of-append [] ys = omega arith
count_of-append (line name n bytes ∷ xs) ys = omega (arith, count_of-append xs ys)
count_of-append (overrun name ∷ xs) ys = count_of-append xs ys

count_of_lines : (name : FileName) (n : ℕ) (texts : List (List ℕ)) → count_of (lines_from name n texts) ≡ length texts
count_of_lines name n [] = refl
count_of_lines name n (text ∷ texts) = ap suc (count_of_lines name (suc n) texts)

count_of_end : (name : FileName) (test : Bool) → count_of (if test then overrun name ∷ [] else []) ≡ 0
count_of_end name true = refl
count_of_end name false = refl

count_of_items : (files : List File) → count_of (items_in files) ≡ line_count files
count_of_items [] = refl
count_of_items (file ∷ files) =
    let count = λ (f : File). length (lines_within f.bytes) in
    let texts = lines_from file.name 1 (lines_within file.bytes) in
    let end = if is_too_long file.bytes then overrun file.name ∷ [] else [] in
    omega (arith, count_of-append (items_of file) (items_in files), count_of-append texts end, count_of_lines file.name 1 (lines_within file.bytes), count_of_end file.name (is_too_long file.bytes), sum_by-cons count file files, count_of_items files)

up_to_all : (n : ℕ) (items : List Item) → count_of items < n → up_to_line n items ≡ items
up_to_all zero items less = absurd (omega arith)
up_to_all (suc n) [] less = refl
up_to_all (suc n) (line name number bytes ∷ items) less = ap (λ rest. line name number bytes ∷ rest) (up_to_all n items (omega arith))
up_to_all (suc n) (overrun name ∷ items) less = ap (λ rest. overrun name ∷ rest) (up_to_all (suc n) items less)

-- a part that doesn't stop
pub part-fold : (gaz : Gazetteer) (files : List File) (n : ℕ) → line_count files < n → part gaz files n ≡ fold gaz files
part-fold gaz files n less = ap (after_items gaz) (up_to_all n (items_in files) (omega (arith, count_of_items files)))
