-- What is left of a file, where the shelf tells the same as before.
use Rattle.std.proofs.Common.{◌≡◌, ℕ, ◌+◌, Bool, true, false, cond, List, ◌++◌, take, drop, refl, ap, sym, ◌∙◌, Option, Some, None}
use Rattle.std.specs.Prelude.{IfSome, option_map, option_and_then}
use Rattle.std.specs.Io.KnownBytes.{prepend_known}
use Rattle.std.proofs.lemmas.List.{take-append-drop, drop-drop}
use Rattle.gaz_outside.specs.Outside.{ShelfView, SameFiles, SameNumbers, files_of, bytes_of}
use Rattle.gaz_lines.specs.Files.{left_at}

-- the file of a name, where the files are told
file_of : Option (List ℕ → Option (List ℕ)) → Option (List ℕ) → Option (List ℕ)
file_of (Some files) name = option_and_then files name
file_of None name = None

told_file : (t : Bool) (files : List ℕ → Option (List ℕ)) (name : Option (List ℕ)) → cond t (option_and_then files name) None ≡ file_of (cond t (Some files) None) name
unfolding file_of
told_file true files name = refl
told_file false files name = refl

bytes_are : (shelf : ShelfView) (number : ℕ) → bytes_of shelf number ≡ file_of (files_of shelf) (shelf.opened number)
unfolding bytes_of files_of
bytes_are shelf number = told_file shelf.is_told shelf.files (shelf.opened number)

pub same_bytes : (old new : ShelfView) (number : ℕ) → SameFiles old new → SameNumbers old new → bytes_of new number ≡ bytes_of old number
same_bytes old new number same numbers =
    bytes_are new number
    ∙ ap (λ files. file_of files (new.opened number)) same.files
    ∙ ap (file_of (files_of old)) (numbers number)
    ∙ sym (bytes_are old number)

pub same_left : (old new : ShelfView) (file at : ℕ) → SameFiles old new → SameNumbers old new → left_at new file at ≡ left_at old file at
same_left old new file at same numbers = ap (option_map (λ bytes. drop at bytes)) (same_bytes old new file same numbers)

behind : (known : Option (List ℕ)) (chunk : List ℕ) (at n : ℕ) → IfSome known (λ bytes. chunk ≡ take n (drop at bytes)) → option_map (λ bytes. drop at bytes) known ≡ prepend_known chunk (option_map (λ bytes. drop (at + n) bytes) known)
behind None chunk at n read = refl
behind (Some bytes) chunk at n read =
    ap Some
    (sym (take-append-drop n (drop at bytes))
    ∙ ap (λ xs. take n (drop at bytes) ++ xs) (drop-drop n at bytes)
    ∙ ap (λ xs. xs ++ drop (at + n) bytes) (sym read))

-- what was read stands in front of what is left now
pub left_behind : (old new : ShelfView) (file at n : ℕ) (chunk : List ℕ) → SameFiles old new → SameNumbers old new → IfSome (bytes_of old file) (λ bytes. chunk ≡ take n (drop at bytes)) → left_at old file at ≡ prepend_known chunk (left_at new file (at + n))
left_behind old new file at n chunk same numbers read =
    behind (bytes_of old file) chunk at n read
    ∙ ap (λ known. prepend_known chunk (option_map (λ bytes. drop (at + n) bytes) known)) (sym (same_bytes old new file same numbers))
