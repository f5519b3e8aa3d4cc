-- What files come to, from what one file comes to.
use Rattle.std.proofs.Common.{◌≡◌, ℕ, [], ◌∷◌, Bool, true, false, List, Option, Some, None, refl, ap, ◌∙◌, sym, subst, inl, inr}
use Rattle.std.specs.Prelude.{IfSome, IsSome, Result, Err, option_and_then, if◌then◌else◌}
use Rattle.gaz_outside.specs.Outside.{ShelfView, FindsFiles, SameFiles, files_of, bytes_of}
use Rattle.gaz_num.specs.declared.words.FileName.{FileName}
use Rattle.gaz_num.specs.Refusal.{Refusal, ◌>>=◌}
use Rattle.gaz_num.specs.Words.{file_text}
use Rattle.gaz_plain.specs.Gazetteer.{Gazetteer}
use Rattle.gaz_plain.specs.Fold.{fold}
use Rattle.gaz_plain.specs.Load.{Files}
use Rattle.gaz_rows.specs.declared.fault.ChangeFault.{ChangeFault}
use Rattle.gaz_rows.specs.declared.fault.ChangeFault.TheVariants.{NotLoaded, Sequence, Absent, Shelf, TooLong, Malformed, Full, Station, Damaged, Memory}
use Rattle.gaz_change.specs.Change.{Gives}
use Rattle.gaz_change.proofs.Folding.{file_of}

pub always : {A : Type 0} {P : A → Type 0} (o : Option A) → ((x : A) → P x) → IfSome o P
always None f = tt
always (Some x) f = f x

pub weaker : {X : Type 0} {A B : X → Type 0} (o : Option X) → ((x : X) → A x → B x) → IfSome o A → IfSome o B
weaker None f h = tt
weaker (Some x) f h = f x h

told_bytes : (told : Bool) (files : Files) (opened : Option (List ℕ)) (name : List ℕ) → opened ≡ Some name → (if told then option_and_then files opened else None) ≡ option_and_then (λ files. files name) (if told then Some files else None)
told_bytes true files opened name is = ap (option_and_then files) is
told_bytes false files opened name is = refl

-- the bytes for which a number stands are those of the file
pub bytes_named : (view : ShelfView) (number : ℕ) (name : List ℕ) → view.opened number ≡ Some name → bytes_of view number ≡ option_and_then (λ files. files name) (files_of view)
unfolding bytes_of files_of
bytes_named view number name is = told_bytes view.is_told view.files (view.opened number) name is

found : (P : List ℕ → Type 0) (Q : Files → Type 0) (name : List ℕ) (files : Files) (bytes : Option (List ℕ)) → files name ≡ bytes → IsSome bytes → IfSome bytes P → ((text : List ℕ) → files name ≡ Some text → P text → Q files) → Q files
found P Q name files None is some p f = absurd (cc)
found P Q name files (Some text) is some p f = f text is p

known_file : (P : List ℕ → Type 0) (Q : Files → Type 0) (name : List ℕ) (known : Option Files) → IfSome known (λ files. IsSome (files name)) → IfSome (option_and_then (λ files. files name) known) P → ((files : Files) (text : List ℕ) → files name ≡ Some text → P text → Q files) → IfSome known Q
known_file P Q name None some p f = tt
known_file P Q name (Some files) some p f = found P Q name files (files name) refl some p (f files)

-- what holds of the bytes of an open file is said of the files that are told
pub of_file : (P : List ℕ → Type 0) (Q : Files → Type 0) (view : ShelfView) (number : ℕ) (name : List ℕ) (known : Option Files) → view.opened number ≡ Some name → files_of view ≡ known → IfSome known (λ files. IsSome (files name)) → IfSome (bytes_of view number) P → ((files : Files) (text : List ℕ) → files name ≡ Some text → P text → Q files) → IfSome known Q
of_file P Q view number name known is same some p f =
    known_file P Q name known some (subst (λ o. IfSome o P) (bytes_named view number name is ∙ ap (option_and_then (λ files. files name)) same) p) f

-- a refusal of the first is one of both
pub gives_first : (any : Gazetteer) (r : Result Gazetteer Refusal) (f : Gazetteer → Result Gazetteer Refusal) (fault : ChangeFault) → Gives any r (Err fault) → Gives any (r >>= f) (Err fault)
gives_first any r f NotLoaded g = ap (λ x. x >>= f) g
gives_first any r f (Sequence have) g = ap (λ x. x >>= f) g
gives_first any r f (Absent file) g = ap (λ x. x >>= f) g
gives_first any r f (Shelf file) g = tt
gives_first any r f (TooLong file) g = ap (λ x. x >>= f) g
gives_first any r f (Malformed file line reason) g = ap (λ x. x >>= f) g
gives_first any r f (Full file line table) g = ap (λ x. x >>= f) g
gives_first any r f Station g = tt
gives_first any r f (Damaged page) g = tt
gives_first any r f Memory g = tt

-- the same definition in another form
pub gives_same : (next : Gazetteer) (r s : Result Gazetteer Refusal) (result : Result Unit ChangeFault) → r ≡ s → Gives next r result → Gives next s result
gives_same next r s result e g = subst (λ x. Gives next x result) e g

pub known_name : (name : List ℕ) (files : Files) (bytes : Option (List ℕ)) → files name ≡ bytes → IsSome bytes → (text : List ℕ) × (files name ≡ Some text)
known_name name files None is some = absurd (cc)
known_name name files (Some text) is some = (text, is)

pub both_known : {A B C : Files → Type 0} (known : Option Files) → IfSome known A → IfSome known B → ((files : Files) → A files → B files → C files) → IfSome known C
both_known None a b f = tt
both_known (Some files) a b f = f files a b

-- a fact of the files that the shelf told before
pub told_before : (P : Files → Type 0) (old new : ShelfView) → files_of new ≡ files_of old → IfSome (files_of new) P → IfSome (files_of old) P
told_before P old new same h = subst (λ known. IfSome known P) same h

-- while a number is open the files stay
pub stays_open : (old new : ShelfView) (number : ℕ) (name : List ℕ) → FindsFiles old new → old.opened number ≡ Some name → SameFiles old new
stays_open old new number name (inl same) is = same
stays_open old new number name (inr other) is = absurd (none_is name (sym (other.closed number) ∙ is))
  where
    none_is : (name : List ℕ) → None ≡ Some name → ⊥
    none_is name is = cc is

-- what was found stays
pub finds_then : (old mid new : ShelfView) → FindsFiles old mid → SameFiles mid new → FindsFiles old new
finds_then old mid new (inl same) stay = inl (record { told = stay.told ∙ same.told; files = stay.files ∙ same.files; earlier = stay.earlier ∙ same.earlier })
finds_then old mid new (inr other) stay = inr (record { told = stay.told ∙ other.told; closed = other.closed; earlier = stay.earlier ∙ other.earlier })

-- what a file comes to, with its bytes
pub record FileGives (files : Files) (name : FileName) (first next : Gazetteer) (result : Result Unit ChangeFault) : Type 0 where
  pub bytes : List ℕ
  pub stands : files (file_text name) ≡ Some bytes
  pub gives : Gives next (fold first (file_of name bytes ∷ [])) result

pub file_gives : (name : FileName) (first next : Gazetteer) (result : Result Unit ChangeFault) (view : ShelfView) (number : ℕ) (known : Option Files) → view.opened number ≡ Some (file_text name) → files_of view ≡ known → IfSome known (λ files. IsSome (files (file_text name))) → IfSome (bytes_of view number) (λ bytes. Gives next (fold first (file_of name bytes ∷ [])) result) → IfSome known (λ files. FileGives files name first next result)
file_gives name first next result view number known is same some gives =
    of_file (λ bytes. Gives next (fold first (file_of name bytes ∷ [])) result) (λ files. FileGives files name first next result) view number (file_text name) known is same some gives
    (λ files text stands h. record { bytes = text; stands = stands; gives = h })
