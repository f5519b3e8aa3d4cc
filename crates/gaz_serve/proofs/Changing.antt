-- The files that a request finds and leaves.
use Rattle.std.proofs.Common.{◌≡◌, Bool, true, false, IsTrue, List, [], ◌∷◌, refl, Option, Some, None, ◌∙◌, sym, subst, ◌⊎◌, ⊎_elim, inl, inr}
use Rattle.std.specs.Prelude.{IfSome, Result, Ok, Err, if◌then◌else◌}
use Rattle.gaz_outside.specs.Outside.{ShelfView, FindsFiles, SameNumbers, NoneOpen, files_of}
use Rattle.gaz_num.specs.declared.words.FileName.{FileName}
use Rattle.gaz_plain.specs.Load.{Files, load_files}
use Rattle.gaz_words.specs.Grammar.{RequestAsked, asks_load, asks_day, asks_get, asks_search, asks_children, asks_chain, asks_admin}
use Rattle.gaz_words.specs.declared.request.BadRequest.{BadRequest}
use Rattle.gaz_turns.specs.Turns.{State, ReadsFiles, opens}
use Rattle.gaz_serve.specs.Change.{Closes}

pub always : {A : Type 0} {P : A → Type 0} (o : Option A) → ((x : A) → P x) → IfSome o P
always None f = tt
always (Some x) f = f x

pub weaker : {X : Type 0} {A B : X → Type 0} (o : Option X) → ((x : X) → A x → B x) → IfSome o A → IfSome o B
weaker None f h = tt
weaker (Some x) f h = f x h

pub both_known : {A B C : Files → Type 0} (known : Option Files) → IfSome known A → IfSome known B → ((files : Files) → A files → B files → C files) → IfSome known C
both_known None a b f = tt
both_known (Some files) a b f = f files a b

-- The numbers are as they were or none is open, also after one more request.
pub closes_on : (names : List FileName) (first mid new : ShelfView) → SameNumbers first mid ⊎ NoneOpen mid → Closes names mid new → SameNumbers first new ⊎ NoneOpen new
closes_on [] first mid new (inl same) stay = inl (λ n. stay.0 n ∙ same n)
closes_on [] first mid new (inr none) stay = inr (λ n. stay.0 n ∙ none n)
closes_on (name ∷ names) first mid new either none = inr none.0

finds_told : (old new : ShelfView) → FindsFiles old new → new.is_told ≡ old.is_told
finds_told old new (inl same) = same.told
finds_told old new (inr other) = other.told

pub closes_told : (names : List FileName) (old new : ShelfView) → Closes names old new → new.is_told ≡ old.is_told
closes_told [] old new stay = stay.1.told
closes_told (name ∷ names) old new found = finds_told old new found.1

-- what a shelf that tells its files tells
told_now : (told : Bool) (files : Files) (P : Files → Type 0) → IsTrue told → IfSome (if told then Some files else None) P → P files
told_now true files P is h = h
told_now false files P is h = absurd (cc is)

pub when_told : (P : Files → Type 0) (view : ShelfView) → IsTrue view.is_told → IfSome (files_of view) P → P view.files
unfolding files_of
when_told P view told h = told_now view.is_told view.files P told h

-- the files of a shelf that tells them, where they are as before
pub told_files : (old new : ShelfView) → IsTrue old.is_told → new.is_told ≡ old.is_told → files_of new ≡ files_of old → new.files ≡ old.files
unfolding files_of
told_files old new told still same = sym (told_now old.is_told old.files (λ files. files ≡ new.files) told (subst (λ (known : Option Files). IfSome known (λ files. files ≡ new.files)) same (there new.is_told new.files (subst (λ (b : Bool). IsTrue b) (sym still) told))))
  where
    there : (told : Bool) (files : Files) → IsTrue told → IfSome (if told then Some files else None) (λ other. other ≡ files)
    there true files is = refl
    there false files is = tt

-- the files behind a request: as before, or others, before which those stood
closes_found : (names : List FileName) (old new : ShelfView) → IsTrue old.is_told → Closes names old new → ((new.files ≡ old.files) × (new.earlier ≡ old.earlier)) ⊎ (new.earlier ≡ old.files ∷ old.earlier)
closes_found [] old new told stay = inl (told_files old new told stay.1.told stay.1.files, stay.1.earlier)
closes_found (name ∷ names) old new told found = by found.1
  where
    by : FindsFiles old new → ((new.files ≡ old.files) × (new.earlier ≡ old.earlier)) ⊎ (new.earlier ≡ old.files ∷ old.earlier)
    by (inl same) = inl (told_files old new told same.told same.files, same.earlier)
    by (inr other) = inr other.earlier

-- the files behind a request: as before, or others where it reads files
pub request_found : (state : State) (asked : Result RequestAsked BadRequest) (old new : ShelfView) → IsTrue old.is_told → Closes (opens state asked) old new → ((new.files ≡ old.files) × (new.earlier ≡ old.earlier)) ⊎ (ReadsFiles asked × (new.earlier ≡ old.files ∷ old.earlier))
request_found state (Ok (asks_load date)) old new told closes = ⊎_elim (λ same. inl same) (λ other. inr (tt, other)) (closes_found load_files old new told closes)
request_found state (Ok (asks_day date)) old new told closes = ⊎_elim (λ same. inl same) (λ other. inr (tt, other)) (closes_found (opens state (Ok (asks_day date))) old new told closes)
request_found state (Ok (asks_get id)) old new told closes = inl (told_files old new told closes.1.told closes.1.files, closes.1.earlier)
request_found state (Ok (asks_search asked)) old new told closes = inl (told_files old new told closes.1.told closes.1.files, closes.1.earlier)
request_found state (Ok (asks_children id max)) old new told closes = inl (told_files old new told closes.1.told closes.1.files, closes.1.earlier)
request_found state (Ok (asks_chain id)) old new told closes = inl (told_files old new told closes.1.told closes.1.files, closes.1.earlier)
request_found state (Ok (asks_admin code)) old new told closes = inl (told_files old new told closes.1.told closes.1.files, closes.1.earlier)
request_found state (Err bad) old new told closes = inl (told_files old new told closes.1.told closes.1.files, closes.1.earlier)
