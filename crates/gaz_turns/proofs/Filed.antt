-- The files of turns, one behind the other.
use Rattle.std.proofs.Common.{◌≡◌, ◌⊎◌, ⊎_elim, inl, inr, List, [], ◌∷◌, ◌++◌, refl, sym, ◌∙◌, subst}
use Rattle.std.specs.List.{AllByRecursion}
use Rattle.gaz_outside.specs.Outside.{ShelfView}
use Rattle.gaz_plain.specs.Load.{Files}
use Rattle.gaz_words.specs.Grammar.{request_in}
use Rattle.gaz_turns.specs.Turns.{Turn, ReadsFiles, FilesFollow, HaveFiles, HasOnly}

-- one turn more, with the files that it found
pub follow_more : (files : Files) (earlier : List Files) (turns : List Turn) (turn : Turn) (mid : Files) (earlier_mid : List Files) (now : Files) (earlier_now : List Files)
    → FilesFollow files earlier turns mid earlier_mid → turn.files ≡ now → ((now ≡ mid) × (earlier_now ≡ earlier_mid)) ⊎ (ReadsFiles (request_in turn.line) × (earlier_now ≡ mid ∷ earlier_mid))
    → FilesFollow files earlier (turns ++ turn ∷ []) now earlier_now
follow_more files earlier [] turn mid earlier_mid now earlier_now ends has (inl same) = inl (has ∙ same.0 ∙ ends.0, (same.0 ∙ ends.0, same.1 ∙ ends.1))
follow_more files earlier [] turn mid earlier_mid now earlier_now ends has (inr other) =
    inr (other.0, (sym has, other.1 ∙ subst (λ (f : Files). f ∷ earlier_mid ≡ files ∷ earlier) (sym ends.0) (subst (λ (l : List Files). files ∷ l ≡ files ∷ earlier) (sym ends.1) refl)))
follow_more files earlier (t ∷ turns) turn mid earlier_mid now earlier_now follow has found =
    ⊎_elim
    (λ same. inl (same.0, follow_more files earlier turns turn mid earlier_mid now earlier_now same.1 has found))
    (λ other. inr (other.0, follow_more t.files (files ∷ earlier) turns turn mid earlier_mid now earlier_now other.1 has found))
    follow

-- where the shelf never had other files
pub only_these : (files first : Files) (earlier : List Files) (turns : List Turn) (now : Files) (earlier_now : List Files) → FilesFollow first earlier turns now earlier_now → now ≡ files → AllByRecursion (λ other. other ≡ files) earlier_now
    → (first ≡ files) × AllByRecursion (λ other. other ≡ files) earlier × AllByRecursion (λ (t : Turn). t.files ≡ files) turns
only_these files first earlier [] now earlier_now ends is all = (sym ends.0 ∙ is, subst (AllByRecursion (λ other. other ≡ files)) ends.1 all, tt)
only_these files first earlier (turn ∷ turns) now earlier_now follow is all =
    ⊎_elim
    (λ same. let rest = only_these files first earlier turns now earlier_now same.1 is all in (rest.0, rest.1, (same.0 ∙ rest.0, rest.2)))
    (λ other. let rest = only_these files turn.files (first ∷ earlier) turns now earlier_now other.1 is all in (rest.1.0, rest.1.1, (rest.0, rest.2)))
    follow

pub each_has : (files : Files) (shelf : ShelfView) (turns : List Turn) (shelf_now : ShelfView) → HaveFiles shelf turns shelf_now → HasOnly files shelf_now → AllByRecursion (λ (t : Turn). t.files ≡ files) turns
each_has files shelf turns shelf_now follow only = (only_these files shelf.files shelf.earlier turns shelf_now.files shelf_now.earlier follow only.0 only.1).2
