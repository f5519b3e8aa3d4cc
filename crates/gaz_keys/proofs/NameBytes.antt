-- A name key has bytes: decomposing and folding make characters of characters.
use Rattle.std.proofs.Common.{◌≡◌, ℕ, zero, suc, ◌+◌, ◌-◌, ◌/◌, ◌%◌, Bool, true, false, List, [], ◌∷◌, refl, ◌∙◌, arith, flat_map}
use Rattle.std.specs.Prelude.{chars, ◌==◌, if◌then◌else◌, IsUtf8}
use Rattle.std.proofs.lemmas.Bool.{and_from}
use Rattle.std.proofs.lemmas.Bool.Decides.{nat_tests}
use Rattle.std.proofs.lemmas.List.Folds.{list_all-append}
use Rattle.std.proofs.lemmas.Str.{scalars-chars}
use Rattle.gaz_num.proofs.CalendarLemmas.{and_left, and_right}
use Rattle.ucd_table.proofs.Computing.{tables}
use Rattle.ucd_table.proofs.RangedFacts.{values_ok, Stepped-at_values}
use Rattle.ucd_case.specs.CaseFolding.{full_folding, full_fold, or_itself as folded_or_itself}
use Rattle.ucd_case.proofs.CaseFoldingLemmas.{full_folding_stepped}
use Rattle.ucd_normal.specs.Decomposition.{decomposition, if_canonical, or_itself, expand, canonical_mapping, canonical_decomposition}
use Rattle.ucd_normal.proofs.DecompositionLemmas.{decomposition_stepped}
use Rattle.unicode_normalization.specs.Forms.{Nfd, nfd, normalize, decomposed}
use Rattle.unicode_normalization.specs.Decompose.{decompose}
use Rattle.unicode_normalization.specs.Hangul.{is_syllable, decompose_hangul}
use Rattle.unicode_normalization.proofs.OrderLemmas.{list_all-canonical_order}
use Rattle.caseless.specs.Caseless.{default_case_fold}
use Rattle.gaz_name.specs.Name.{folded, name_key_of}
use Rattle.gaz_keys.proofs.Fit.{AreBytes, is_char, are_chars, scalars_are, chars_fit}

-- each made of one, all are made of all
all_made : (f : ℕ → List ℕ) → ((c : ℕ) → is_char c ≡ true → are_chars (f c) ≡ true) → (cs : List ℕ) → are_chars cs ≡ true → are_chars (flat_map f cs) ≡ true
all_made f makes [] are = refl
all_made f makes (c ∷ cs) are =
    list_all-append is_char (f c) (flat_map f cs)
    ∙ and_from _ _ (makes c (and_left (is_char c) (are_chars cs) are)) (all_made f makes cs (and_right (is_char c) (are_chars cs) are))

-- the folding of one
folding_has : (c : ℕ) → are_chars (full_folding c) ≡ true
unfolding tables values_ok full_folding_stepped
folding_has = Stepped-at_values full_folding full_folding_stepped are_chars refl

folded_has : (c : ℕ) → is_char c ≡ true → are_chars (full_fold c) ≡ true
folded_has c is = by (full_folding c) (folding_has c)
  where
    by : (text : List ℕ) → are_chars text ≡ true → are_chars (folded_or_itself c text) ≡ true
    by [] are = and_from _ _ is refl
    by (x ∷ xs) are = are

fold_has : (cs : List ℕ) → are_chars cs ≡ true → are_chars (default_case_fold cs) ≡ true
unfolding default_case_fold
fold_has = all_made full_fold folded_has

-- the decomposition of one
mapping_has : (c : ℕ) → are_chars (canonical_mapping c) ≡ true
unfolding tables values_ok decomposition_stepped
mapping_has = Stepped-at_values decomposition decomposition_stepped (λ entry. are_chars (if_canonical entry)) refl

or_itself_has : (c : ℕ) (text : List ℕ) → is_char c ≡ true → are_chars text ≡ true → are_chars (or_itself c text) ≡ true
or_itself_has c [] is are = and_from _ _ is refl
or_itself_has c (x ∷ xs) is are = are

expand_has : (depth c : ℕ) → are_chars (expand canonical_mapping depth c) ≡ true
unfolding expand
expand_has zero c = mapping_has c
expand_has (suc depth) c = all_made (λ x. or_itself x (expand canonical_mapping depth x)) (λ x is. or_itself_has x (expand canonical_mapping depth x) is (expand_has depth x)) (canonical_mapping c) (mapping_has c)

syllable_has : (c : ℕ) → is_char c ≡ true → are_chars (decompose_hangul c) ≡ true
unfolding decompose_hangul
syllable_has c is = by (index % 28 == 0)
  where
    index : ℕ
    index = c - 0xAC00

    leading : ℕ
    leading = 0x1100 + index / 588

    vowel : ℕ
    vowel = 0x1161 + index % 588 / 28

    trailing : ℕ
    trailing = 0x11A7 + index % 28

    first : is_char leading ≡ true
    first = grind (arith, nat_tests, is)

    second : is_char vowel ≡ true
    second = grind (arith, nat_tests)

    third : is_char trailing ≡ true
    third = grind (arith, nat_tests)

    by : (two : Bool) → are_chars (if two then leading ∷ vowel ∷ [] else leading ∷ vowel ∷ trailing ∷ []) ≡ true
    by true = rw (first, second) refl
    by false = rw (first, second, third) refl

decompose_has : (c : ℕ) → is_char c ≡ true → are_chars (decompose Nfd c) ≡ true
unfolding decompose canonical_decomposition
decompose_has c is = by (is_syllable c)
  where
    by : (b : Bool) → are_chars (if b then decompose_hangul c else or_itself c (canonical_decomposition c)) ≡ true
    by true = syllable_has c is
    by false = or_itself_has c (canonical_decomposition c) is (expand_has 3 c)

nfd_has : (cs : List ℕ) → are_chars cs ≡ true → are_chars (nfd cs) ≡ true
unfolding normalize decomposed
nfd_has cs are = list_all-canonical_order is_char (flat_map (decompose Nfd) cs) (all_made (decompose Nfd) decompose_has cs are)

-- The name key of a text in UTF-8 has bytes.
pub name_fits : (text : List ℕ) → IsUtf8 text → AreBytes (name_key_of text)
name_fits text is = chars_fit (folded (chars text)) (nfd_has (default_case_fold (nfd (chars text))) (fold_has (nfd (chars text)) (nfd_has (chars text) (scalars_are (chars text) (scalars-chars text is)))))
