-- Worked values.
use Rattle.std.proofs.Common.{◌≡◌, List, ℕ, [], ◌∷◌, ◌++◌, refl, ap}
use Rattle.std.specs.Prelude.{codes, replicate}
use Rattle.std.specs.Str.{chars}
use lib.Utf8.{encode}
use Rattle.ucd_table.proofs.Computing.{tables}
use Rattle.ucd_case.specs.CaseFolding.{full_folding}
use Rattle.ucd_case.specs.FullFoldingRows.{full_folding_rows}
use Rattle.ucd_normal.specs.Decomposition.{decomposition, expand, canonical_decomposition}
use Rattle.ucd_normal.specs.DecompositionRows.{decomposition_rows}
use Rattle.ucd_normal.specs.CanonicalCombiningClass.{canonical_combining_class}
use Rattle.ucd_normal.specs.CanonicalCombiningClassRows.{canonical_combining_class_rows}
use Rattle.unicode_normalization.specs.Forms.{normalize, decomposed}
use Rattle.unicode_normalization.specs.Decompose.{decompose}
use Rattle.unicode_normalization.specs.Hangul.{decompose_hangul}
use Rattle.unicode_normalization.specs.Order.{is_reorderable, sink, canonical_order}
use Rattle.caseless.specs.Caseless.{default_case_fold}
use Rattle.gaz_num.specs.declared.words.Table.TheVariants.{Rows, Alternates, Links, Countries, Codes}
use Rattle.gaz_name.specs.Name.{name_key_of, first_bytes}
use Rattle.gaz_keys.specs.Keys.{place_key, link_key, reverse_key, country_key, code_key, text_key, box_key, division_key, path_key}
use Rattle.gaz_keys.specs.Lines.{key_at, more_keys, name_keys, lying_key, divided_key, division_keys, division_level}

-- row 10 at latitude 0 and longitude 0
abbrev ten : List ℕ
ten = codes "10\tA\tA\t\t0\t0\tP\tPPL\tFR\t\t28\t27\t\t\t0\t\t\t\t2024-02-01"

key_of_ten : key_at Rows 0 ten ≡ 0x01 ∷ 0 ∷ 0 ∷ 0 ∷ 0x0a ∷ replicate 27 0
unfolding place_key
key_of_ten = refl

box_key_of_ten : lying_key ten ≡ 0x08 ∷ 0x01 ∷ 0x68 ∷ 0 ∷ 0 ∷ 0xa3 ∷ 0xb5 ∷ 0x84 ∷ 0x0f ∷ 0x40 ∷ 0 ∷ 0 ∷ 0 ∷ 0 ∷ 0x0a ∷ replicate 17 0
unfolding box_key
box_key_of_ten = refl

path_key_of_ten : divided_key ten ≡ 0x0a ∷ codes "FR" ++ 0 ∷ codes "28" ++ 0 ∷ codes "27" ++ replicate 19 0 ++ 0 ∷ 0 ∷ 0 ∷ 0x0a ∷ []
unfolding path_key
path_key_of_ten = refl

ten_is_no_division : division_keys ten (division_level ten) ≡ []
ten_is_no_division = refl

-- a division of the second level at the south pole and the antimeridian: its path ends with the second code
abbrev eure : List ℕ
eure = codes "258\tA\tA\t\t-90\t180\tA\tADM2\tFR\t\t28\t27\t1\t\t0\t\t\t\t"

division_key_of_it : division_keys eure (division_level eure) ≡ (0x09 ∷ 0x02 ∷ codes "FR" ++ 0 ∷ codes "28" ++ 0 ∷ codes "27" ++ replicate 18 0 ++ 0 ∷ 0 ∷ 0x01 ∷ 0x02 ∷ []) ∷ []
unfolding division_key
division_key_of_it = refl

box_key_of_it : lying_key eure ≡ 0x08 ∷ 0 ∷ 0 ∷ 0 ∷ 0x01 ∷ 0x47 ∷ 0x6b ∷ 0x08 ∷ 0x1e ∷ 0x80 ∷ 0 ∷ 0 ∷ 0 ∷ 0x01 ∷ 0x02 ∷ replicate 17 0
unfolding box_key
box_key_of_it = refl

-- a country row
abbrev france : List ℕ
france = codes "3\tA\tA\t\t0\t0\tA\tPCLI\tFR\t\t00\t\t\t\t0\t\t\t\t"

country_row_key : division_keys france (division_level france) ≡ (0x09 ∷ 0 ∷ codes "FR" ++ replicate 24 0 ++ 0 ∷ 0 ∷ 0 ∷ 0x03 ∷ []) ∷ []
unfolding division_key
country_row_key = refl

link_keys : (key_at Links 0 (codes "258\t10\tADM") ≡ 0x03 ∷ 0 ∷ 0 ∷ 0 ∷ 0x0a ∷ 0 ∷ 0 ∷ 0 ∷ 0x01 ∷ 0x02 ∷ replicate 22 0) × (more_keys Links (codes "258\t10\tx") ≡ (0x04 ∷ 0 ∷ 0 ∷ 0x01 ∷ 0x02 ∷ 0x02 ∷ 0 ∷ 0 ∷ 0 ∷ 0x0a ∷ replicate 22 0) ∷ [])
unfolding link_key reverse_key
link_keys = (refl, refl)

country_key_of_it : key_at Countries 0 (codes "FR\t") ≡ 0x05 ∷ codes "FR" ++ replicate 29 0
unfolding country_key
country_key_of_it = refl

-- of which 23 bytes count, and the slot
code_key_of_it : key_at Codes 258 (codes "FR.5678901234567890123456\t") ≡ 0x06 ∷ codes "FR.56789012345678901234" ++ replicate 6 0 ++ 0x01 ∷ 0x02 ∷ []
unfolding code_key
code_key_of_it = refl

-- Évreux
abbrev name : List ℕ
name = 0xc3 ∷ 0x89 ∷ codes "vreux"

abbrev folded_name : List ℕ
folded_name = 0x65 ∷ 0xcc ∷ 0x81 ∷ 0x76 ∷ 0x72 ∷ 0x65 ∷ 0x75 ∷ 0x78 ∷ []

name_key_of_it : name_key_of name ≡ folded_name
unfolding tables chars encode normalize decomposed decompose decompose_hangul canonical_order sink is_reorderable default_case_fold full_folding full_folding_rows decomposition decomposition_rows expand canonical_decomposition canonical_combining_class canonical_combining_class_rows
name_key_of_it = refl

text_key_of_it : text_key (first_bytes 22 (name_key_of name)) 0 10 0 ≡ 0x07 ∷ folded_name ++ replicate 14 0 ++ 0 ∷ 0 ∷ 0 ∷ 0 ∷ 0x0a ∷ replicate 4 0
unfolding text_key
text_key_of_it = ap (λ key. text_key (first_bytes 22 key) 0 10 0) name_key_of_it

-- the names of a row, and an alternate name of it: whose name each is stands behind its text
name_tells_whose : (name_keys (codes "10\t\t") ≡ (0x07 ∷ replicate 26 0 ++ 0x0a ∷ replicate 4 0) ∷ (0x07 ∷ replicate 22 0 ++ 0x01 ∷ 0 ∷ 0 ∷ 0 ∷ 0x0a ∷ replicate 4 0) ∷ [])
    × (more_keys Alternates (codes "5\t10\tfr\t") ≡ (0x07 ∷ replicate 22 0 ++ 0x02 ∷ 0 ∷ 0 ∷ 0 ∷ 0x0a ∷ 0 ∷ 0 ∷ 0 ∷ 0x05 ∷ []) ∷ [])
unfolding text_key tables chars encode normalize decomposed decompose decompose_hangul canonical_order sink is_reorderable default_case_fold full_folding full_folding_rows decomposition decomposition_rows expand canonical_decomposition canonical_combining_class canonical_combining_class_rows
name_tells_whose = (refl, refl)
