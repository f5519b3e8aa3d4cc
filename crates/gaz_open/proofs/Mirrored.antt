-- The four facts by which everything above speaks of what areas mirror.
use Rattle.std.proofs.Common.{◌≡◌, ℕ, List, [], sym, ◌∙◌, ap, subst}
use Rattle.gaz_outside.specs.declared.station.Area.{Area}
use Rattle.gaz_plain.specs.Gazetteer.{Gazetteer, IsGazetteer, empty}
use Rattle.gaz_redo.specs.Content.{content}
use Rattle.gaz_rows.specs.Content.{Mirrors}
use Rattle.gaz_rows.specs.Holds.{SameMirror}
use Rattle.gaz_rows.proofs.One.{areas_have_one}
use Rattle.gaz_rows.proofs.AtFirst.{is_gazetteer, empty_at_first}

-- areas mirror one gazetteer
pub one_mirror : (areas : Area → List ℕ) (x y : Gazetteer) → Mirrors areas x → Mirrors areas y → x ≡ y
one_mirror areas x y a b = areas_have_one areas x y a b

-- areas with the same content mirror the same
with_content : (a b : Area → List ℕ) (gaz : Gazetteer) → content a ≡ content b → Mirrors a gaz → Mirrors b gaz
with_content a b gaz same m = record { three = m.three; content = sym same ∙ m.content; gaz_in = m.gaz_in }

pub same_content : (a b : Area → List ℕ) → content a ≡ content b → SameMirror a b
same_content a b same gaz = (with_content a b gaz same, with_content b a gaz (sym same))

-- and so do areas with the same bytes
pub same_areas : (a b : Area → List ℕ) → ((area : Area) → a area ≡ b area) → SameMirror a b
same_areas a b same = same_content a b (ap content (λ i area. same area i))

-- areas of length 0 mirror the empty gazetteer
pub empty_mirror : (areas : Area → List ℕ) → ((area : Area) → areas area ≡ []) → Mirrors areas empty
empty_mirror areas none = subst (λ (f : Area → List ℕ). Mirrors f empty) (λ i area. sym (none area) i) empty_at_first

-- what areas mirror is a gazetteer
pub mirrored_is : (areas : Area → List ℕ) (gaz : Gazetteer) → Mirrors areas gaz → IsGazetteer gaz
mirrored_is areas gaz mirrors = is_gazetteer areas gaz mirrors
