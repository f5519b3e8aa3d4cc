-- Worked chains, hierarchies and children, each by computation.
use Rattle.std.proofs.Common.{◌≡◌, ℕ, List, [], ◌∷◌, refl, Some}
use Rattle.std.specs.Prelude.{codes}
use Rattle.gaz_parent.specs.Parent.{linked, division, country_above}
use Rattle.gaz_parent.specs.Chain.{chain_in}
use Rattle.gaz_plain.specs.Gazetteer.{Gazetteer, empty}
use Rattle.gaz_plain.specs.Kin.{chain_of, hierarchy_of, children_of}

abbrev country : List ℕ
country = codes "1\tL\t\t\t0\t0\tA\tPCLI\tAA\t\t00\t\t\t\t0\t\t\t\t2024-02-01"

abbrev one : List ℕ
one = codes "2\tOne\t\t\t0\t0\tA\tADM1\tAA\t\t01\t\t\t\t0\t\t\t\t2024-02-01"

abbrev two : List ℕ
two = codes "3\tTwo\t\t\t0\t0\tA\tADM2\tAA\t\t01\t001\t\t\t0\t\t\t\t2024-02-01"

abbrev town : List ℕ
town = codes "4\tTown\t\t\t0\t0\tP\tPPL\tAA\t\t01\t001\t\t\t100\t\t\t\t2024-02-01"

-- a gazetteer of rows and links
abbrev of_rows : List (List ℕ) → List (List ℕ) → Gazetteer
of_rows rows links = record empty { date = Some 0; rows = rows; links = links }

abbrev all : Gazetteer
all = of_rows (country ∷ one ∷ two ∷ town ∷ []) []

-- the town below two divisions and a country
town_upwards : chain_of all 4 ≡ 4 ∷ 3 ∷ 2 ∷ 1 ∷ []
unfolding chain_in linked division country_above
town_upwards = refl

town_from_the_top : hierarchy_of all 4 ≡ country ∷ one ∷ two ∷ town ∷ []
unfolding chain_in linked division country_above
town_from_the_top = refl

below_one : children_of all 2 10 ≡ two ∷ []
unfolding linked division country_above
below_one = refl

-- without the lower division
abbrev fewer : Gazetteer
fewer = of_rows (country ∷ one ∷ town ∷ []) []

fewer_from_the_top : hierarchy_of fewer 4 ≡ country ∷ one ∷ town ∷ []
unfolding chain_in linked division country_above
fewer_from_the_top = refl

fewer_below_one : children_of fewer 2 10 ≡ town ∷ []
unfolding linked division country_above
fewer_below_one = refl

none_are_asked_for : children_of fewer 2 0 ≡ []
unfolding linked division country_above
none_are_asked_for = refl

no_such_row : hierarchy_of fewer 3 ≡ []
unfolding chain_in linked division country_above
no_such_row = refl

-- two places, each the parent of the other
abbrev a20 : List ℕ
a20 = codes "20\tA\t\t\t0\t0\tP\tPPL\tAA\t\t\t\t\t\t0\t\t\t\t2024-02-01"

abbrev b21 : List ℕ
b21 = codes "21\tB\t\t\t0\t0\tP\tPPL\tAA\t\t\t\t\t\t0\t\t\t\t2024-02-01"

circle : hierarchy_of (of_rows (a20 ∷ b21 ∷ []) (codes "21\t20\tADM" ∷ codes "20\t21\tADM" ∷ [])) 20 ≡ b21 ∷ a20 ∷ []
unfolding chain_in linked division country_above
circle = refl

circle_of_one : hierarchy_of (of_rows (a20 ∷ []) (codes "20\t20\tADM" ∷ [])) 20 ≡ a20 ∷ []
unfolding chain_in linked division country_above
circle_of_one = refl
