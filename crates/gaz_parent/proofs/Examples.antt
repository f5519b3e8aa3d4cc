-- Worked values.
use Rattle.std.proofs.Common.{◌≡◌, ℕ, List, [], ◌∷◌, refl, Some, None}
use Rattle.std.specs.Prelude.{codes}
use Rattle.gaz_parent.specs.Parent.{Lists, level_of, is_country_row, linked, division, country_above, parent_of}
use Rattle.gaz_parent.specs.Chain.{chain_in, children_in}

-- lists without links and without a table of countries
abbrev rows_alone : List (List ℕ) → Lists
rows_alone rows = record { rows = rows; links = []; countries = [] }

-- a country, a division of the first level in it, one of the second in that, and a town there
abbrev country : List ℕ
country = codes "1\tL\t\t\t0\t0\tA\tPCLI\tAA\t\t00\t\t\t\t0\t\t\t\t2024-02-01"

abbrev one : List ℕ
one = codes "2\tOne\t\t\t0\t0\tA\tADM1\tAA\t\t01\t\t\t\t0\t\t\t\t2024-02-01"

abbrev two : List ℕ
two = codes "3\tTwo\t\t\t0\t0\tA\tADM2\tAA\t\t01\t001\t\t\t0\t\t\t\t2024-02-01"

abbrev town : List ℕ
town = codes "4\tTown\t\t\t0\t0\tP\tPPL\tAA\t\t01\t001\t\t\t100\t\t\t\t2024-02-01"

abbrev land : Lists
land = rows_alone (country ∷ one ∷ two ∷ town ∷ [])

town_stands_below_the_second_level : parent_of land town ≡ Some 3
unfolding linked division country_above
town_stands_below_the_second_level = refl

second_level_stands_below_the_first : parent_of land two ≡ Some 2
unfolding linked division country_above
second_level_stands_below_the_first = refl

first_level_stands_below_the_country : parent_of land one ≡ Some 1
unfolding linked division country_above
first_level_stands_below_the_country = refl

country_has_no_parent : parent_of land country ≡ None
unfolding linked division country_above
country_has_no_parent = refl

chain_of_a_town : chain_in land 4 ≡ 4 ∷ 3 ∷ 2 ∷ 1 ∷ []
unfolding chain_in linked division country_above
chain_of_a_town = refl

children_of_the_first_level : children_in land 2 ≡ two ∷ []
unfolding linked division country_above
children_of_the_first_level = refl

-- the same without the division of the second level
abbrev less : Lists
less = rows_alone (country ∷ one ∷ town ∷ [])

town_moves_up : children_in less 2 ≡ town ∷ []
unfolding linked division country_above
town_moves_up = refl

chain_is_shorter : chain_in less 4 ≡ 4 ∷ 2 ∷ 1 ∷ []
unfolding chain_in linked division country_above
chain_is_shorter = refl

no_chain_of_a_row_that_is_gone : chain_in less 3 ≡ []
unfolding chain_in linked division country_above
no_chain_of_a_row_that_is_gone = refl

-- two places, each linked to the other
abbrev first : List ℕ
first = codes "20\tA\t\t\t0\t0\tP\tPPL\tAA\t\t\t\t\t\t0\t\t\t\t2024-02-01"

abbrev second : List ℕ
second = codes "21\tB\t\t\t0\t0\tP\tPPL\tAA\t\t\t\t\t\t0\t\t\t\t2024-02-01"

abbrev circle : Lists
circle = record { rows = first ∷ second ∷ []; links = codes "20\t21\tADM" ∷ codes "21\t20\tADM" ∷ []; countries = [] }

chain_ends_where_it_comes_back : chain_in circle 20 ≡ 20 ∷ 21 ∷ []
unfolding chain_in linked division country_above
chain_ends_where_it_comes_back = refl

-- links of each class, one to itself, and one to a place that isn't there
abbrev linked_to : List (List ℕ) → Lists
linked_to links = record { rows = country ∷ one ∷ two ∷ town ∷ first ∷ second ∷ []; links = links; countries = [] }

link_of_class_adm_comes_first : parent_of (linked_to (codes "20\t4\tADM" ∷ [])) town ≡ Some 20
unfolding linked division country_above
link_of_class_adm_comes_first = refl

least_of_two_parents : parent_of (linked_to (codes "21\t4\tADM" ∷ codes "20\t4\tADM" ∷ [])) town ≡ Some 20
unfolding linked division country_above
least_of_two_parents = refl

link_without_a_type_comes_last : parent_of (linked_to (codes "20\t4" ∷ [])) town ≡ Some 3
unfolding linked division country_above
link_without_a_type_comes_last = refl

link_without_a_type_alone : parent_of (linked_to (codes "20\t1\t" ∷ [])) country ≡ Some 20
unfolding linked division country_above
link_without_a_type_alone = refl

link_of_another_type : parent_of (linked_to (codes "20\t1\tx" ∷ [])) country ≡ None
unfolding linked division country_above
link_of_another_type = refl

never_the_row_itself : parent_of (linked_to (codes "4\t4\tADM" ∷ [])) town ≡ Some 3
unfolding linked division country_above
never_the_row_itself = refl

parent_that_is_no_row : parent_of (linked_to (codes "9\t4\tADM" ∷ [])) town ≡ Some 3
unfolding linked division country_above
parent_that_is_no_row = refl

-- codes
abbrev unknown : List ℕ
unknown = codes "5\tU\t\t\t0\t0\tP\tPPL\tAA\t\t00\t001\t\t\t0\t\t\t\t2024-02-01"

abbrev unknown_two : List ℕ
unknown_two = codes "6\tV\t\t\t0\t0\tA\tADM2\tAA\t\t00\t001\t\t\t0\t\t\t\t2024-02-01"

code_00_is_no_division : parent_of (rows_alone (country ∷ unknown_two ∷ unknown ∷ [])) unknown ≡ Some 1
unfolding linked division country_above
code_00_is_no_division = refl

abbrev gap : List ℕ
gap = codes "7\tG\t\t\t0\t0\tP\tPPL\tAA\t\t01\t\t1\t\t0\t\t\t\t2024-02-01"

abbrev three : List ℕ
three = codes "8\tT\t\t\t0\t0\tA\tADM3\tAA\t\t01\t\t1\t\t0\t\t\t\t2024-02-01"

gap_in_the_codes : parent_of (rows_alone (country ∷ one ∷ three ∷ gap ∷ [])) gap ≡ Some 2
unfolding linked division country_above
gap_in_the_codes = refl

abbrev other_one : List ℕ
other_one = codes "9\tO\t\t\t0\t0\tA\tADM1\tBB\t\t01\t\t\t\t0\t\t\t\t2024-02-01"

same_code_of_another_country : parent_of (rows_alone (other_one ∷ town ∷ [])) town ≡ None
unfolding linked division country_above
same_code_of_another_country = refl

-- countries
abbrev more : List ℕ
more = codes "30\tM\t\t\t0\t0\tA\tPCLD\tAA\t\t\t\t\t\t0\t\t\t\t2024-02-01"

abbrev less_known : List ℕ
less_known = codes "29\tN\t\t\t0\t0\tA\tPCL\tAA\t\t\t\t\t\t0\t\t\t\t2024-02-01"

abbrev named : List ℕ → Lists
named line = record { rows = more ∷ less_known ∷ town ∷ []; links = []; countries = line ∷ [] }

country_that_the_table_names : parent_of (named (codes "AA\t\t\t\t\t\t\t\t\t\t\t\t\t\t\t\t30")) town ≡ Some 30
unfolding linked division country_above
country_that_the_table_names = refl

country_that_is_no_row : parent_of (named (codes "AA\t\t\t\t\t\t\t\t\t\t\t\t\t\t\t\t77")) town ≡ Some 29
unfolding linked division country_above
country_that_is_no_row = refl

country_without_a_place : parent_of (named (codes "AA\t\t\t\t\t\t\t\t\t\t\t\t\t\t\t\t")) town ≡ Some 29
unfolding linked division country_above
country_without_a_place = refl

line_of_another_country : parent_of (named (codes "BB\t\t\t\t\t\t\t\t\t\t\t\t\t\t\t\t30")) town ≡ Some 29
unfolding linked division country_above
line_of_another_country = refl

country_has_no_country_above : parent_of (named (codes "AA\t\t\t\t\t\t\t\t\t\t\t\t\t\t\t\t30")) less_known ≡ None
unfolding linked division country_above
country_has_no_country_above = refl

six_codes_of_countries : is_country_row more ≡ is_country_row less_known
six_codes_of_countries = refl

level_of_class_A_alone : level_of (codes "2\tOne\t\t\t0\t0\tP\tADM1\tAA\t\t01\t\t\t\t0\t\t\t\t2024-02-01") ≡ None
level_of_class_A_alone = refl

level_five_is_none : level_of (codes "2\tOne\t\t\t0\t0\tA\tADM5\tAA\t\t01\t\t\t\t0\t\t\t\t2024-02-01") ≡ None
level_five_is_none = refl

level_four : level_of (codes "2\tOne\t\t\t0\t0\tA\tADM4\tAA\t\t01\t\t\t\t0\t\t\t\t2024-02-01") ≡ Some 4
level_four = refl
