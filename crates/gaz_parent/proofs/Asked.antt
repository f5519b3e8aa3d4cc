-- What the questions for a parent read, up to the one that is answered.
use Rattle.std.proofs.Common.{◌≡◌, ℕ, ◌+◌, ◌≤◌, List, [], ◌∷◌, ◌++◌, subst, sym, ap, Option, Some}
use Rattle.std.specs.Prelude.{unwrap_or}
use Rattle.gaz_num.specs.Numbers.{id_in}
use Rattle.gaz_num.specs.Pieces.{column}
use Rattle.gaz_row.specs.Row.{id_of}
use Rattle.gaz_tables.specs.declared.link.LinkClass.{LinkClass}
use Rattle.gaz_tables.specs.declared.link.LinkClass.TheVariants.{Adm, Plain}
use Rattle.gaz_parent.specs.Parent.{first_level}
use Rattle.gaz_parent.specs.Questions.{Question, by_link, by_country, divisions, questions, ReadsNoMore}
use Rattle.gaz_parent.proofs.Reading.{one_read, front_read, both_read}

-- each question that one count bounds, a later one bounds alike
abbrev pub StillBounded : (Question → ℕ → Type 0) → (Question → ℕ → Type 0) → Type 0
StillBounded bounded later = (question : Question) (most : ℕ) → bounded question most → later question most

-- the id that was read
pub same_id : (row : List ℕ) (id : ℕ) → id_in (column 1 row) ≡ Some id → id_of row ≡ id
same_id row id is = ap (λ (found : Option ℕ). unwrap_or found 0) is

-- a link of a class
pub link_read : (bounded : Question → ℕ → Type 0) (row : List ℕ) (id : ℕ) (class : LinkClass) (before now : ℕ) → id_in (column 1 row) ≡ Some id → ((most : ℕ) → bounded (by_link id class) most → now ≤ before + most) → ReadsNoMore bounded (by_link (id_of row) class ∷ []) before now
link_read bounded row id class before now is reads =
    subst (λ (n : ℕ). ReadsNoMore bounded (by_link n class ∷ []) before now) (sym (same_id row id is)) (one_read bounded (by_link id class) before now reads)

-- the divisions from the first level on
pub levels_read : (bounded : Question → ℕ → Type 0) (row : List ℕ) (level before now : ℕ) → level ≡ first_level row → ReadsNoMore bounded (divisions level row) before now → ReadsNoMore bounded (divisions (first_level row) row) before now
levels_read bounded row level before now is read = subst (λ (n : ℕ). ReadsNoMore bounded (divisions n row) before now) is read

-- the last two questions
abbrev last_two : List ℕ → List Question
last_two row = by_country row ∷ by_link (id_of row) Plain ∷ []

-- all but the first
abbrev all_later : List ℕ → List Question
all_later row = divisions (first_level row) row ++ last_two row

-- answered by a link of class Adm
pub after_link : (bounded : Question → ℕ → Type 0) (row : List ℕ) (a b : ℕ) → ReadsNoMore bounded (by_link (id_of row) Adm ∷ []) a b → ReadsNoMore bounded (questions row) a b
after_link bounded row a b link = front_read bounded (by_link (id_of row) Adm ∷ []) (all_later row) a b link

-- by a division
pub after_divisions : (bounded second : Question → ℕ → Type 0) (row : List ℕ) (a b c : ℕ) → StillBounded bounded second → ReadsNoMore bounded (by_link (id_of row) Adm ∷ []) a b → ReadsNoMore second (divisions (first_level row) row) b c → ReadsNoMore bounded (questions row) a c
after_divisions bounded second row a b c still link above =
    both_read bounded second (by_link (id_of row) Adm ∷ []) (all_later row) a b c still link
    (front_read second (divisions (first_level row) row) (last_two row) b c above)

-- by a country, or not at all
pub after_country : (bounded second third : Question → ℕ → Type 0) (row : List ℕ) (a b c d : ℕ) → StillBounded bounded second → StillBounded second third → ReadsNoMore bounded (by_link (id_of row) Adm ∷ []) a b → ReadsNoMore second (divisions (first_level row) row) b c → ReadsNoMore third (last_two row) c d → ReadsNoMore bounded (questions row) a d
after_country bounded second third row a b c d still then link above rest =
    both_read bounded second (by_link (id_of row) Adm ∷ []) (all_later row) a b d still link
    (both_read second third (divisions (first_level row) row) (last_two row) b c d then above rest)

pub country_read : (bounded : Question → ℕ → Type 0) (row : List ℕ) (a b : ℕ) → ((most : ℕ) → bounded (by_country row) most → b ≤ a + most) → ReadsNoMore bounded (last_two row) a b
country_read bounded row a b reads = front_read bounded (by_country row ∷ []) (by_link (id_of row) Plain ∷ []) a b (one_read bounded (by_country row) a b reads)

pub last_read : (bounded later : Question → ℕ → Type 0) (row : List ℕ) (a b c : ℕ) → StillBounded bounded later → ((most : ℕ) → bounded (by_country row) most → b ≤ a + most) → ReadsNoMore later (by_link (id_of row) Plain ∷ []) b c → ReadsNoMore bounded (last_two row) a c
last_read bounded later row a b c still reads link = both_read bounded later (by_country row ∷ []) (by_link (id_of row) Plain ∷ []) a b c still (one_read bounded (by_country row) a b reads) link
