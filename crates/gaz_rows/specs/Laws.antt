-- What holds of the gazetteers that pages and areas stand for.
use Rattle.std.specs.Prelude.{◌≡◌, ℕ, List, []}
use Rattle.gaz_outside.specs.declared.station.Area.{Area}
use Rattle.gaz_plain.specs.Gazetteer.{Gazetteer, empty}
use Rattle.gaz_plain.specs.Gazetteer.{IsGazetteer}
use Rattle.gaz_page.specs.declared.tree_root.Root.{Root}
use Rattle.gaz_rows.specs.Stands.{StandsForBut}
use Rattle.gaz_rows.specs.Content.{Mirrors}

-- Pages stand for at most one gazetteer, whatever keys wait.
abbrev pub PagesHaveOne : Type 0
PagesHaveOne = (waiting : List (List ℕ)) (pages : ℕ → List ℕ) (root : Root) (a b : Gazetteer) → StandsForBut waiting a pages root → StandsForBut waiting b pages root → a ≡ b

-- Areas mirror at most one gazetteer.
abbrev pub AreasHaveOne : Type 0
AreasHaveOne = (areas : Area → List ℕ) (a b : Gazetteer) → Mirrors areas a → Mirrors areas b → a ≡ b

-- What areas mirror is a gazetteer.
abbrev pub MirroredIsGazetteer : Type 0
MirroredIsGazetteer = (areas : Area → List ℕ) (gaz : Gazetteer) → Mirrors areas gaz → IsGazetteer gaz

-- Areas without a byte mirror the empty gazetteer.
abbrev pub EmptyAtFirst : Type 0
EmptyAtFirst = Mirrors (λ area. []) empty
