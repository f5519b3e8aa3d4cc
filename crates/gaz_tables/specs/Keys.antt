-- The key of a link as numbers.
use Rattle.std.specs.Prelude.{ℕ, List, [], ◌∷◌}
use Rattle.gaz_tables.specs.declared.link.LinkClass.{LinkClass}
use Rattle.gaz_tables.specs.declared.link.LinkClass.TheVariants.{Adm, Plain, Other}
use Rattle.gaz_tables.specs.declared.link.LinkKey.{LinkKey}

-- a class as a number
abbrev pub class_number : LinkClass → ℕ
class_number Adm = 0
class_number Plain = 1
class_number Other = 2

-- a key as numbers
abbrev pub key_numbers : LinkKey → List ℕ
key_numbers key = key.child ∷ class_number key.class ∷ key.parent ∷ []
