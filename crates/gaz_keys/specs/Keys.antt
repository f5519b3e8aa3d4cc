-- Keys made of their parts: 32 bytes, the tag first.
use Rattle.std.specs.Prelude.{◌≡◌, ◌<◌, ℕ, All, List, ◌∷◌, ◌++◌, length, replicate}
use Rattle.std.specs.Int.{w16, w32, w64, to_be_bytes}
use Rattle.gaz_tables.specs.declared.link.LinkKey.{LinkKey}
use Rattle.gaz_tables.specs.Keys.{class_number}

-- an id or a slot
abbrev pub four : ℕ → List ℕ
four number = to_be_bytes w32 number

-- of a row
unfoldable pub place_key : ℕ → List ℕ
place_key id = 1 ∷ four id ++ replicate 27 0

-- of an alternate name
unfoldable pub alternate_key : ℕ → List ℕ
alternate_key id = 2 ∷ four id ++ replicate 27 0

-- of a link, by its child
unfoldable pub link_key : ℕ → ℕ → ℕ → List ℕ
link_key child class parent = 3 ∷ four child ++ (class ∷ four parent ++ replicate 22 0)

-- of a link, by its parent
unfoldable pub reverse_key : ℕ → ℕ → ℕ → List ℕ
reverse_key parent class child = 4 ∷ four parent ++ (class ∷ four child ++ replicate 22 0)

-- of a country, with 4 bytes of its code
unfoldable pub country_key : List ℕ → List ℕ
country_key code = 5 ∷ code ++ replicate 27 0

-- of an admin code, with 23 bytes of it
unfoldable pub code_key : List ℕ → ℕ → List ℕ
code_key first slot = 6 ∷ first ++ replicate 4 0 ++ four slot

-- of a name, with 22 bytes of its name key. The source is 0 for the name, 1 for the asciiname and 2 for an alternate name
unfoldable pub text_key : List ℕ → ℕ → ℕ → ℕ → List ℕ
text_key first source place alternate = 7 ∷ first ++ (source ∷ four place ++ four alternate)

-- of a row by where it lies
unfoldable pub box_key : ℕ → ℕ → ℕ → List ℕ
box_key band east id = 8 ∷ to_be_bytes w16 band ++ to_be_bytes w64 east ++ four id ++ replicate 17 0

-- of a division or a country row, with 26 bytes of its path
unfoldable pub division_key : ℕ → List ℕ → ℕ → List ℕ
division_key level first id = 9 ∷ level ∷ first ++ four id

-- of a row by its divisions, with 27 bytes of its path
unfoldable pub path_key : List ℕ → ℕ → List ℕ
path_key first id = 10 ∷ first ++ four id

-- 32 bytes
pub record IsKey (key : List ℕ) : Type 0 where
  pub size : length key ≡ 32
  pub bytes : All (λ byte. byte < 256) key

-- the two keys of a link
abbrev pub link_key_of : LinkKey → List ℕ
link_key_of link = link_key link.child (class_number link.class) link.parent

abbrev pub reverse_key_of : LinkKey → List ℕ
reverse_key_of link = reverse_key link.parent (class_number link.class) link.child
