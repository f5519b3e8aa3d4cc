-- The key of a link in the tree, by its key in the table.
use Rattle.std.proofs.Common.{◌≡◌, ◌≢◌, ℕ, List, [], ◌∷◌, sym, ◌∙◌, ap, subst, Option, Some, None}
use Rattle.std.specs.Prelude.{unwrap_or, slice_index, IsSome, is_some}
use Rattle.gaz_num.specs.Pieces.{column}
use Rattle.gaz_num.specs.Numbers.{id_in}
use Rattle.gaz_num.specs.Check.{reason_against, key_in, class_in, link_key as link_numbers}
use Rattle.gaz_num.specs.declared.words.Kind.TheVariants.{Link}
use Rattle.gaz_num.specs.declared.words.Kind.{Kind}
use Rattle.gaz_num.specs.declared.words.Table.TheVariants.{Links, Codes}
use Rattle.gaz_tables.specs.declared.link.LinkKey.{LinkKey}
use Rattle.gaz_tables.specs.Keys.{key_numbers}
use Rattle.gaz_keys.specs.Keys.{link_key, link_key_of}
use Rattle.gaz_keys.specs.Lines.{key_at}
use Rattle.gaz_plain.specs.Gazetteer.{table_of}
use Rattle.gaz_rows.specs.Index.{Slots, line_key}

pub link_is : (link : LinkKey) (slot : ℕ) (line : List ℕ) → key_in Link line ≡ Some (key_numbers link) → key_at Links slot line ≡ link_key_of link
link_is link slot line keyed = by (id_in (column 2 line)) (id_in (column 1 line)) keyed
  where
    by : (child parent : Option ℕ) → link_numbers child (class_in (column 3 line)) parent ≡ Some (key_numbers link) → link_key (unwrap_or child 0) (class_in (column 3 line)) (unwrap_or parent 0) ≡ link_key_of link
    by None parent is = absurd (cc)
    by (Some child) None is = absurd (cc)
    by (Some child) (Some parent) is =
        let numbers : child ∷ class_in (column 3 line) ∷ parent ∷ [] ≡ key_numbers link = ap (λ found. unwrap_or found []) is in
        ap (λ ns. link_key (slice_index ns 0) (slice_index ns 1) (slice_index ns 2)) numbers

-- So a link that its check accepts is found by that key.
pub link_target : (kind : Kind) (line : List ℕ) (link : LinkKey) (key : List ℕ) → kind ≡ Link → (reason_against Link line ≡ None) × (key_in Link line ≡ Some (key_numbers link)) → key ≡ link_key_of link
    → (reason_against kind line ≡ None) × (IsSome (key_in kind line) × (table_of kind ≢ Codes) × ((slots : Slots) → line_key slots (table_of kind) line ≡ key))
link_target kind line link key is told same =
    subst (λ k. (reason_against k line ≡ None) × (IsSome (key_in k line) × (table_of k ≢ Codes) × ((slots : Slots) → line_key slots (table_of k) line ≡ key))) (sym is)
    (told.0, (ap is_some told.1, (λ codes. cc), (λ slots. link_is link (slots (column 1 line)) line told.1 ∙ sym same)))
