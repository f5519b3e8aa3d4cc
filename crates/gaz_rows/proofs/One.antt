-- Pages stand for one gazetteer.
use Rattle.std.proofs.Common.{◌≡◌, ℕ, List, [], sym, ◌∙◌, ap, arith, subst, inl, inr, Option, Some}
use Rattle.std.specs.Prelude.{Contains, option_and_then}
use Rattle.std.specs.Ordering.{ordering_reverse}
use Rattle.std.specs.declared.cmp.Ordering.TheVariants.{Less, Greater}
use Rattle.std.proofs.lemmas.Cmp.{nat_list_cmp_total}
use Rattle.gaz_num.specs.Pieces.{column}
use Rattle.gaz_plain.specs.Gazetteer.{Gazetteer}
use Rattle.gaz_num.specs.declared.words.Table.{Table}
use Rattle.gaz_num.specs.declared.words.Table.TheVariants.{Rows, Alternates, Links, Countries, Codes}
use Rattle.gaz_plain.specs.Gazetteer.{lines_in, key_of, KeysRise, IsLine, kind_in}
use Rattle.gaz_page.specs.declared.tree_root.Root.{Root}
use Rattle.gaz_keys.specs.Keys.{IsKey}
use Rattle.gaz_keys.specs.Lines.{more_keys}
use Rattle.gaz_keys.proofs.Tags.{tag_at}
use Rattle.gaz_rows.specs.Index.{Slots, line_key, IsKeyOf, IsIndexed}
use Rattle.gaz_heap.specs.Place.{record_at}
use Rattle.gaz_leaf.specs.Node.{Pair}
use Rattle.gaz_tree.specs.Tree.{IsTop, tree_pairs}
use Rattle.gaz_page.specs.Area.{page_at}
use Rattle.gaz_redo.specs.Content.{Contents}
use Rattle.gaz_rows.specs.Stands.{StandsForBut, StandsFor, value_in}
use Rattle.gaz_rows.specs.Content.{IsNamed, HasGaz, side_bytes}
use Rattle.gaz_rows.specs.Laws.{PagesHaveOne, AreasHaveOne}
use Rattle.std.proofs.lemmas.List.Elements.{All-contains}
use Rattle.gaz_rows.proofs.Fit.{key_fits}
use Rattle.gaz_rows.proofs.Members.{head_is_in, same_members}
use Rattle.gaz_rows.proofs.Keyed.{some_inj, that_of}

module _ (value : List ℕ → Option ℕ) (bytes : ℕ → Option (List ℕ)) (a b : Gazetteer) (a_slots b_slots : Slots) (a_held : IsIndexed a_slots a value bytes) (b_held : IsIndexed b_slots b value bytes) where
  -- the key of a line of the one is a key of the other
  line_moves : (table : Table) (line : List ℕ) → IsKey (line_key a_slots table line) → Contains (lines_in a table) line → Contains (lines_in b table) line
  line_moves table line fits there =
      let key = line_key a_slots table line in
      let of : IsKeyOf a_slots a key = record { table = table; line = line; there = there; among = head_is_in key (more_keys table line) } in
      let other = that_of b_slots b table key (tag_at table (a_slots (column 1 line)) line) (b_held.only key fits (a_held.all key of)) in
      let same : Some other.line ≡ Some line =
      sym (b_held.lines table other.line other.there) ∙ ap (λ k. option_and_then bytes (value k)) other.is ∙ a_held.lines table line there
      in
      subst (Contains (lines_in b table)) (some_inj other.line line same) other.there

apart : (table : Table) (x y : List ℕ) → KeysRise table x y → KeysRise table y x → ⊥
apart table x y less more =
    never (sym less ∙ nat_list_cmp_total.antisymm (key_of table x) (key_of table y) ∙ ap ordering_reverse more)
  where
    never : Less ≡ Greater → ⊥
    never is = cc

-- pages have one list of pairs
pub one_tree : (pages : ℕ → List ℕ) (height top : ℕ) (a b : List Pair) → IsTop pages height top a → IsTop pages height top b → a ≡ b
one_tree pages height top a b first second =
    let tall = first.tall in
    let also = second.tall in
    let level : first.level ≡ second.level = omega (arith, tall, also) in
    sym first.holds ∙ ap (λ n. tree_pairs pages n top) level ∙ second.holds

-- the key of each line of a gazetteer has 32 bytes
place_keys_fit : (waiting : List (List ℕ)) (pages : ℕ → List ℕ) (root : Root) (gaz : Gazetteer) (stands : StandsForBut waiting gaz pages root) (table : Table) (line : List ℕ) → Contains (lines_in gaz table) line → IsKey (line_key stands.slots table line)
place_keys_fit waiting pages root gaz stands table line there =
    key_fits table (stands.slots (column 1 line)) line (All-contains (IsLine (kind_in table)) (lines_in gaz table) line (stands.is_gazetteer.tables table).each there)

module _ (waiting : List (List ℕ)) (pages : ℕ → List ℕ) (root : Root) where
  lines_move : (a b : Gazetteer) (first : StandsForBut waiting a pages root) (second : StandsForBut waiting b pages root) (table : Table) (line : List ℕ) → Contains (lines_in a table) line → Contains (lines_in b table) line
  lines_move a b first second table line there =
      let same : second.pairs ≡ first.pairs = one_tree pages root.height root.top second.pairs first.pairs second.tree first.tree in
      let held = subst (λ pairs. IsIndexed second.slots b (value_in waiting pairs) (record_at pages)) same second.indexed in
      line_moves (value_in waiting first.pairs) (record_at pages) a b first.slots second.slots first.indexed held table line
      (place_keys_fit waiting pages root a first table line there) there

  same_lines : (a b : Gazetteer) (first : StandsForBut waiting a pages root) (second : StandsForBut waiting b pages root) (table : Table) → lines_in a table ≡ lines_in b table
  same_lines a b first second table =
      same_members (KeysRise table) (apart table) (lines_in a table) (lines_in b table)
      (first.is_gazetteer.tables table).rising (second.is_gazetteer.tables table).rising
      (lines_move a b first second table) (lines_move b a second first table)

-- gazetteers with the same date and lines are one
same_gaz : (a b : Gazetteer) → a.date ≡ b.date → ((table : Table) → lines_in a table ≡ lines_in b table) → a ≡ b
same_gaz a b date lines =
    ap (λ d. record a { date = d }) date
    ∙ ap (λ l. record a { date = b.date; rows = l }) (lines Rows)
    ∙ ap (λ l. record a { date = b.date; rows = b.rows; alternates = l }) (lines Alternates)
    ∙ ap (λ l. record a { date = b.date; rows = b.rows; alternates = b.alternates; links = l }) (lines Links)
    ∙ ap (λ l. record b { countries = l; codes = a.codes }) (lines Countries)
    ∙ ap (λ l. record b { codes = l }) (lines Codes)

pub pages_have_one : PagesHaveOne
pages_have_one waiting pages root a b first second =
    same_gaz a b (first.date ∙ sym second.date) (same_lines waiting pages root a b first second)

named_one : (c : Contents) (a b : Gazetteer) → IsNamed c a → IsNamed c b → a ≡ b
named_one c a b first second =
    let same : second.root ≡ first.root = some_inj second.root first.root (sym second.says ∙ first.says) in
    pages_have_one [] (page_at (side_bytes first.root.side c)) first.root a b first.stands
    (subst (λ root. StandsFor b (page_at (side_bytes root.side c)) root) same second.stands)

contents_have_one : (c : Contents) (a b : Gazetteer) → HasGaz c a → HasGaz c b → a ≡ b
contents_have_one c a b (inl short) (inl also) = short.1 ∙ sym also.1
contents_have_one c a b (inl short) (inr named) = let less = short.0 in let most = named.whole in absurd (omega (arith, less, most))
contents_have_one c a b (inr named) (inl short) = let less = short.0 in let most = named.whole in absurd (omega (arith, less, most))
contents_have_one c a b (inr first) (inr second) = named_one c a b first second

pub areas_have_one : AreasHaveOne
areas_have_one areas a b first second =
    let same : second.three ≡ first.three = some_inj second.three first.three (sym second.content ∙ first.content) in
    contents_have_one first.three a b first.gaz_in (subst (λ c. HasGaz c b) same second.gaz_in)
