-- The links of a child, as the range of their keys has them.
use Rattle.std.proofs.Common.{◌≡◌, ◌<◌, ◌≤◌, ◌+◌, ◌-◌, ◌*◌, ◌^◌, ℕ, Bool, true, false, true≢false, List, [], ◌∷◌, length, map, filter, refl, sym, ◌∙◌, ap, ap₂, arith, subst, inl, inr, Option, Some, None}
use Rattle.std.specs.Prelude.{Contains, find, ◌==◌, ◌&&◌, ◌||◌, unwrap_or, IsSome, is_some, codes, if◌then◌else◌}
use Rattle.std.specs.Str.{bytes_eq}
use Rattle.std.proofs.lemmas.Bool.{eqb-true, or_left, or_right}
use Rattle.std.proofs.lemmas.List.{length-map}
use Rattle.std.proofs.lemmas.List.Sums.{length-filter, count_by-le-length}
use Rattle.gaz_num.proofs.CalendarLemmas.{and_left, and_right}
use Rattle.std.specs.List.{list_any}
use Rattle.gaz_num.specs.Numbers.{id_in}
use Rattle.gaz_num.specs.Pieces.{column}
use Rattle.gaz_num.specs.Check.{class_in, is_empty, link_key as link_numbers}
use Rattle.gaz_num.specs.declared.words.Table.{Table}
use Rattle.gaz_num.specs.declared.words.Table.TheVariants.{Rows, Links}
use Rattle.gaz_num.specs.declared.words.Kind.TheVariants.{Link}
use Rattle.gaz_row.specs.Row.{id_of}
use Rattle.gaz_tables.specs.declared.link.LinkClass.{LinkClass}
use Rattle.gaz_tables.specs.declared.link.LinkClass.TheVariants.{Adm, Plain, Other}
use Rattle.gaz_tables.specs.Keys.{class_number}
use Rattle.gaz_parent.specs.Parent.{is_link, is_this, linked, may_be}
use Rattle.gaz_plain.specs.Gazetteer.{Gazetteer, IsLine, line_with}
use Rattle.gaz_plain.specs.Ordered.{passes_at}
use Rattle.gaz_plain.proofs.Foremost.{row_at, found_id, link_found}
use Rattle.gaz_plain.proofs.Sought.{linked_sought}
use Rattle.gaz_plain.specs.Kin.{lists_of}
use Rattle.gaz_page.specs.declared.tree_root.Root.{Root}
use Rattle.gaz_page.specs.Pages.{PagesView}
use Rattle.gaz_leaf.specs.Node.{Pair, key_of}
use Rattle.gaz_keys.specs.Keys.{link_key}
use Rattle.gaz_keys.specs.Lines.{id_at, more_keys}
use Rattle.gaz_keys.specs.Parts.{tag_of}
use Rattle.gaz_keys.proofs.Tags.{contained, contained_none}
use Rattle.gaz_keys.proofs.Fit.{id_small}
use Rattle.gaz_keys.proofs.KeysFit.{keys_fit}
use Rattle.gaz_rows.specs.Store.{IsStore}
use Rattle.gaz_rows.specs.Stands.{tag_in}
use Rattle.gaz_rows.proofs.Counting.{map_contains, map_from, few_pairs}
use Rattle.gaz_rows.proofs.Finding.{kept_in}
use Rattle.gaz_rows.proofs.Fit.{keyed}
use Rattle.gaz_rows.proofs.Keyed.{that_of}
use Rattle.gaz_rows.proofs.Members.{head_is_in, tail_is_in}
use Rattle.gaz_rows.proofs.PairsPlaces.{tag_key}
use Rattle.gaz_kin.specs.declared.ids.Part.TheVariants.{Other as other_end}
use Rattle.gaz_kin.specs.Ids.{id_in_key, ids_in}
use Rattle.gaz_kin.specs.Above.{fits_at, may_be_parent}
use Rattle.gaz_kin.proofs.Numbers.{link_number}
use Rattle.gaz_kin.proofs.Indexed.{is_line, each_in, pair_in, range, range_within}
use Rattle.gaz_kin.proofs.Seeking.{first_is_least, find_agrees, has_among, as_pairs, ids_rise}

-- some line passes a test, and which
pub any_has : (p : List ℕ → Bool) (xs : List (List ℕ)) → list_any p xs ≡ true → (x : List ℕ) × Contains xs x × (p x ≡ true)
any_has p [] some = absurd (true≢false (sym some))
any_has p (y ∷ ys) some = by (p y) refl some (any_has p ys)
  where
    by : (b : Bool) → p y ≡ b → (b || list_any p ys) ≡ true → (list_any p ys ≡ true → (x : List ℕ) × Contains ys x × (p x ≡ true)) → (x : List ℕ) × Contains (y ∷ ys) x × (p x ≡ true)
    by true is some rest = (y, head_is_in y ys, is)
    by false is some rest = let more = rest some in (more.0, tail_is_in y ys more.0 more.1, more.2)

pub has_any : (p : List ℕ → Bool) (xs : List (List ℕ)) (x : List ℕ) → Contains xs x → p x ≡ true → list_any p xs ≡ true
has_any p [] x has is = absurd (contained_none x has)
has_any p (y ∷ ys) x has is = elim (contained y ys x has) [
  | inl same ↦ or_left (p y) (list_any p ys) (ap p same ∙ is)
  | inr later ↦ or_right (p y) (list_any p ys) (has_any p ys x later is)
]

-- a class has a byte
pub class_small : (class : LinkClass) → class_number class < 256
class_small Adm = omega arith
class_small Plain = omega arith
class_small Other = omega arith

pub type_small : (type : List ℕ) → class_in type < 256
type_small type = by (bytes_eq type (codes "ADM")) (is_empty type)
  where
    by : (a b : Bool) → (if a then 0 else if b then 1 else 2) < 256
    by true b = omega arith
    by false true = omega arith
    by false false = omega arith

-- the ids of a link are there
ids_there : (child parent : Option ℕ) (class : ℕ) → IsSome (link_numbers child class parent) → (child ≡ Some (unwrap_or child 0)) × (parent ≡ Some (unwrap_or parent 0))
ids_there None parent class some = absurd (cc)
ids_there (Some c) None class some = absurd (cc)
ids_there (Some c) (Some p) class some = (refl, refl)

-- so it is one of these
pub is_of : (class : LinkClass) (child parent : ℕ) (line : List ℕ) → IsLine Link line → class_in (column 3 line) ≡ class_number class → id_at 2 line ≡ child → id_at 1 line ≡ parent → is_link class child parent line ≡ true
is_of class child parent line is same_class same_child same_parent =
    let there = ids_there (id_in (column 2 line)) (id_in (column 1 line)) (class_in (column 3 line)) is.keyed in
    let k : (class_in (column 3 line) == class_number class) ≡ true = grind (arith, same_class) in
    let c : is_this child (id_in (column 2 line)) ≡ true = ap (is_this child) there.0 ∙ this (id_at 2 line) child same_child in
    let p : is_this parent (id_in (column 1 line)) ≡ true = ap (is_this parent) there.1 ∙ this (id_at 1 line) parent same_parent in
    rw (k, c, p) refl
  where
    this : (m n : ℕ) → m ≡ n → (m == n) ≡ true
    this m n same = grind (arith, same)

-- and what one of these says
pub record IsOf (class : LinkClass) (child parent : ℕ) (line : List ℕ) : Type 0 where
  pub class_is : class_in (column 3 line) ≡ class_number class
  pub child_is : id_at 2 line ≡ child
  pub parent_is : id_at 1 line ≡ parent

pub of_is : (class : LinkClass) (child parent : ℕ) (line : List ℕ) → is_link class child parent line ≡ true → IsOf class child parent line
of_is class child parent line is =
    let k = class_in (column 3 line) == class_number class in
    let c = is_this child (id_in (column 2 line)) in
    let p = is_this parent (id_in (column 1 line)) in
    let two : (k && c) ≡ true = and_left (k && c) p is in
    record {
      class_is = eqb-true (class_in (column 3 line)) (class_number class) (and_left k c two);
      child_is = number child (id_in (column 2 line)) (and_right k c two);
      parent_is = number parent (id_in (column 1 line)) (and_right (k && c) p is);
    }
  where
    number : (n : ℕ) (found : Option ℕ) → is_this n found ≡ true → unwrap_or found 0 ≡ n
    number n None is = absurd (true≢false (sym is))
    number n (Some m) is = eqb-true m n is

module _ (gaz : Gazetteer) (v : PagesView) (root : Root) (stands : IsStore gaz v root) (child : ℕ) (class : LinkClass) (child_small : child < 2 ^ 32) where
  abbrev pub key : ℕ → List ℕ
  key parent = link_key child (class_number class) parent

  -- the pairs of the links of this class from the child
  abbrev pub linked_range : List Pair
  linked_range = range gaz v root stands (key_of (key 0)) (key_of (key (2 ^ 32 - 1)))

  numbered : (parent : ℕ) → parent < 2 ^ 32 → key_of (key parent) ≡ key_of (key 0) + parent * 2 ^ 176
  numbered parent small =
      let one = link_number child (class_number class) parent child_small (class_small class) small in
      let none = link_number child (class_number class) 0 child_small (class_small class) (omega arith) in
      omega (arith, one, none)

  -- A pair is there for such a link, and has the id of its parent.
  pub record IsLinked (p : Pair) : Type 0 where
    pub line : List ℕ
    pub there : Contains gaz.links line
    pub at : p.key ≡ key_of (key (id_at 1 line))
    pub id : id_in_key other_end p.key ≡ id_at 1 line
    pub is : is_link class child (id_at 1 line) line ≡ true

  pub each_linked : (p : Pair) → Contains linked_range p → IsLinked p
  each_linked p has =
      let inside = each_in gaz v root stands (key_of (key 0)) (key_of (key (2 ^ 32 - 1))) p has in
      let of = inside.of in
      let last = numbered (2 ^ 32 - 1) (omega arith) in
      let none = link_number child (class_number class) 0 child_small (class_small class) (omega arith) in
      let from = inside.from in
      let to = inside.to in
      let k_small = class_small class in
      let fits = keys_fit of.table (slot of.table of.line) of.line of.key (keyed of.table of.line (is_line gaz v root stands of.table of.line of.there)) of.among in
      let tag : tag_of of.key ≡ 3 = sym (tag_key of.key fits) ∙ ap tag_in of.is ∙ omega (arith, from, to, last, none, child_small, k_small) in
      let that = that_of stands.slots gaz Links of.key tag (record { table = of.table; line = of.line; there = of.there; among = of.among }) in
      by p that.line that.there (is_line gaz v root stands Links that.line that.there) (ap key_of that.is ∙ of.is) from to
    where
      slot : Table → List ℕ → ℕ
      slot table line = stands.slots (column 1 line)

      by : (p : Pair) (line : List ℕ) → Contains gaz.links line → IsLine Link line → key_of (link_key (id_at 2 line) (class_in (column 3 line)) (id_at 1 line)) ≡ p.key
          → key_of (key 0) ≤ p.key → p.key ≤ key_of (key (2 ^ 32 - 1)) → IsLinked p
      by p line there is number from to =
          let own = link_number (id_at 2 line) (class_in (column 3 line)) (id_at 1 line) (id_small 2 line) (type_small (column 3 line)) (id_small 1 line) in
          let first = link_number child (class_number class) 0 child_small (class_small class) (omega arith) in
          let last = numbered (2 ^ 32 - 1) (omega arith) in
          let c_small = id_small 2 line in
          let k_small = type_small (column 3 line) in
          let p_small = id_small 1 line in
          let class_fits = class_small class in
          let same_child : id_at 2 line ≡ child = omega (arith, own, number, from, to, first, last, c_small, k_small, p_small, child_small, class_fits) in
          let same_class : class_in (column 3 line) ≡ class_number class = omega (arith, own, number, from, to, first, last, c_small, k_small, p_small, child_small, class_fits, same_child) in
          let here = numbered (id_at 1 line) p_small in
          let at : p.key ≡ key_of (key (id_at 1 line)) = sym number ∙ ap₂ (λ c k. key_of (link_key c k (id_at 1 line))) same_child same_class in
          record {
            line = line;
            there = there;
            at = at;
            id = omega (arith, at, here, first, p_small);
            is = is_of class child (id_at 1 line) line is same_class same_child refl;
          }

  -- Each such link has a pair.
  pub link_in : (parent : ℕ) (line : List ℕ) → Contains gaz.links line → is_link class child parent line ≡ true → Contains (ids_in other_end linked_range) parent
  link_in parent line there is =
      let of = of_is class child parent line is in
      let small : parent < 2 ^ 32 = subst (λ n. n < 2 ^ 32) of.parent_is (id_small 1 line) in
      let own : link_key (id_at 2 line) (class_in (column 3 line)) (id_at 1 line) ≡ key parent =
      ap (λ c. link_key c (class_in (column 3 line)) (id_at 1 line)) of.child_is ∙ ap₂ (λ k n. link_key child k n) of.class_is of.parent_is in
      let here = numbered parent small in
      let last = numbered (2 ^ 32 - 1) (omega arith) in
      let first = link_number child (class_number class) 0 child_small (class_small class) (omega arith) in
      let pair = pair_in gaz v root stands (key_of (key 0)) (key_of (key (2 ^ 32 - 1))) Links line (key parent) there (subst (λ k. Contains (k ∷ more_keys Links line) (key parent)) (sym own) (head_is_in (key parent) (more_keys Links line)))
      (omega (arith, here)) (omega (arith, here, last, small)) in
      subst (Contains (ids_in other_end linked_range)) (omega (arith, here, first, small)) (map_contains (λ q. id_in_key other_end q.key) linked_range (record { key = key_of (key parent); value = pair.0 }) pair.1)

  -- There are no more than links of the class from the child.
  pub linked_few : length linked_range ≤ length (filter (λ line. is_link class child (id_at 1 line) line) gaz.links)
  linked_few =
      omega (
        arith,
        few_pairs 0 (2 ^ 256) linked_range (map (λ line. key_of (key (id_at 1 line))) (filter (λ line. is_link class child (id_at 1 line) line) gaz.links)) (range_within gaz v root stands (key_of (key 0)) (key_of (key (2 ^ 32 - 1))))
            (λ p has.
            let is = each_linked p has in
            subst (Contains (map (λ line. key_of (key (id_at 1 line))) (filter (λ line. is_link class child (id_at 1 line) line) gaz.links))) (sym is.at)
            (map_contains (λ line. key_of (key (id_at 1 line))) (filter (λ line. is_link class child (id_at 1 line) line) gaz.links) is.line (kept_in (λ line. is_link class child (id_at 1 line) line) gaz.links is.line is.there is.is))),
        length-map (filter (λ line. is_link class child (id_at 1 line) line) gaz.links) (λ line. key_of (key (id_at 1 line))),
      )

  pub linked_within : length linked_range ≤ root.counts.links
  linked_within =
      let few = linked_few in
      let most = count_by-le-length (λ line. is_link class child (id_at 1 line) line) gaz.links in
      let counted = length-filter (λ line. is_link class child (id_at 1 line) line) gaz.links in
      let counts = ap (λ c. c.links) stands.counts in
      omega (arith, few, most, counted, counts)

  -- The first id of the range whose row is there and isn't the child is the one that the rule takes.
  pub least_is : find (fits_at gaz (may_be_parent child)) (ids_in other_end linked_range) ≡ linked (lists_of gaz) child class
  unfolding linked
  least_is =
      find_agrees (fits_at gaz (may_be_parent child)) (fits_at gaz may) (ids_in other_end linked_range) (λ id has. agree id (line_with Rows (id ∷ []) gaz) refl (some_link id has))
      ∙ first_is_least may gaz.rows (stands.is_gazetteer.tables Rows) (ids_in other_end linked_range)
      (linked_sought gaz stands.is_gazetteer child class (as_pairs (ids_in other_end linked_range))
      (ids_rise other_end (key_of (key 0)) (2 ^ 176) (omega arith) 0 (2 ^ 256) linked_range (range_within gaz v root stands (key_of (key 0)) (key_of (key (2 ^ 32 - 1))))
      (λ p has. let is = each_linked p has in let at = is.at in let own = is.id in let here = numbered (id_at 1 is.line) (id_small 1 is.line) in omega (arith, at, own, here)))
      (λ parent link at. has_among (ids_in other_end linked_range) parent (there parent (sym (link_found class child parent gaz.links (stands.is_gazetteer.tables Links).each) ∙ ap is_some at))))
    where
      may : List ℕ → Bool
      may = may_be child (λ other. list_any (is_link class child (id_of other)) gaz.links)

      there : (parent : ℕ) → list_any (is_link class child parent) gaz.links ≡ true → Contains (ids_in other_end linked_range) parent
      there parent some = let one = any_has (is_link class child parent) gaz.links some in link_in parent one.0 one.1 one.2

      some_link : (id : ℕ) → Contains (ids_in other_end linked_range) id → list_any (is_link class child id) gaz.links ≡ true
      some_link id has =
          let from = map_from (λ q. id_in_key other_end q.key) linked_range id has in
          let is = each_linked from.0 from.1 in
          let same : id_at 1 is.line ≡ id = sym is.id ∙ from.2 in
          has_any (is_link class child id) gaz.links is.line is.there (ap (λ n. is_link class child n is.line) (sym same) ∙ is.is)

      agree : (id : ℕ) (found : Option (List ℕ)) → line_with Rows (id ∷ []) gaz ≡ found → list_any (is_link class child id) gaz.links ≡ true → passes_at (may_be_parent child) (line_with Rows (id ∷ []) gaz) ≡ passes_at may (line_with Rows (id ∷ []) gaz)
      agree id None at some = rw at refl
      agree id (Some row) at some =
          let own : id_of row ≡ id = found_id id gaz.rows row (row_at id gaz.rows (stands.is_gazetteer.tables Rows).each ∙ at) in
          let test : list_any (is_link class child (id_of row)) gaz.links ≡ true = ap (λ n. list_any (is_link class child n) gaz.links) own ∙ some in
          rw (at, test) refl
