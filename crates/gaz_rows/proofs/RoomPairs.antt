-- The pairs of a tree are there for keys of lines.
use Rattle.std.proofs.Common.{◌≡◌, ◌<◌, ◌/◌, ◌%◌, ◌^◌, ℕ, suc, Bool, true, false, List, [], ◌∷◌, ◌++◌, map, filter, refl, sym, ◌∙◌, ap, arith, subst, inl, inr, Option, Some}
use Rattle.std.specs.Prelude.{Contains, IsSome, is_some, if◌then◌else◌, ◌==◌, bytes_eq}
use Rattle.std.specs.List.{list_any}
use Rattle.std.specs.Int.{w64, to_be_bytes, from_be_bytes}
use Rattle.std.proofs.lemmas.Nat.{from_be_bytes-to_be_bytes_8}
use Rattle.std.proofs.lemmas.List.Elements.{All-append}
use Rattle.gaz_num.specs.declared.words.Table.{Table}
use Rattle.gaz_plain.specs.Gazetteer.{Gazetteer, lines_in}
use Rattle.gaz_leaf.specs.Node.{Pair, key_of, joined, word_at}
use Rattle.gaz_tree.specs.Pairs.{Within, lookup}
use Rattle.gaz_tree.proofs.Lists.{lookup-same, Within-ordered}
use Rattle.gaz_keys.specs.Keys.{IsKey}
use Rattle.gaz_keys.specs.Parts.{has_place, tag_of}
use Rattle.gaz_keys.specs.Lines.{more_keys}
use Rattle.gaz_keys.proofs.Tags.{contained, contained_none, more_placeless}
use Rattle.gaz_rows.specs.Index.{Slots, line_key, line_keys, IsKeyOf, IsIndexed}
use Rattle.gaz_rows.specs.Stands.{value_in, tag_in}
use Rattle.gaz_rows.proofs.Counting.{map_contains, passed}
use Rattle.gaz_rows.proofs.Fit.{AreBytes, byte_fits}

-- ---- the key that a number is

-- the last eight bytes of a number
abbrev word : ℕ → List ℕ
word n = to_be_bytes w64 (n % 2 ^ 64)

-- the last 32 bytes of a number
abbrev pub bytes_of : ℕ → List ℕ
bytes_of n = word (n / 2 ^ 192) ++ word (n / 2 ^ 128) ++ word (n / 2 ^ 64) ++ word n

low_bytes_fit : (ns : List ℕ) → AreBytes (map (λ n. n % 256) ns)
low_bytes_fit [] = λ k d below. absurd (omega (arith, below))
low_bytes_fit (n ∷ ns) = byte_fits (n % 256) (map (λ n. n % 256) ns) (omega arith) (low_bytes_fit ns)

word_fits : (n : ℕ) → AreBytes (word n)
word_fits n = by (n % 2 ^ 64)
  where
    by : (m : ℕ) → AreBytes (to_be_bytes w64 m)
    by m = low_bytes_fit (m / 256 ^ 7 ∷ m / 256 ^ 6 ∷ m / 256 ^ 5 ∷ m / 256 ^ 4 ∷ m / 256 ^ 3 ∷ m / 256 ^ 2 ∷ m / 256 ^ 1 ∷ m ∷ [])

four_words_fit : (a b c d : List ℕ) → AreBytes a → AreBytes b → AreBytes c → AreBytes d → AreBytes (a ++ b ++ c ++ d)
four_words_fit a b c d x y z w = join (a ++ b ++ c) d (join (a ++ b) c (join a b x y) z) w
  where
    join : (xs ys : List ℕ) → AreBytes xs → AreBytes ys → AreBytes (xs ++ ys)
    join = All-append (λ byte. byte < 256)

-- they are a key
pub bytes_fit : (n : ℕ) → IsKey (bytes_of n)
bytes_fit n = record {
  size = refl;
  bytes = four_words_fit (word (n / 2 ^ 192)) (word (n / 2 ^ 128)) (word (n / 2 ^ 64)) (word n) (word_fits (n / 2 ^ 192)) (word_fits (n / 2 ^ 128)) (word_fits (n / 2 ^ 64)) (word_fits n);
}

word_back : (n : ℕ) → from_be_bytes w64 (word n) ≡ n % 2 ^ 64
word_back n = from_be_bytes-to_be_bytes_8 (n % 2 ^ 64) (omega arith)

-- the number of these bytes is the number
pub number_back : (n : ℕ) → n < 2 ^ 256 → key_of (bytes_of n) ≡ n
unfolding key_of
number_back n below = joined_words ∙ sum
  where
    joined_words : joined (word_at 0 (bytes_of n)) (word_at 8 (bytes_of n)) (word_at 16 (bytes_of n)) (word_at 24 (bytes_of n)) ≡ joined (n / 2 ^ 192 % 2 ^ 64) (n / 2 ^ 128 % 2 ^ 64) (n / 2 ^ 64 % 2 ^ 64) (n % 2 ^ 64)
    joined_words = λ i. joined (word_back (n / 2 ^ 192) i) (word_back (n / 2 ^ 128) i) (word_back (n / 2 ^ 64) i) (word_back n i)

    sum : joined (n / 2 ^ 192 % 2 ^ 64) (n / 2 ^ 128 % 2 ^ 64) (n / 2 ^ 64 % 2 ^ 64) (n % 2 ^ 64) ≡ n
    sum = omega (arith, below)

-- the first of the bytes is the tag of the number
pub tag_back : (n : ℕ) → n < 2 ^ 256 → tag_of (bytes_of n) ≡ tag_in n
tag_back n below = omega (arith, below)

-- ---- the pairs of a tree

pub key_below : (low high : ℕ) (ps : List Pair) (p : Pair) → Within low high ps → Contains ps p → p.key < high
key_below low high [] p rising has = absurd (contained_none p has)
key_below low high (q ∷ qs) p rising has = elim (contained q qs p has) [
  | inl is ↦ subst (λ r. r.key < high) is (let end = Within-ordered (suc q.key) high qs rising.1 in omega (arith, end))
  | inr behind ↦ key_below (suc q.key) high qs p rising.1 behind
]

-- the key of a pair is found
pub looked_up : (ps : List Pair) (p : Pair) → Contains ps p → IsSome (lookup p.key ps)
looked_up [] p has = absurd (contained_none p has)
looked_up (q ∷ qs) p has = elim (contained q qs p has) [
  | inl is ↦ ap is_some (lookup-same p.key q qs (ap (λ r. r.key) is))
  | inr behind ↦ by (q.key == p.key) (looked_up qs p behind)
]
  where
    by : (b : Bool) → IsSome (lookup p.key qs) → IsSome (if b then Some q.value else lookup p.key qs)
    by true some = refl
    by false some = some

valued : (waiting : List (List ℕ)) (pairs : List Pair) (key : List ℕ) → IsSome (lookup (key_of key) pairs) → IsSome (value_in waiting pairs key)
valued waiting pairs key some = by (list_any (bytes_eq key) waiting)
  where
    by : (b : Bool) → IsSome (if b then Some 0 else lookup (key_of key) pairs)
    by true = refl
    by false = some

-- A line of the gazetteer stands at the place that is the value of a key with this number.
pub record IsOfLine (slots : Slots) (gaz : Gazetteer) (number : ℕ) : Type 0 where
  pub table : Table
  pub line : List ℕ
  pub there : Contains (lines_in gaz table) line
  pub is : key_of (line_key slots table line) ≡ number

-- the pairs whose values are places
abbrev pub placed : List Pair → List Pair
placed pairs = filter (λ pair. has_place (tag_in pair.key)) pairs

module _ (waiting : List (List ℕ)) (slots : Slots) (gaz : Gazetteer) (pairs : List Pair) (bytes : ℕ → Option (List ℕ))
    (held : IsIndexed slots gaz (value_in waiting pairs) bytes) (rising : Within 0 (2 ^ 256) pairs) where
  back : (p : Pair) → Contains pairs p → key_of (bytes_of p.key) ≡ p.key
  back p has = number_back p.key (key_below 0 (2 ^ 256) pairs p rising has)

  -- the key of a pair is that of a line
  of_line : (p : Pair) → Contains pairs p → IsKeyOf slots gaz (bytes_of p.key)
  of_line p has =
      held.only (bytes_of p.key) (bytes_fit p.key) (valued waiting pairs (bytes_of p.key) (subst (λ k. IsSome (lookup k pairs)) (sym (back p has)) (looked_up pairs p has)))

  -- so the key's number is among those of a line's keys
  pub pair_of_line : (p : Pair) → Contains pairs p → (table : Table) × ((line : List ℕ) × Contains (lines_in gaz table) line × Contains (map key_of (line_keys slots table line)) p.key)
  pair_of_line p has =
      let of = of_line p has in
      (of.table, (of.line, of.there, subst (Contains (map key_of (line_keys slots of.table of.line))) (back p has) (map_contains key_of (line_keys slots of.table of.line) (bytes_of p.key) of.among)))

  -- and where the value is a place, it is the number of the key by which the line stands there
  pub place_of_line : (p : Pair) → Contains (placed pairs) p → IsOfLine slots gaz p.key
  place_of_line p has =
      let there = passed (λ pair. has_place (tag_in pair.key)) pairs p has in
      let of = of_line p there.0 in
      elim (contained (line_key slots of.table of.line) (more_keys of.table of.line) (bytes_of p.key) of.among) [
        | inl same ↦ record { table = of.table; line = of.line; there = of.there; is = ap key_of same ∙ back p there.0 }
        | inr more ↦
            let tag = tag_back p.key (key_below 0 (2 ^ 256) pairs p rising there.0) in
            absurd (false_is_true (sym (more_placeless of.table of.line (bytes_of p.key) more) ∙ ap has_place tag ∙ there.1))
      ]
    where
      false_is_true : false ≡ true → ⊥
      false_is_true is = cc
