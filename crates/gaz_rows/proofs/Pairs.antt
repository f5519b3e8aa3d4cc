-- What a look-up finds among pairs once keys were put and taken out.
use Rattle.std.proofs.Common.{◌≡◌, ◌≢◌, ℕ, suc, Bool, true, false, List, [], ◌∷◌, refl, sym, ◌∙◌, ap, arith, subst, inl, inr, Some, None}
use Rattle.std.specs.Prelude.{◌⊎◌, Contains, bytes_eq, not, ◌||◌, ◌==◌, if◌then◌else◌}
use Rattle.std.specs.List.{list_any}
use Rattle.std.proofs.lemmas.Bool.{cases_eq}
use Rattle.std.proofs.lemmas.Slice.Eq.{bytes_eq-Decides}
use Rattle.gaz_leaf.specs.Node.{Pair, key_of}
use Rattle.gaz_tree.specs.Pairs.{Within, lookup, put, without}
use Rattle.gaz_tree.proofs.Lists.{lookup-other, lookup-below, without-other, without-same, Within-without}
use Rattle.gaz_keys.specs.Keys.{IsKey}
use Rattle.gaz_keys.proofs.Tags.{contained, contained_none}
use Rattle.gaz_rows.specs.Work.{put_zeros, without_all, missing_in}
use Rattle.gaz_rows.specs.Steps.{pair_at}
use Rattle.gaz_rows.proofs.Members.{head_is_in, tail_is_in}
use Rattle.gaz_rows.proofs.Numbers.{same_key}
use Rattle.gaz_rows.proofs.Settled.{put_there, put_elsewhere}
use Rattle.gaz_rows.proofs.Reindexed.{is_in}
use Rattle.gaz_rows.proofs.Counting.{passed}
use Rattle.gaz_rows.proofs.ReindexedLines.{filter_has, false_is_true}

-- ---- one key

-- what was taken out isn't there
pub without_there : (key low high : ℕ) (pairs : List Pair) → Within low high pairs → lookup key (without key pairs) ≡ None
without_there key low high [] rising = refl
without_there key low high (p ∷ ps) rising = elim (cases_eq p.key key) [
  | inl same ↦ ap (lookup key) (without-same key p ps same) ∙ subst (λ k. lookup k ps ≡ None) same (lookup-below p.key (suc p.key) high ps (omega arith) rising.1)
  | inr differs ↦ ap (lookup key) (without-other key p ps differs) ∙ lookup-other key p (without key ps) differs ∙ without_there key (suc p.key) high ps rising.1
]

-- and at another key stands what stood there
pub without_elsewhere : (other key : ℕ) (pairs : List Pair) → key ≢ other → lookup other (without key pairs) ≡ lookup other pairs
without_elsewhere other key [] differs = refl
without_elsewhere other key (p ∷ ps) differs = elim (cases_eq p.key key) [
  | inl same ↦ ap (lookup other) (without-same key p ps same) ∙ sym (lookup-other other p ps (λ is. differs (sym same ∙ is)))
  | inr apart ↦ ap (lookup other) (without-other key p ps apart) ∙ ap (λ found. if p.key == other then Some p.value else found) (without_elsewhere other key ps differs)
]

-- ---- keys of 32 bytes, by their numbers

-- numbers of different keys are different
pub numbers_differ : (a b : List ℕ) → IsKey a → IsKey b → a ≢ b → key_of a ≢ key_of b
numbers_differ a b a_key b_key differs is = differs (same_key a b a_key b_key is)

-- All keys of a list have 32 bytes.
abbrev pub AllKeys : List (List ℕ) → Type 0
AllKeys keys = (key : List ℕ) → Contains keys key → IsKey key

pub behind_keys : (first : List ℕ) (keys : List (List ℕ)) → AllKeys (first ∷ keys) → AllKeys keys
behind_keys first keys all key has = all key (tail_is_in first keys key has)

pub first_key : (first : List ℕ) (keys : List (List ℕ)) → AllKeys (first ∷ keys) → IsKey first
first_key first keys all = all first (head_is_in first keys)

-- ---- lists of keys

pub rising_without_all : (keys : List (List ℕ)) (low high : ℕ) (pairs : List Pair) → Within low high pairs → Within low high (without_all keys pairs)
rising_without_all [] low high pairs rising = rising
rising_without_all (key ∷ keys) low high pairs rising = rising_without_all keys low high (without (key_of key) pairs) (Within-without (key_of key) low high pairs rising)

pub all_out_elsewhere : (keys : List (List ℕ)) (key : List ℕ) (pairs : List Pair) → AllKeys keys → IsKey key → (Contains keys key → ⊥) → lookup (key_of key) (without_all keys pairs) ≡ lookup (key_of key) pairs
all_out_elsewhere [] key pairs all fits lacks = refl
all_out_elsewhere (first ∷ keys) key pairs all fits lacks =
    all_out_elsewhere keys key (without (key_of first) pairs) (behind_keys first keys all) fits (λ has. lacks (tail_is_in first keys key has))
    ∙ without_elsewhere (key_of key) (key_of first) pairs (numbers_differ first key (first_key first keys all) fits (λ is. lacks (subst (Contains (first ∷ keys)) is (head_is_in first keys))))

pub all_out_there : (keys : List (List ℕ)) (key : List ℕ) (low high : ℕ) (pairs : List Pair) → Within low high pairs → AllKeys keys → IsKey key → Contains keys key → lookup (key_of key) (without_all keys pairs) ≡ None
all_out_there [] key low high pairs rising all fits has = absurd (contained_none key has)
all_out_there (first ∷ keys) key low high pairs rising all fits has = elim (is_in keys key) [
  | inl later ↦ all_out_there keys key low high (without (key_of first) pairs) (Within-without (key_of first) low high pairs rising) (behind_keys first keys all) fits later
  | inr lacks ↦ elim (contained first keys key has) [
    | inl is ↦
        all_out_elsewhere keys key (without (key_of first) pairs) (behind_keys first keys all) fits lacks
        ∙ subst (λ k. lookup (key_of k) (without (key_of first) pairs) ≡ None) is (without_there (key_of first) low high pairs rising)
    | inr later ↦ absurd (lacks later)
  ]
]

pub zeros_elsewhere : (keys : List (List ℕ)) (key : List ℕ) (pairs : List Pair) → AllKeys keys → IsKey key → (Contains keys key → ⊥) → lookup (key_of key) (put_zeros keys pairs) ≡ lookup (key_of key) pairs
zeros_elsewhere [] key pairs all fits lacks = refl
zeros_elsewhere (first ∷ keys) key pairs all fits lacks =
    zeros_elsewhere keys key (put (pair_at first 0) pairs) (behind_keys first keys all) fits (λ has. lacks (tail_is_in first keys key has))
    ∙ put_elsewhere (key_of key) (pair_at first 0) pairs (numbers_differ first key (first_key first keys all) fits (λ is. lacks (subst (Contains (first ∷ keys)) is (head_is_in first keys))))

pub zeros_there : (keys : List (List ℕ)) (key : List ℕ) (pairs : List Pair) → AllKeys keys → IsKey key → Contains keys key → lookup (key_of key) (put_zeros keys pairs) ≡ Some 0
zeros_there [] key pairs all fits has = absurd (contained_none key has)
zeros_there (first ∷ keys) key pairs all fits has = elim (is_in keys key) [
  | inl later ↦ zeros_there keys key (put (pair_at first 0) pairs) (behind_keys first keys all) fits later
  | inr lacks ↦ elim (contained first keys key has) [
    | inl is ↦
        zeros_elsewhere keys key (put (pair_at first 0) pairs) (behind_keys first keys all) fits lacks
        ∙ subst (λ k. lookup (key_of k) (put (pair_at first 0) pairs) ≡ Some 0) is (put_there (pair_at first 0) pairs)
    | inr later ↦ absurd (lacks later)
  ]
]

-- ---- keys that only one of two lists has

pub any_in : (key : List ℕ) (keys : List (List ℕ)) → list_any (bytes_eq key) keys ≡ true → Contains keys key
any_in key [] is = absurd (cc)
any_in key (first ∷ keys) is = by (bytes_eq key first) refl is (any_in key keys)
  where
    by : (b : Bool) → bytes_eq key first ≡ b → (b || list_any (bytes_eq key) keys) ≡ true → (list_any (bytes_eq key) keys ≡ true → Contains keys key) → Contains (first ∷ keys) key
    by true same some rest = subst (Contains (first ∷ keys)) (sym ((bytes_eq-Decides key first).0 same)) (head_is_in first keys)
    by false other some rest = tail_is_in first keys key (rest some)

pub in_any : (key : List ℕ) (keys : List (List ℕ)) → Contains keys key → list_any (bytes_eq key) keys ≡ true
in_any key [] has = absurd (contained_none key has)
in_any key (first ∷ keys) has = by (contained first keys key has) (in_any key keys)
  where
    by_rest : (b : Bool) → list_any (bytes_eq key) keys ≡ true → (b || list_any (bytes_eq key) keys) ≡ true
    by_rest true some = refl
    by_rest false some = some

    by : (first ≡ key) ⊎ Contains keys key → (Contains keys key → list_any (bytes_eq key) keys ≡ true) → list_any (bytes_eq key) (first ∷ keys) ≡ true
    by (inl same) rest = rw ((bytes_eq-Decides key first).1 (sym same)) refl
    by (inr later) rest = by_rest (bytes_eq key first) (rest later)

pub missing_has : (others keys : List (List ℕ)) (key : List ℕ) → Contains keys key → (Contains others key → ⊥) → Contains (missing_in others keys) key
missing_has others keys key has lacks = filter_has (λ k. not (list_any (bytes_eq k) others)) keys key has (by (list_any (bytes_eq key) others) refl)
  where
    by : (b : Bool) → list_any (bytes_eq key) others ≡ b → not b ≡ true
    by true some = absurd (lacks (any_in key others some))
    by false none = refl

pub missing_had : (others keys : List (List ℕ)) (key : List ℕ) → Contains (missing_in others keys) key → Contains keys key × (Contains others key → ⊥)
missing_had others keys key has =
    let was = passed (λ k. not (list_any (bytes_eq k) others)) keys key has in
    (was.0, λ also. false_is_true (sym (ap not (in_any key others also)) ∙ was.1))

-- of no others all are missing
pub missing_all : (keys : List (List ℕ)) → missing_in [] keys ≡ keys
missing_all [] = refl
missing_all (key ∷ keys) = ap (λ ks. key ∷ ks) (missing_all keys)
