-- Keys of tables as lists of numbers.
use Rattle.std.proofs.Common.{◌≡◌, ℕ, List, [], ◌∷◌, refl, ap, ap₂, ◌∙◌}
use Rattle.std.specs.List.{AllZip}
use Rattle.std.specs.Ordering.{nat_cmp, ordering_then}
use Rattle.std.specs.declared.cmp.Ordering.{Ordering}
use Rattle.std.specs.declared.cmp.Ordering.TheVariants.{Less, Equal, Greater}
use Rattle.gaz_tables.specs.declared.link.LinkKey.{LinkKey}
use Rattle.gaz_tables.specs.declared.link.LinkClass.{LinkClass}
use Rattle.gaz_tables.specs.declared.link.LinkClass.TheVariants.{Adm, Plain, Other}
use Rattle.gaz_tables.specs.contracts.link.LinkClassOrd.TheImpl as of_class
use Rattle.gaz_tables.specs.contracts.link.LinkKeyOrd.TheImpl as of_link
use Rattle.gaz_tables.specs.Keys.{class_number, key_numbers}
use Rattle.gaz_plain.specs.Gazetteer.{key_cmp}
use Rattle.gaz_plain.specs.declared.key.CountryCode.{CountryCode}
use Rattle.gaz_plain.specs.declared.key.AdminCode.{AdminCode}

-- nothing behind a comparison changes it
same_then : (r : Ordering) → r ≡ ordering_then r Equal
same_then Less = refl
same_then Equal = refl
same_then Greater = refl

-- numbers compare as the keys that are them alone
pub compares_alone : (a b : ℕ) → nat_cmp a b ≡ key_cmp (a ∷ []) (b ∷ [])
compares_alone a b = same_then (nat_cmp a b)

-- classes compare as their numbers
compares_classes : (a b : LinkClass) → of_class.ghosts.cmp a b ≡ nat_cmp (class_number a) (class_number b)
compares_classes Adm Adm = refl
compares_classes Adm Plain = refl
compares_classes Adm Other = refl
compares_classes Plain Adm = refl
compares_classes Plain Plain = refl
compares_classes Plain Other = refl
compares_classes Other Adm = refl
compares_classes Other Plain = refl
compares_classes Other Other = refl

-- links compare as their keys
pub compares_links : (a b : LinkKey) → of_link.ghosts.cmp a b ≡ key_cmp (key_numbers a) (key_numbers b)
compares_links a b =
    ap (λ r. ordering_then (nat_cmp a.child b.child) (ordering_then r (nat_cmp a.parent b.parent))) (compares_classes a.class b.class)
    ∙ ap (λ r. ordering_then (nat_cmp a.child b.child) (ordering_then (nat_cmp (class_number a.class) (class_number b.class)) r)) (same_then (nat_cmp a.parent b.parent))

-- a list whose numbers are those of another, one by one, is that list
same_numbers : (xs ys : List ℕ) → AllZip (λ x y. y ≡ x) xs ys → ys ≡ xs
same_numbers [] [] same = refl
same_numbers [] (y ∷ ys) same = absurd same
same_numbers (x ∷ xs) [] same = absurd same
same_numbers (x ∷ xs) (y ∷ ys) same = ap₂ (λ n more. n ∷ more) same.0 (same_numbers xs ys same.1)

-- a copy of a code is the same code
pub same_country : (a b : CountryCode) → AllZip (λ x y. y ≡ x) a.0.items b.0.items → b ≡ a
same_country a b same = ap (λ (items : List ℕ). record { 0 = record { items = items } }) (same_numbers a.0.items b.0.items same)

pub same_admin : (a b : AdminCode) → AllZip (λ x y. y ≡ x) a.0.items b.0.items → b ≡ a
same_admin a b same = ap (λ (items : List ℕ). record { 0 = record { items = items } }) (same_numbers a.0.items b.0.items same)
