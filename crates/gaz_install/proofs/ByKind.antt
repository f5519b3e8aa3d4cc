-- What follows from the kind of an answer, for a load and a day alike.
use Rattle.std.proofs.Common.{◌≡◌, ◌≢◌, ℕ, List, refl, sym, arith, None, Ok, Err, Result}
use Rattle.std.specs.Prelude.{IfErr, OnOk, OnErr}
use Rattle.gaz_num.specs.declared.words.FileName.{FileName}
use Rattle.gaz_page.specs.declared.tree_root.Root.{Root}
use Rattle.gaz_plain.specs.Gazetteer.{Gazetteer}
use Rattle.gaz_rows.specs.declared.fault.ChangeFault.{ChangeFault}
use Rattle.gaz_rows.specs.declared.fault.ChangeFault.TheVariants.{NotLoaded, Sequence, Absent, Shelf, TooLong, Malformed, Full, Station, Damaged, Memory}
use Rattle.gaz_rows.specs.Stands.{StandsFor}
use Rattle.gaz_change.specs.Change.{refusal_by, IsSound, IsOfDate, IsOutside, IsFaultOfFiles}
use Rattle.gaz_install.specs.Next.{IsInstallFault}

-- an install that fails is no refusal
pub install_outside : (root : Root) (before now : ℕ) (fault : ChangeFault) → IsInstallFault root before now fault → refusal_by fault ≡ None
install_outside root before now NotLoaded is = absurd is
install_outside root before now (Sequence have) is = absurd is
install_outside root before now (Absent file) is = absurd is
install_outside root before now (Shelf file) is = absurd is
install_outside root before now (TooLong file) is = absurd is
install_outside root before now (Malformed file line reason) is = absurd is
install_outside root before now (Full file line table) is = absurd is
install_outside root before now Station is = refl
install_outside root before now (Damaged page) is = refl
install_outside root before now Memory is = refl

-- nor is it one of the date
pub install_dateless : (root : Root) (before now : ℕ) (fault : ChangeFault) → IsInstallFault root before now fault → IsOfDate fault → ⊥
install_dateless root before now NotLoaded is of = is
install_dateless root before now (Sequence have) is of = is
install_dateless root before now (Absent file) is of = of
install_dateless root before now (Shelf file) is of = of
install_dateless root before now (TooLong file) is of = of
install_dateless root before now (Malformed file line reason) is of = of
install_dateless root before now (Full file line table) is of = of
install_dateless root before now Station is of = of
install_dateless root before now (Damaged page) is of = of
install_dateless root before now Memory is of = of

-- a root of pages that stand for a gazetteer isn't too high
pub install_sound : (root : Root) (before now : ℕ) (pages : ℕ → List ℕ) (gaz : Gazetteer) (other : Root) → other.height ≡ root.height → StandsFor gaz pages other → (fault : ChangeFault) → IsInstallFault root before now fault → IsSound fault
install_sound root before now pages gaz other same stands NotLoaded is = tt
install_sound root before now pages gaz other same stands (Sequence have) is = tt
install_sound root before now pages gaz other same stands (Absent file) is = tt
install_sound root before now pages gaz other same stands (Shelf file) is = tt
install_sound root before now pages gaz other same stands (TooLong file) is = tt
install_sound root before now pages gaz other same stands (Malformed file line reason) is = tt
install_sound root before now pages gaz other same stands (Full file line table) is = tt
install_sound root before now pages gaz other same stands Station is = tt
install_sound root before now pages gaz other same stands (Damaged page) is =
    let tall = stands.tree.tall in
    let shallow = stands.tree.shallow in
    absurd (is.1 (omega (arith, tall, same)) (omega (arith, shallow, same)))
install_sound root before now pages gaz other same stands Memory is = tt

-- nor is a fault of files
pub files_dateless : (names : List FileName) (fault : ChangeFault) → IsFaultOfFiles names fault → IsOfDate fault → ⊥
files_dateless names NotLoaded is of = is.2
files_dateless names (Sequence have) is of = is.2
files_dateless names (Absent file) is of = of
files_dateless names (Shelf file) is of = of
files_dateless names (TooLong file) is of = of
files_dateless names (Malformed file line reason) is of = of
files_dateless names (Full file line table) is of = of
files_dateless names Station is of = of
files_dateless names (Damaged page) is of = of
files_dateless names Memory is of = of

-- the root with the ends of the changed pages, whatever they are called
pub named_ends : (now : Root) (a b fresh free : ℕ) → fresh ≡ a → free ≡ b → record now { fresh = a; free = b } ≡ record now { fresh = fresh; free = free }
named_ends now a b fresh free one two = λ i. record now { fresh = sym one i; free = sym two i }

-- after an answer that leaves the mirror in use: what holds after Ok, and where the station didn't fail
pub after_outside : (r : Result Unit ChangeFault) (P : Type 0) → IsOutside r → OnOk r P → IfErr r (λ fault. fault ≢ Station → P) → P
after_outside (Ok done) P out ok err = ok
after_outside (Err NotLoaded) P out ok err = err (λ is. cc is)
after_outside (Err (Sequence have)) P out ok err = err (λ is. cc is)
after_outside (Err (Absent file)) P out ok err = err (λ is. cc is)
after_outside (Err (Shelf file)) P out ok err = err (λ is. cc is)
after_outside (Err (TooLong file)) P out ok err = err (λ is. cc is)
after_outside (Err (Malformed file line reason)) P out ok err = err (λ is. cc is)
after_outside (Err (Full file line table)) P out ok err = err (λ is. cc is)
after_outside (Err Station) P out ok err = absurd out
after_outside (Err (Damaged page)) P out ok err = absurd out
after_outside (Err Memory) P out ok err = err (λ is. cc is)

-- what an answer has by its kind
pub on_err : (r : Result Unit ChangeFault) (P : Type 0) → OnErr r P → IfErr r (λ fault. P)
on_err (Ok done) P p = tt
on_err (Err fault) P p = p

pub on_ok : (r : Result Unit ChangeFault) (P Q : Type 0) → (P → Q) → OnOk r P → OnOk r Q
on_ok (Ok done) P Q more p = more p
on_ok (Err fault) P Q more p = tt

pub if_err : (r : Result Unit ChangeFault) (P Q : ChangeFault → Type 0) → ((fault : ChangeFault) → P fault → Q fault) → IfErr r P → IfErr r Q
if_err (Ok done) P Q more p = tt
if_err (Err fault) P Q more p = more fault p

pub both_err : (r : Result Unit ChangeFault) (P Q : ChangeFault → Type 0) → IfErr r P → IfErr r Q → IfErr r (λ fault. P fault × Q fault)
both_err (Ok done) P Q p q = tt
both_err (Err fault) P Q p q = (p, q)
