-- For callers: what a load and a day come to, from what their files come to.
use Rattle.std.proofs.Common.{◌≡◌, ℕ, List, Option, ◌∙◌, sym, ap, refl}
use Rattle.std.specs.Prelude.{IfSome, Result, Ok, Err}
use Rattle.gaz_num.specs.declared.words.FileName.{FileName}
use Rattle.gaz_num.specs.Refusal.{◌>>=◌}
use Rattle.gaz_plain.specs.Gazetteer.{Gazetteer, empty, dated}
use Rattle.gaz_plain.specs.Fold.{fold}
use Rattle.gaz_plain.specs.Load.{Files, load, day, files_of as files_named, load_files, day_files, in_sequence}
use Rattle.gaz_rows.specs.declared.fault.ChangeFault.{ChangeFault}
use Rattle.gaz_rows.specs.declared.fault.ChangeFault.TheVariants.{NotLoaded, Sequence, Absent, Shelf, TooLong, Malformed, Full, Station, Damaged, Memory}
use Rattle.gaz_change.specs.Change.{Gives, AreFound, fold_named}
use Rattle.gaz_change.proofs.Changing.{weaker, gives_same}

-- what is read where not all files are found
pub unfound_gives : (any : Gazetteer) (names : List FileName) (gaz : Gazetteer) (files : Files) (fault : ChangeFault) → AreFound {A = Unit} files names (Err fault) → Gives any (fold_named files names gaz) (Err fault)
unfound_gives any names gaz files NotLoaded h = absurd h
unfound_gives any names gaz files (Sequence have) h = absurd h
unfound_gives any names gaz files (Absent file) h = ap (λ r. r >>= λ found. fold gaz found) h
unfound_gives any names gaz files (Shelf file) h = tt
unfound_gives any names gaz files (TooLong file) h = absurd h
unfound_gives any names gaz files (Malformed file line reason) h = absurd h
unfound_gives any names gaz files (Full file line table) h = absurd h
unfound_gives any names gaz files Station h = absurd h
unfound_gives any names gaz files (Damaged page) h = absurd h
unfound_gives any names gaz files Memory h = absurd h

-- a load and a day fold the files that they name
pub load_is : (files : Files) (date : ℕ) → load files date ≡ fold_named files load_files (dated empty date)
unfolding load
load_is files date = refl

pub day_is : (gaz : Gazetteer) (files : Files) (date : ℕ) → in_sequence gaz.date date ≡ Ok date → day gaz files date ≡ fold_named files (day_files date) (dated gaz date)
unfolding day
day_is gaz files date next = ap (λ r. r >>= λ next. files_named files (day_files next) >>= λ found. fold (dated gaz next) found) next

-- a load whose files were folded, or weren't found
pub load_gives : (next : Gazetteer) (names : List FileName) (date : ℕ) (gaz : Gazetteer) (known : Option Files) (result : Result Unit ChangeFault) → names ≡ load_files → gaz ≡ dated empty date → IfSome known (λ files. Gives next (fold_named files names gaz) result) → IfSome known (λ files. Gives next (load files date) result)
load_gives next names date gaz known result are is gives =
    weaker known (λ files h. gives_same next _ _ result (ap (λ n. fold_named files n gaz) are ∙ ap (fold_named files load_files) is ∙ sym (load_is files date)) h) gives

-- a day whose files were folded, or weren't found
pub day_gives : (next : Gazetteer) (names : List FileName) (date : ℕ) (old gaz : Gazetteer) (known : Option Files) (result : Result Unit ChangeFault) → in_sequence old.date date ≡ Ok date → names ≡ day_files date → gaz ≡ dated old date → IfSome known (λ files. Gives next (fold_named files names gaz) result) → IfSome known (λ files. Gives next (day old files date) result)
day_gives next names date old gaz known result follows are is gives =
    weaker known (λ files h. gives_same next _ _ result (ap (λ n. fold_named files n gaz) are ∙ ap (fold_named files (day_files date)) is ∙ sym (day_is old files date follows)) h) gives
