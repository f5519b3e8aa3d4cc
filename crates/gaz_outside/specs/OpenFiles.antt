-- The names of the open files of a folder.
use Rattle.std.specs.Prelude.{ℕ, List, Option, slice_get, option_map, option_and_then}
use Rattle.gaz_outside.specs.declared.open_files.OpenFiles.{OpenFiles}

-- the name of the file that is open in this place
abbrev pub name_in : {F : Type 0} → OpenFiles F → ℕ → Option (List ℕ)
name_in files place = option_and_then (λ file. option_map (λ opened. opened.name.bytes) file) (slice_get files.places place)
