-- How far a file was read, and what is left of it.
use Rattle.std.specs.Prelude.{ℕ, List, drop, Option, option_map}
use Rattle.gaz_outside.specs.Outside.{ShelfView, bytes_of}
use Rattle.gaz_lines.specs.declared.cutter.Reads.{Reads}
use Rattle.gaz_lines.specs.declared.cutter.Reads.TheVariants.{File}

-- the bytes of the file from a place on, where they are told
abbrev pub left_at : ShelfView → ℕ → ℕ → Option (List ℕ)
left_at shelf file at = option_map (λ bytes. drop at bytes) (bytes_of shelf file)

-- The place up to which the file was read, which is its front where none was read.
abbrev pub place_in : Reads → ℕ
place_in (File number at) = at
place_in other = 0
