-- Bytes that go out in one write.
use Rattle.std.specs.Prelude.{◌≡◌, ◌⊎◌, ℕ, ◌+◌, ◌≤◌, ◌==◌, if◌then◌else◌, List, ◌++◌, length, take}
use Rattle.gaz_outside.specs.declared.station.Area.{Area}
use Rattle.gaz_outside.specs.Station.{StationView, Torn, OnlyIn, area_place, overlaid, pieces}
use Rattle.gaz_redo.specs.declared.batch.Batch.{Batch}

-- the bytes that aren't written yet
abbrev pub held : Batch → List ℕ
held b = take b.size b.bytes

-- So many bytes from there on stand right behind those that are held, and fit into 65,536 with them.
abbrev pub GoesOn : Batch → Area → ℕ → ℕ → Type 0
GoesOn b area at n = (b.area ≡ area) × (b.at + length (held b) ≡ at) × (length (held b) + n ≤ 65536)

-- These bytes are held behind those of before, or alone.
abbrev pub TakesIn : Batch → Batch → Area → ℕ → List ℕ → Type 0
TakesIn old new area at bytes =
    (new.area ≡ area)
    × (((old.area ≡ area) × (old.at + length (held old) ≡ at) × (new.at ≡ old.at) × (held new ≡ held old ++ bytes)) ⊎ ((new.at ≡ at) × (held new ≡ bytes)))

-- the areas with bytes laid over one of them
abbrev pub laid_over : Area → ℕ → List ℕ → (Area → List ℕ) → Area → List ℕ
laid_over area at bytes areas a = if area_place area == area_place a then overlaid (areas a) at bytes else areas a

-- what the areas read once the batch is out
abbrev pub once_out : Batch → (Area → List ℕ) → Area → List ℕ
once_out b areas = laid_over b.area b.at (held b) areas

-- a change in the range of the batch at most
abbrev pub InRangeOf : Batch → Area → List ℕ → List ℕ → Type 0
InRangeOf b = OnlyIn b.area (Torn b.at (length (held b)))

-- the pieces that were written, with those that are held
abbrev pub writes_with : Batch → StationView → ℕ
writes_with b v = v.writes + pieces (length (held b))
