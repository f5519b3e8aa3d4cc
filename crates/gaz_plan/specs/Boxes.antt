-- Where the rows lie over which a search by a box goes.
use Rattle.std.specs.Prelude.{ℕ, ◌*◌, ◌^◌, Bool, ◌&&◌, List, ℤ, pos, nat_abs, ◌+ℤ◌, nat_le, nat_lt, ◌==◌}
use Rattle.gaz_box.specs.Edges.{Edges, in_box, in_range, in_spans, spans_of}
use Rattle.gaz_pick.specs.Match.{latitude_of, longitude_of}
use Rattle.gaz_keys.specs.Lines.{band_at}

-- a longitude from the antimeridian on
abbrev pub from_antimeridian : ℤ → ℕ
from_antimeridian longitude = nat_abs (longitude +ℤ pos (180 * 10 ^ 12))

-- the row lies in a band and a range of longitudes
abbrev pub is_in_span : ℕ → ℤ × ℤ → List ℕ → Bool
is_in_span band range row = band_at row == band && in_range range (longitude_of row)

-- in a band, and in one of the ranges of a box
abbrev pub is_in_band : ℕ → Edges → List ℕ → Bool
is_in_band band edges row = band_at row == band && in_spans (spans_of edges) (longitude_of row)

-- in a band from the first on and before the next, and in one of the ranges of a box
abbrev pub is_in_bands : ℕ → ℕ → Edges → List ℕ → Bool
is_in_bands first next edges row = (nat_le first (band_at row) && nat_lt (band_at row) next) && in_spans (spans_of edges) (longitude_of row)

-- in a box
abbrev pub is_in_box : Edges → List ℕ → Bool
is_in_box edges row = in_box edges (latitude_of row) (longitude_of row)
