-- Bands and ranges find every place of a box, and of what they find the box test tells which places are in it.
use Rattle.std.specs.Prelude.{◌≡◌, ℕ, ◌≤◌, ◌&&◌, IsTrue, ℤ}
use Rattle.gaz_box.specs.Edges.{Edges, IsBox, IsWithin, has_latitude, has_longitude, in_box, band_of, spans_of, in_spans}

-- A number lies between two others, or on one of them.
pub record IsBetween (first last n : ℕ) : Type 0 where
  pub from : first ≤ n
  pub up_to : n ≤ last

-- The band of a latitude in the box is between those of its south and its north.
abbrev pub BandsCover : Type 0
BandsCover = (edges : Edges) (latitude : ℤ) → IsBox edges → IsTrue (has_latitude edges latitude) → IsBetween (band_of edges.south) (band_of edges.north) (band_of latitude)

-- A longitude of the globe passes the box test exactly where it lies in one of the ranges.
abbrev pub SpansCover : Type 0
SpansCover = (edges : Edges) (longitude : ℤ) → IsWithin 180 longitude → has_longitude edges longitude ≡ in_spans (spans_of edges) longitude

-- So a place of the globe is in the box exactly where its latitude passes and its longitude lies in one of the ranges.
abbrev pub BoxBySpans : Type 0
BoxBySpans = (edges : Edges) (latitude longitude : ℤ) → IsWithin 180 longitude →
    in_box edges latitude longitude ≡ (has_latitude edges latitude && in_spans (spans_of edges) longitude)

-- A place lies in the bands and in one of the ranges of a box.
pub record IsSought (edges : Edges) (latitude longitude : ℤ) : Type 0 where
  pub band : IsBetween (band_of edges.south) (band_of edges.north) (band_of latitude)
  pub span : IsTrue (in_spans (spans_of edges) longitude)

-- Each place of a box does: to go through its bands and ranges is to miss none.
abbrev pub PlacesAreSought : Type 0
PlacesAreSought = (edges : Edges) (latitude longitude : ℤ) → IsBox edges → IsWithin 180 longitude → IsTrue (in_box edges latitude longitude) → IsSought edges latitude longitude
