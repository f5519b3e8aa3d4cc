-- How calls that only read go one after another.
use Rattle.std.proofs.Common.{◌≡◌, ℕ, List, IsTrue, sym, ap, subst}
use Rattle.gaz_outside.specs.Station.{StationView}
use Rattle.gaz_page.specs.declared.page.Side.{Side}
use Rattle.gaz_pages.specs.declared.extent.Extent.{Extent}
use Rattle.gaz_pages.specs.declared.changed.Changed.{Changed}
use Rattle.gaz_pages.specs.Areas.{side_area}
use Rattle.gaz_pages.specs.Views.{StillChanged}
use Rattle.gaz_pages.specs.Keeps.{OnlyReads}
pub use Rattle.gaz_pool.specs.Reads.{only_reads_start, only_reads_on}

-- Pages that were changed before both calls are so after both.
pub still_changed_on : (side side_mid : Side) (fresh fresh_mid : ℕ) (old mid : StationView) (x y z : Changed) → side_mid ≡ side → fresh_mid ≡ fresh → OnlyReads old mid
    → (IsTrue old.is_told → StillChanged (side_area side) fresh x y (old.bytes (side_area side)))
    → (IsTrue mid.is_told → StillChanged (side_area side_mid) fresh_mid y z (mid.bytes (side_area side_mid)))
    → IsTrue old.is_told → StillChanged (side_area side) fresh x z (old.bytes (side_area side))
still_changed_on side side_mid fresh fresh_mid old mid x y z same level reads first second told are =
    let by_side = subst (λ (s : Side). StillChanged (side_area s) fresh_mid y z (mid.bytes (side_area s))) same (second (subst IsTrue (sym reads.counts.told) told)) in
    let by_fresh = subst (λ (n : ℕ). StillChanged (side_area side) n y z (mid.bytes (side_area side))) level by_side in
    let by_bytes = subst (λ (bytes : List ℕ). StillChanged (side_area side) fresh y z bytes) ((reads.areas told).bytes (side_area side)) by_fresh in
    by_bytes (first told are)

-- one extent has one side and one least page that was never taken
pub side_of_extent : {a b : Extent} → b ≡ a → b.side ≡ a.side
side_of_extent is = ap (λ (e : Extent). e.side) is

pub fresh_of_extent : {a b : Extent} → b ≡ a → b.fresh ≡ a.fresh
fresh_of_extent is = ap (λ (e : Extent). e.fresh) is
