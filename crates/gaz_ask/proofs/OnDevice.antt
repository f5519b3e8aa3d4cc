-- What holds over the committed pages of a mirror holds of the gazetteer that its device mirrors.
use Rattle.std.proofs.Common.{◌≡◌, IsTrue, Option, Some, subst}
use Rattle.gaz_outside.specs.Station.{StationView}
use Rattle.gaz_page.specs.declared.tree_root.Root.{Root}
use Rattle.gaz_pages.specs.declared.extent.Extent.{Extent}
use Rattle.gaz_pages.specs.Extent.{extent_of}
use Rattle.gaz_pages.specs.Fits.{Fits}
use Rattle.gaz_plain.specs.Gazetteer.{Gazetteer}
use Rattle.gaz_install.proofs.Named.{mirrored}
use Rattle.gaz_ask.specs.Asked.{OverMirror, OverLive}

-- where the device fits the mirror's root, of which the pages are
pub over_mirror : (v w : StationView) (before : Option Root) (root its : Root) (extent : Extent) → before ≡ Some root → extent ≡ extent_of root → its ≡ root → w ≡ v
    → (IsTrue v.is_told → Fits before v) → (P : Gazetteer → Type 0) → OverLive extent its w P → OverMirror v P
over_mirror v w before root its extent loaded extent_is root_is view_is fits P over told gaz mirrors =
    let fits_root : Fits (Some root) v = subst (λ (o : Option Root). Fits o v) loaded (fits told) in
    let moved : OverLive (extent_of root) root v P =
    subst (λ (e : Extent). OverLive e root v P) extent_is
    (subst (λ (r : Root). OverLive extent r v P) root_is
    (subst (λ (x : StationView). OverLive extent its x P) view_is over)) in
    moved told gaz (mirrored v root gaz fits_root mirrors).stands
