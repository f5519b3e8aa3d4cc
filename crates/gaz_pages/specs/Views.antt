-- What the pages of a device tell.
use Rattle.std.specs.Prelude.{ℕ, Bool, false, List, ◌++◌, length}
use Rattle.gaz_outside.specs.declared.station.Area.{Area}
use Rattle.gaz_outside.specs.Station.{StationView}
use Rattle.gaz_pages.specs.declared.extent.Extent.{Extent}
use Rattle.gaz_page.specs.Area.{page_at}
use Rattle.gaz_page.specs.Pages.{PagesView}
use Rattle.gaz_redo.specs.Slots.{Slot}
use Rattle.gaz_pages.specs.declared.changed.Changed.{Changed}
use Rattle.gaz_pages.specs.Areas.{side_area}
use Rattle.gaz_pages.specs.Laid.{AreLaid, imaged}

-- all images, those of pages past the least that was never taken behind the others
abbrev pub all_images : Changed → List Slot
all_images changed = changed.images ++ changed.past

-- committed pages, which can't be changed where they are read only
abbrev pub live_view : Extent → Bool → Bool → StationView → PagesView
live_view extent read_only starved v = record {
  is_told = v.is_told;
  page = page_at (v.bytes (side_area extent.side));
  free = extent.free;
  fresh = extent.fresh;
  faults = v.faults;
  is_starved = starved;
  reads = v.reads;
  changed = 0;
  is_read_only = read_only;
}

-- pages of an area with changed ones laid over, which stay in memory
abbrev pub held_view : Area → Changed → StationView → PagesView
held_view area changed v = record {
  is_told = v.is_told;
  page = imaged area (all_images changed) (v.bytes area);
  free = changed.free;
  fresh = changed.fresh;
  faults = v.faults;
  is_starved = changed.starved;
  reads = v.reads;
  changed = length (all_images changed);
  is_read_only = false;
}

-- Changed pages over an area whose pages from `fresh_before` on are new: laid over it, the images give each page that was taken,
-- and leave no gap.
abbrev pub AreChanged : Area → ℕ → Changed → List ℕ → Type 0
AreChanged area fresh_before changed bytes = AreLaid area fresh_before changed.fresh changed.images changed.past bytes

-- Pages that were changed before are so still.
abbrev pub StillChanged : Area → ℕ → Changed → Changed → List ℕ → Type 0
StillChanged area fresh_before old new bytes = AreChanged area fresh_before old bytes → AreChanged area fresh_before new bytes
