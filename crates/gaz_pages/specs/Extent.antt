-- Which pages a root names.
use Rattle.gaz_page.specs.declared.tree_root.Root.{Root}
use Rattle.gaz_pages.specs.declared.extent.Extent.{Extent}

-- the side of its pages, the least one that was never taken, and the first free one
abbrev pub extent_of : Root → Extent
extent_of root = record { side = root.side; fresh = root.fresh; free = root.free }
