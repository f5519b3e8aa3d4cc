-- The root of a mirror.
use Rattle.std.specs.Prelude.{Option}
use Rattle.gaz_page.specs.declared.tree_root.Root.{Root}
use Rattle.gaz_pages.specs.declared.mirror.Mirror.{Mirror}

-- the root of a mirror, or none before the first load
abbrev pub root_of : Mirror → Option Root
root_of mirror = mirror.root
