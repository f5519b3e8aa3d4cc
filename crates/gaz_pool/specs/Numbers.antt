-- The pages of both sides as numbers.
use Rattle.std.specs.Prelude.{ℕ, ◌+◌, ◌*◌}
use Rattle.gaz_page.specs.declared.page.Side.{Side}
use Rattle.gaz_page.specs.declared.page.Side.TheVariants.{Left, Right}

-- the page of a side as one number: those of the left side are even
abbrev pub page_number : Side → ℕ → ℕ
page_number Left page = 2 * page
page_number Right page = 2 * page + 1
