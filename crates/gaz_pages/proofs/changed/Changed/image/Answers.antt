use Rattle.std.proofs.Common.{◌≡◌, Some, List, ℕ, length, IfSome, Option, sym, ◌∙◌, ap, subst}
use Rattle.std.specs.Borrow.{Bor}
use Rattle.std.specs.Option.{option_copied}
use Rattle.gaz_redo.specs.Images.{image_at}
use Rattle.gaz_pages.specs.Views.{all_images}
use Rattle.gaz_pages.proofs.Changing.{image_reads}
use Rattle.gaz_pages.proofs.changed.Changed.image.Goals as goal

-- it is a whole page
pub returns-clause-page : goal.returns-clause-page
returns-clause-page c file =
    let home = c.args.home in
    let is : image_at home (all_images c.args.self.now) ≡ Some c.unwrap.result.now = sym c.get.ensures.image ∙ ap (λ (o : Option (Bor (List ℕ))). option_copied o) c.unwrap.ensures in
    let whole : length c.unwrap.result.now ≡ 4096 = subst (λ (o : Option (Bor (List ℕ))). IfSome o (λ bytes. length bytes.now ≡ 4096)) c.unwrap.ensures c.get.ensures.size in
    image_reads home.area home.page (all_images c.args.self.now) file c.unwrap.result.now is whole
