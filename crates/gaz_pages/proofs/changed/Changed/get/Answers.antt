use Rattle.std.proofs.Common.{◌≡◌, ℕ, List, Option, IfSome, length, sym, ◌∙◌, ap, subst}
use Rattle.gaz_redo.specs.Images.{image_at}
use Rattle.gaz_pages.proofs.Homes.{or_else, image_at_append, image_whole, if_copied}
use Rattle.gaz_pages.proofs.changed.Changed.get.Goals as goal

-- an image of the first list is that of both
pub returns-in-Some-clause-image : goal.returns-in-Some-clause-image
returns-in-Some-clause-image c =
    let self = c.args.self.now in
    sym (image_at_append c.args.home self.images self.past ∙ ap (λ (o : Option (List ℕ)). or_else o (image_at c.args.home self.past)) (sym c.in-Some.ensures))

pub returns-in-Some-clause-size : goal.returns-in-Some-clause-size
returns-in-Some-clause-size c =
    let self = c.args.self.now in
    subst (λ (o : Option (List ℕ)). IfSome o (λ image. length image ≡ 4096)) (sym c.in-Some.ensures) (image_whole c.args.home self.images self.kept.in_order)

pub returns-in-None-clause-image : goal.returns-in-None-clause-image
returns-in-None-clause-image c =
    let self = c.args.self.now in
    c.get-in-None.ensures
    ∙ sym (image_at_append c.args.home self.images self.past ∙ ap (λ (o : Option (List ℕ)). or_else o (image_at c.args.home self.past)) (sym c.in-None.ensures))

pub returns-in-None-clause-size : goal.returns-in-None-clause-size
returns-in-None-clause-size c =
    let self = c.args.self.now in
    if_copied (λ (image : List ℕ). length image ≡ 4096) c.get-in-None.result (subst (λ (o : Option (List ℕ)). IfSome o (λ image. length image ≡ 4096)) (sym c.get-in-None.ensures) (image_whole c.args.home self.past self.kept.past_in_order))
