use Rattle.std.proofs.Common.{◌∙◌, ℕ, List, ap}
use Rattle.gaz_page.specs.Free.{free_link}
use Rattle.gaz_page.proofs.PageMaps.{with_same, with_other}
use Rattle.gaz_pages.proofs.changed.Changed.give.Goals as goal

-- the page is the free one that was written
pub returns-in-Ok-clause-linked : goal.returns-in-Ok-clause-linked
returns-in-Ok-clause-linked c file =
    let page = c.args.home.page in
    ap (λ (bytes : List ℕ). free_link page bytes) ((λ i. c.in-Ok.ensures.pages file i page) ∙ with_same page _ _) ∙ c.write_free.ensures.linked

pub returns-in-Ok-clause-others : goal.returns-in-Ok-clause-others
returns-in-Ok-clause-others c file n differs = (λ i. c.in-Ok.ensures.pages file i n) ∙ with_other c.args.home.page n _ _ differs
