use Rattle.std.proofs.Common.{◌<◌, ◌^◌, ◌++◌, ◌∙◌, inl, inr, arith}
use Rattle.std.proofs.lemmas.Bool.{cases_lt}
use Rattle.gaz_pages.specs.Laid.{imaged}
use Rattle.gaz_pages.proofs.Changing.{imaged_put, imaged_past, few_put, few_past, laid_put, laid_past, laid_same}
use Rattle.gaz_pages.proofs.changed.Changed.put.Goals as goal

-- the page has the image, whether it was taken or not
pub returns-in-Ok-clause-pages : goal.returns-in-Ok-clause-pages
returns-in-Ok-clause-pages c file =
    let self = c.args.self.now in
    let home = c.args.home in
    let small : home.page < 2 ^ 32 = omega arith in
    elim (cases_lt home.page self.fresh) [
      | inl low ↦ let is = c.in-Ok.ensures.taken low in
          (λ i. imaged home.area (is.0 i ++ is.1 i) file) ∙ imaged_put home.area home.page c.args.bytes.now c.requires.page small c.requires.size self.images self.past file
      | inr high ↦ let is = c.in-Ok.ensures.apart high in
          (λ i. imaged home.area (is.0 i ++ is.1 i) file) ∙ imaged_past home.area home.page c.args.bytes.now c.requires.page small c.requires.size self.images self.past file (self.kept.below home high)
    ]

pub returns-in-Ok-clause-few : goal.returns-in-Ok-clause-few
returns-in-Ok-clause-few c =
    let self = c.args.self.now in
    let new = c.set.new.self in
    elim (cases_lt c.args.home.page self.fresh) [
      | inl low ↦ let is = c.in-Ok.ensures.taken low in few_put _ self.images new.images self.past new.past is.0 is.1
      | inr high ↦ let is = c.in-Ok.ensures.apart high in few_past _ self.images new.images self.past new.past is.0 is.1
    ]

pub returns-in-Ok-clause-still : goal.returns-in-Ok-clause-still
returns-in-Ok-clause-still c before file are =
    let self = c.args.self.now in
    let new = c.set.new.self in
    let home = c.args.home in
    let small : home.page < 2 ^ 32 = omega arith in
    elim (cases_lt home.page self.fresh) [
      | inl low ↦ let is = c.in-Ok.ensures.taken low in
          laid_same home.area before self.fresh new.fresh _ new.images _ new.past file c.set.ensures.fresh is.0 is.1
          (laid_put home.area home.page c.args.bytes.now c.requires.page small c.requires.size before self.fresh self.images self.past file self.kept.in_order are low)
      | inr high ↦ let is = c.in-Ok.ensures.apart high in
          laid_same home.area before self.fresh new.fresh _ new.images _ new.past file c.set.ensures.fresh is.0 is.1
          (laid_past home.area home.page c.args.bytes.now c.requires.page small c.requires.size before self.fresh self.images self.past file self.kept.in_order are high)
    ]
