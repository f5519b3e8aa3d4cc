use Rattle.std.proofs.Common.{ap, IsSome, Some, ◌≡◌, subst, sym, ◌∙◌}
use Rattle.std.specs.Prelude.{is_some}
use Rattle.std.specs.Option.{option_copied}
use Rattle.gaz_num.specs.declared.words.Kind.TheVariants.{Country}
use Rattle.gaz_num.specs.Check.{key_in}
use Rattle.gaz_plain.specs.Gazetteer.{Gazetteer, IsGazetteer}
use Rattle.gaz_plain.proofs.Kept.{put_each}
use Rattle.gaz_plain.proofs.Taken.{refused, put_taken, put_refused, put_is, comment_taken}
use Rattle.gaz_plain.proofs.plain_gaz.PlainGaz.step_country.Goals as goal

-- the list keeps its order
pub invariant_of-self : goal.invariant_of-self
invariant_of-self c =
    let gaz : Gazetteer = record { date = c.self.inside.date; rows = c.self.inside.rows; alternates = c.self.inside.alternates; links = c.self.inside.links; countries = c.self.inside.countries; codes = c.self.inside.codes } in
    let some : IsSome gaz.date = subst (λ (g : Gazetteer). IsSome g.date) (sym c.self.view_is) c.requires.dated in
    let has_key : key_in Country c.args.line.now ≡ Some c.within.result.0.items = c.in-Ok-Some.ensures.told.1 ∙ ap option_copied c.in-Ok-Some.field-0-is ∙ ap Some (sym c.within.ensures) in
    put_is gaz Country c.args.line.now c.within.result.0.items has_key c.put.new.self c.put.result c.in-Ok-Some.ensures.told.0 c.put.ensures.ok c.put.ensures.within c.put.ensures.err c.self.invariant some
    (put_each Country c.args.line.now (record { accepted = c.in-Ok-Some.ensures.told.0; keyed = ap is_some has_key; one_line = c.requires.one_line }))

pub returns-in-Ok-Some-clause-ok : goal.returns-in-Ok-Some-clause-ok
returns-in-Ok-Some-clause-ok c =
    let gaz : Gazetteer = record { date = c.self.inside.date; rows = c.self.inside.rows; alternates = c.self.inside.alternates; links = c.self.inside.links; countries = c.self.inside.countries; codes = c.self.inside.codes } in
    let has_key : key_in Country c.args.line.now ≡ Some c.within.result.0.items = c.in-Ok-Some.ensures.told.1 ∙ ap option_copied c.in-Ok-Some.field-0-is ∙ ap Some (sym c.within.ensures) in
    rw (← c.self.view_is) (put_taken gaz Country c.args.line.now c.within.result.0.items has_key c.put.new.self c.put.result c.in-Ok-Some.ensures.told.0 c.put.ensures.ok c.put.ensures.within)

pub returns-in-Ok-Some-clause-fault : goal.returns-in-Ok-Some-clause-fault
returns-in-Ok-Some-clause-fault c =
    let gaz : Gazetteer = record { date = c.self.inside.date; rows = c.self.inside.rows; alternates = c.self.inside.alternates; links = c.self.inside.links; countries = c.self.inside.countries; codes = c.self.inside.codes } in
    let has_key : key_in Country c.args.line.now ≡ Some c.within.result.0.items = c.in-Ok-Some.ensures.told.1 ∙ ap option_copied c.in-Ok-Some.field-0-is ∙ ap Some (sym c.within.ensures) in
    rw (← c.self.view_is) (put_refused gaz Country c.args.line.now c.within.result.0.items has_key c.put.result c.in-Ok-Some.ensures.told.0 c.put.ensures.fault)

-- a comment changes nothing
pub returns-in-Ok-None-clause-ok : goal.returns-in-Ok-None-clause-ok
returns-in-Ok-None-clause-ok c = comment_taken c.args.self.now Country c.args.line.now (subst IsGazetteer c.self.view_is c.self.invariant) c.in-Ok-None.ensures.told.0 (c.in-Ok-None.ensures.told.1 ∙ ap option_copied c.in-Ok-None.field-0-is)

-- the reason is the check's
pub returns-in-Err-clause-fault : goal.returns-in-Err-clause-fault
returns-in-Err-clause-fault c = refused c.args.self.now Country c.args.line.now c.in-Err.reason c.in-Err.ensures.told
