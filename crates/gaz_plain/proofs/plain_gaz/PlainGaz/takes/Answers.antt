use Rattle.std.proofs.Common.{ap, sym, ◌∙◌}
use Rattle.std.specs.Prelude.{unwrap_or}
use Rattle.gaz_num.specs.declared.words.Table.TheVariants.{Alternates}
use Rattle.gaz_pick.specs.Asked.{asked}
use Rattle.std.specs.Option.{option_copied}
use Rattle.gaz_plain.specs.Gazetteer.{Gazetteer}
use Rattle.gaz_plain.specs.Wanted.{fits_any}
use Rattle.gaz_plain.proofs.Folds.{IfOk-weaker}
use Rattle.gaz_plain.proofs.Wanting.{told_by_alternates}
use Rattle.gaz_plain.proofs.plain_gaz.PlainGaz.takes.Goals as goal

pub returns-clause-matches : goal.returns-clause-matches
returns-clause-matches c =
    let told = told_by_alternates c.args.self.now (asked c.args.query.now) c.args.row.now c.args.wanted.now c.id.result c.requires.wanted (sym (ap (λ id. unwrap_or id 0) c.id.ensures))
    (sym c.if-not-passes.ensures) (sym c.if-is_nothing.ensures) (sym c.in_ok-fits_own.ensures ∙ c.if-branch.false) in
    IfOk-weaker _ _ c.has_name.result c.has_name.ensures (λ is same. same ∙ ap (λ (g : Gazetteer). fits_any c.args.wanted.now (option_copied c.args.query.now.lang) c.id.result g.alternates) c.self.view_is ∙ told)

pub has_name-requires : goal.has_name-requires
has_name-requires c = c.self.invariant.tables Alternates
