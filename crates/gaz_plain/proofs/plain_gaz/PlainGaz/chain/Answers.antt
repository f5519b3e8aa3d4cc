use Rattle.std.proofs.Common.{arith, ap, sym, ◌∙◌, refl, [], ◌∷◌}
use Rattle.gaz_num.specs.declared.words.Table.TheVariants.{Rows}
use Rattle.gaz_parent.specs.Chain.{upwards}
use Rattle.gaz_plain.specs.Gazetteer.{line_with}
use Rattle.gaz_plain.specs.Kin.{lists_of}
use Rattle.gaz_plain.proofs.Named.{begins, not_live}
use Rattle.gaz_plain.proofs.plain_gaz.PlainGaz.chain.Goals as goal

pub returns-clause-chain : goal.returns-clause-chain
returns-clause-chain c =
    c.climb.ensures.chain
    ∙ ap (λ next. upwards 64 (lists_of c.args.self.now) [] next) c.if_live.ensures
    ∙ sym (begins c.args.self.now c.is_gazetteer.ensures c.args.id (line_with Rows (c.args.id ∷ []) c.args.self.now) refl)

pub returns-clause-none : goal.returns-clause-none
returns-clause-none c none = not_live c.args.self.now c.is_gazetteer.ensures c.args.id c.climb.result c.climb.new.out (omega (arith, c.climb.ensures.within, c.climb.array_long)) (returns-clause-chain c) none
