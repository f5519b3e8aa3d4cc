use Rattle.std.proofs.Common.{sym, subst, ◌∙◌}
use Rattle.std.specs.Prelude.{IsTrue}
use Rattle.gaz_rows.proofs.Working.{few_past, few_on, few_first, map_ok, zeros_on, zeros_past, zeros_sound, past_sound, first_sound}
use Rattle.gaz_rows.proofs.store.RowStore.+put_missing.Goals as goal

pub returns-then-is_among-clause-turns : goal.returns-then-is_among-clause-turns
returns-then-is_among-clause-turns g t c =
    let v = g.P.Pages.view in
    map_ok c.put_missing.result
    (λ more told. zeros_past (v c.args.self.now.pages) (v c.put_missing.new.self.pages) c.args.self.now.root c.put_missing.new.self.root c.args.others.now c.args.keys.now
    c.in-Some.key.now c.in-Some.rest.now c.in-Some.ensures.cases.0 (sym c.is_among.ensures ∙ c.if-is_among.true) (more told))
    c.put_missing.ensures.turns

pub returns-in-Ok-clause-turns : goal.returns-in-Ok-clause-turns
returns-in-Ok-clause-turns g t c =
    let v = g.P.Pages.view in
    map_ok c.put_missing-in-Ok.result
    (λ more told. zeros_on (v c.args.self.now.pages) (v c.put_key.new.self.pages) (v c.put_missing-in-Ok.new.self.pages) c.args.self.now.root c.put_key.new.self.root c.put_missing-in-Ok.new.self.root
    c.args.others.now c.args.keys.now c.in-Some.key.now c.in-Some.rest.now c.in-Some.ensures.cases.0 (sym c.is_among.ensures ∙ c.if-is_among.false)
    (c.in-Ok.ensures.turns told) (more (subst IsTrue (sym c.put_key.ensures.goes_on.told) told)))
    c.put_missing-in-Ok.ensures.turns

pub returns-in-Ok-clause-damaged : goal.returns-in-Ok-clause-damaged
returns-in-Ok-clause-damaged g t c told =
    let v = g.P.Pages.view in
    zeros_sound (v c.args.self.now.pages) (v c.put_key.new.self.pages) (v c.put_missing-in-Ok.new.self.pages) c.args.self.now.root c.put_key.new.self.root c.put_missing-in-Ok.new.self.root
    c.args.others.now c.args.keys.now c.in-Some.key.now c.in-Some.rest.now c.in-Some.ensures.cases.0 c.put_missing-in-Ok.result (c.in-Ok.ensures.turns told)
    (c.put_missing-in-Ok.ensures.damaged (subst IsTrue (sym c.put_key.ensures.goes_on.told) told))

pub returns-then-is_among-clause-damaged : goal.returns-then-is_among-clause-damaged
returns-then-is_among-clause-damaged g t c told =
    let v = g.P.Pages.view in
    past_sound (v c.args.self.now.pages) (v c.put_missing.new.self.pages) c.args.self.now.root c.put_missing.new.self.root c.args.others.now c.args.keys.now
    c.in-Some.key.now c.in-Some.rest.now c.in-Some.ensures.cases.0 c.put_missing.result (c.put_missing.ensures.damaged told)

pub returns-in-Err-clause-damaged : goal.returns-in-Err-clause-damaged
returns-in-Err-clause-damaged g t c told =
    let v = g.P.Pages.view in
    first_sound (v c.args.self.now.pages) (v c.put_key.new.self.pages) c.args.self.now.root c.put_key.new.self.root c.args.others.now c.args.keys.now
    c.in-Some.key.now c.in-Some.rest.now c.in-Some.ensures.cases.0 Unit Unit c.in-Err.fault (c.in-Err.ensures.damaged told)

pub returns-then-is_among-clause-differ : goal.returns-then-is_among-clause-differ
returns-then-is_among-clause-differ g t c low =
    few_past (g.P.Pages.view c.args.self.now.pages) (g.P.Pages.view c.put_missing.new.self.pages) c.args.self.now.root c.put_missing.new.self.root c.args.others.now c.args.keys.now
    c.in-Some.key.now c.in-Some.rest.now c.in-Some.ensures.cases.0 (sym c.is_among.ensures ∙ c.if-is_among.true) (c.put_missing.ensures.differ low)

pub returns-in-Ok-clause-differ : goal.returns-in-Ok-clause-differ
returns-in-Ok-clause-differ g t c low =
    let first = c.put_key.ensures.few low in
    few_on (g.P.Pages.view c.args.self.now.pages) (g.P.Pages.view c.put_key.new.self.pages) (g.P.Pages.view c.put_missing-in-Ok.new.self.pages) c.args.self.now.root c.put_key.new.self.root c.put_missing-in-Ok.new.self.root
    c.args.others.now c.args.keys.now c.in-Some.key.now c.in-Some.rest.now c.in-Some.ensures.cases.0 (sym c.is_among.ensures ∙ c.if-is_among.false) first (c.put_missing-in-Ok.ensures.differ first.low)

pub returns-in-Err-clause-differ : goal.returns-in-Err-clause-differ
returns-in-Err-clause-differ g t c low =
    few_first (g.P.Pages.view c.args.self.now.pages) (g.P.Pages.view c.put_key.new.self.pages) c.args.self.now.root c.put_key.new.self.root
    c.args.others.now c.args.keys.now c.in-Some.key.now c.in-Some.rest.now c.in-Some.ensures.cases.0 (sym c.is_among.ensures ∙ c.if-is_among.false) (c.put_key.ensures.few low)
