use Rattle.std.proofs.Common.{arith, refl, sym, ◌∙◌, inl, inr, [], eqb-true}
use Rattle.std.proofs.lemmas.Bool.{false≢true}
use Rattle.gaz_outside.specs.Outside.{left_of}
use Rattle.gaz_lines.proofs.Reading.{reading_starts, reads_on, waited}
use Rattle.gaz_lines.proofs.Rests.{prepend_none}
use Rattle.gaz_lines.proofs.Giving.{gave_done, gave_failed}
use Rattle.gaz_lines.proofs.Keeping.{still_past, no_more}
use Rattle.gaz_lines.proofs.cutter.LineCutter.find_in.Goals as goal

pub loop-result-init : goal.loop-result-init
loop-result-init g c = record {
  reading = reading_starts c.args.self.now _ (left_of (g.S.Source.view c.args.source.now)) c.requires refl refl refl refl refl refl refl;
  waits = inl refl;
  rests = λ ended. (refl, ended);
  reads = refl;
  told = refl;
  faults = refl;
}

pub returns-in-Done-clause-gave : goal.returns-in-Done-clause-gave
returns-in-Done-clause-gave g c =
    gave_done c.args.self.now c.loop-result.self c.step.new.self c.loop-result.searched _ _ c.loop-result.invariant.reading c.in-Done.result c.in-Done.ensures

pub returns-in-Done-clause-past : goal.returns-in-Done-clause-past
returns-in-Done-clause-past g c = λ past.
    still_past c.args.self.now c.loop-result.self c.step.new.self c.loop-result.searched _ _ c.loop-result.invariant.reading past c.in-Done.result c.in-Done.ensures

pub loop-result-preserved : goal.loop-result-preserved
loop-result-preserved g c =
    let i = c.loop-result.invariant in
    let took = c.in-Ok.ensures.ok in
    record {
      reading = reads_on c.args.self.now c.loop-result.self c.step.new.self c.loop-result.searched c.in-More.count _ _ i.reading c.in-More.ensures
          _ c.in-Ok.count took.0 _ took.2 took.3 took.1 c.in-Ok.ensures.end refl refl refl refl refl (λ is. eqb-true _ _ is);
      waits = inr (waited c.args.self.now c.loop-result.self c.step.new.self c.loop-result.searched c.in-More.count _ _ i.reading c.in-More.ensures 65536 took.0 _ took.3 (omega (arith, took.1, c.in-Ok.ensures.count)));
      rests = λ ended. absurd (false≢true (sym c.in-More.ensures.2 ∙ (i.rests ended).1));
      reads = c.in-More.ensures.3.same.reads ∙ i.reads;
      told = c.in-Ok.ensures.told ∙ i.told;
      faults = c.in-Ok.ensures.cause.kept ∙ i.faults;
    }

pub returns-in-Err-clause-gave : goal.returns-in-Err-clause-gave
returns-in-Err-clause-gave g c =
    let i = c.loop-result.invariant in
    let failed = c.in-Err.ensures.err in
    gave_failed c.args.self.now c.loop-result.self c.step.new.self _ c.loop-result.searched c.in-More.count _ _ _ i.reading c.in-More.ensures failed.0 failed.1 refl refl refl refl refl refl

pub returns-in-Err-clause-waits_in_vain : goal.returns-in-Err-clause-waits_in_vain
returns-in-Err-clause-waits_in_vain g c =
    let i = c.loop-result.invariant in
    let failed = c.in-Err.ensures.err in
    waited c.args.self.now c.loop-result.self c.step.new.self c.loop-result.searched c.in-More.count _ _ i.reading c.in-More.ensures 0 [] _ (sym failed.1 ∙ sym (prepend_none _)) (omega arith)

pub returns-in-Err-clause-waits : goal.returns-in-Err-clause-waits
returns-in-Err-clause-waits g c =
    let i = c.loop-result.invariant in
    let failed = c.in-Err.ensures.err in
    inr (waited c.args.self.now c.loop-result.self c.step.new.self c.loop-result.searched c.in-More.count _ _ i.reading c.in-More.ensures 65536 [] _ (sym failed.1 ∙ sym (prepend_none _)) (omega arith))

pub returns-in-Err-clause-past : goal.returns-in-Err-clause-past
returns-in-Err-clause-past g c = λ past.
    absurd (no_more c.args.self.now c.loop-result.self c.step.new.self c.loop-result.searched _ _ c.loop-result.invariant.reading past c.in-More.count c.in-More.ensures)
