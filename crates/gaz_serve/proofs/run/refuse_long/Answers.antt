use Rattle.std.proofs.Common.{ℕ, List, subst}
use Rattle.gaz_num.specs.Refusal.{request}
use Rattle.gaz_reply.specs.Reply.{refused}
use Rattle.gaz_turns.proofs.Kept.{cut_in, kept_stay}
use Rattle.gaz_serve.specs.Step.{Replies}
use Rattle.gaz_serve.proofs.run.refuse_long.Goals as goal

pub returns-clause-replies : goal.returns-clause-replies
returns-clause-replies g c =
    let old = g.T.Station.view c.args.station.now in
    let new = g.T.Station.view c.write_refusal.new.station in
    subst (λ (word : List ℕ). Replies (refused (request word)) old new c.write_refusal.result) c.word.ensures
    (record { printed = c.write_refusal.ensures.printed; moments = cut_in _ old new c.write_refusal.ensures.moments; areas = kept_stay old new c.write_refusal.ensures.areas })
