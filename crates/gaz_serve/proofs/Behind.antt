-- What is told behind calls that only read.
use Rattle.std.proofs.Common.{◌≡◌, List, [], ℕ, Bool, IsTrue, refl, sym, subst, ◌∙◌}
use Rattle.std.specs.Prelude.{Result, Err}
use Rattle.gaz_outside.specs.Outside.{PrintsFront, printed_of}
use Rattle.gaz_outside.specs.Station.{StationView}
use Rattle.gaz_pages.specs.Keeps.{OnlyReads}
use Rattle.gaz_reply.specs.Reply.{Reply, reply_text}
use Rattle.gaz_reply.proofs.Pieces.{append_none}
use Rattle.gaz_turns.proofs.Kept.{kept_read, kept_on, cut_read, cut_by_reads}
use Rattle.gaz_turns.proofs.Told.{same_printed, prints_from}
use Rattle.gaz_serve.specs.declared.step.EndFault.{EndFault}
use Rattle.gaz_serve.specs.Step.{Replies}

module _ (v0 v1 : StationView) (reads : OnlyReads v0 v1) where
  pub quiet : printed_of v1 ≡ printed_of v0
  quiet = same_printed v0 v1 reads.counts.told (λ told. (reads.areas told).printed)

  -- so far nothing is told
  pub nothing : (text : List ℕ) → PrintsFront text v0 v1
  nothing text = ([], (text, refl), quiet ∙ append_none (printed_of v0))

  pub told_then : IsTrue v0.is_told → IsTrue v1.is_told
  told_then told = subst (λ (b : Bool). IsTrue b) (sym reads.counts.told) told

  -- a reply
  pub told_behind : {A E : Type 0} (reply : Reply) (v2 : StationView) (result : Result A E) → Replies reply v1 v2 result → Replies reply v0 v2 result
  told_behind reply v2 result replies = record {
    printed = prints_from _ v0 v1 v2 result quiet replies.printed;
    moments = cut_read _ v0 v1 v2 reads replies.moments;
    areas = kept_on v0 v1 v2 reads.counts.told (kept_read v0 v1 reads) replies.areas;
  }

  -- none, and the run ends
  pub untold_behind : (reply : Reply) (why : EndFault) → Replies {A = Unit {0}} reply v0 v1 (Err why)
  untold_behind reply why = record {
    printed = nothing (reply_text reply);
    moments = cut_by_reads _ v0 v1 reads;
    areas = kept_read v0 v1 reads;
  }
