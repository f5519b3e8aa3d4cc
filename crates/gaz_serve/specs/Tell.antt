-- What is told of rows.
use Rattle.std.specs.Prelude.{ℕ, ◌+◌, List, [], ◌∷◌, ◌++◌, length, Result}
use Rattle.gaz_outside.specs.Outside.{StationView, Prints}
use Rattle.gaz_plain.specs.Gazetteer.{Gazetteer}
use Rattle.gaz_outside.specs.Station.{AreasStay}
use Rattle.gaz_reply.specs.Reply.{Reply, reply_text, with_ends, end_line}
use Rattle.gaz_reply.specs.Tells.{MayBeCut}
use Rattle.gaz_rows.specs.declared.fault.AskFault.{AskFault}
use Rattle.gaz_rows.specs.declared.fault.AskFault.TheVariants as ask
use Rattle.gaz_ask.specs.Asked.{OverMirror}
use Rattle.gaz_turns.specs.Steps.{AreasKept, IsCutIn}
use Rattle.gaz_serve.specs.declared.step.EndFault.{EndFault}
use Rattle.gaz_serve.specs.declared.step.EndFault.TheVariants.{Station, Damaged}
use Rattle.gaz_serve.specs.Step.{IsSound}

-- how a run ends with a question that came to nothing, but for want of memory, which ends none
abbrev pub ends_by : AskFault → EndFault
ends_by ask.Failed = Station
ends_by (ask.Damaged page) = Damaged page
ends_by ask.Memory = Station

-- A reply is printed, or a front of it where the station failed. No area is called.
pub record IsPrinted {A E : Type 0} (reply : Reply) (old new : StationView) (result : Result A E) : Type 0 where
  pub printed : Prints (reply_text reply) old new result
  pub moments : MayBeCut (reply_text reply) old new
  pub areas : AreasStay old new

-- lines behind so many that were printed before, and the number of all
abbrev pub rest_text : List (List ℕ) → ℕ → List ℕ
rest_text lines before = with_ends (lines ++ end_line (before + length lines) ∷ [])

-- Lines are printed behind so many others, with the number of all, or a front of that where the run ends there; nothing is written. Where the
-- areas mirror a gazetteer these are its lines, and no damage is met.
pub record TellsRest {A : Type 0} (before : ℕ) (lines_of : Gazetteer → List (List ℕ)) (old new : StationView) (result : Result A EndFault) : Type 0 where
  pub some : (lines : List (List ℕ)) × Prints (rest_text lines before) old new result
  pub gives : OverMirror old (λ gaz. Prints (rest_text (lines_of gaz) before) old new result × IsCutIn (rest_text (lines_of gaz) before) old new)
  pub areas : AreasKept old new
  pub sound : OverMirror old (λ gaz. IsSound result)
