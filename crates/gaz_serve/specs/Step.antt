-- What one request does, in the program.
use Rattle.std.specs.Prelude.{◌≡◌, ⊤, ℕ, List, Option, Some, None, Result, Ok, Err, OnOk}
use Rattle.gaz_outside.specs.Outside.{ShelfView, StationView, RisesOnce, Prints}
use Rattle.gaz_num.specs.declared.words.FileName.{FileName}
use Rattle.gaz_num.specs.Refusal as refusal
use Rattle.gaz_plain.specs.Gazetteer.{Gazetteer}
use Rattle.gaz_plain.specs.Load.{Files}
use Rattle.gaz_reply.specs.Reply.{Reply, done, rows, refused, reply_text}
use Rattle.gaz_rows.specs.Content.{Mirrors}
use Rattle.gaz_change.specs.Change.{IsUnblamed, FailedAt}
use Rattle.gaz_ask.specs.Asked.{OverMirror}
use Rattle.gaz_serve.specs.declared.step.EndFault.{EndFault}
use Rattle.gaz_serve.specs.declared.step.EndFault.TheVariants.{Station, Damaged}
use Rattle.gaz_serve.specs.Change.{Closes}
use Rattle.gaz_turns.specs.Turns.{State, Answer, same_state, Verdict, plain, memory, shelf, MayBe, MayStarve, IsReached, opens, answer_to, answer_by}
use Rattle.gaz_turns.specs.Steps.{AreasKept, IsCutIn, IsGiven}
use Rattle.gaz_words.specs.Grammar.{RequestAsked, request_in}

-- The count of faults rises by one where the station failed, and else stands.
abbrev pub EndsOnce : {A : Type 0} → ℕ → ℕ → Result A EndFault → Type 0
EndsOnce before now (Err Station) = RisesOnce before now
EndsOnce before now other = now ≡ before

-- No damage was met.
abbrev pub IsSound : {A : Type 0} → Result A EndFault → Type 0
IsSound (Err (Damaged page)) = ⊥
IsSound other = ⊤

-- The station tells as before, and its count of faults says whether it failed.
pub record Reports {A : Type 0} (old new : StationView) (result : Result A EndFault) : Type 0 where
  pub told : new.is_told ≡ old.is_told
  pub cause : EndsOnce old.faults new.faults result

-- A reply is printed, or a front of it where the run ends. The areas stay, with what a stop may leave of them, and none is written.
pub record Replies {A E : Type 0} (reply : Reply) (old new : StationView) (result : Result A E) : Type 0 where
  pub printed : Prints (reply_text reply) old new result
  pub moments : IsCutIn (reply_text reply) old new
  pub areas : AreasKept old new

-- The shelf failed once, at the file of the verdict, or didn't fail.
abbrev pub IsBlamed : Verdict → ShelfView → ShelfView → Type 0
IsBlamed plain old new = IsUnblamed old new
IsBlamed memory old new = IsUnblamed old new
IsBlamed (shelf file) old new = FailedAt file old new

-- the answer to a request that was read, by a verdict
abbrev pub answer_of : Verdict → State → Files → RequestAsked → Answer
answer_of plain state files request = answer_to state files request
answer_of memory state files request = same_state state (refused refusal.memory)
answer_of (shelf file) state files request = same_state state (refused (refusal.shelf file))

-- a request that was read may be met by the verdict
abbrev pub MayMeet : Verdict → State → Files → RequestAsked → Type 0
MayMeet plain state files request = ⊤
MayMeet memory state files request = MayStarve (Ok request)
MayMeet (shelf file) state files request = IsReached files file (opens state (Ok request))

-- A request that was read is met by a verdict that it may have, and this answer is given.
pub record Meets {A E : Type 0} (files : Files) (request : RequestAsked) (state : State) (shelf shelf_now : ShelfView) (station station_now : StationView) (result : Result A E) : Type 0 where
  pub verdict : Verdict
  pub may : MayMeet verdict state files request
  pub blamed : IsBlamed verdict shelf shelf_now
  pub given : IsGiven (answer_of verdict state files request) state station station_now result

-- One request is one step from the state, with the files that the shelf has behind it: it is met by a verdict that it may have,
-- and this answer is given. Behind it no file is open, where it opens any.
pub record OneStep {A E : Type 0} (line : List ℕ) (state : State) (shelf shelf_now : ShelfView) (station station_now : StationView) (result : Result A E) : Type 0 where
  pub verdict : Verdict
  pub may : MayBe verdict state shelf_now.files line
  pub blamed : IsBlamed verdict shelf shelf_now
  pub closes : Closes (opens state (request_in line)) shelf shelf_now
  pub given : IsGiven (answer_by verdict state shelf_now.files line) state station station_now result

-- the file of which a reply says that the shelf failed at it
abbrev pub shelf_file : Reply → Option FileName
shelf_file (done change) = None
shelf_file (rows lines) = None
shelf_file (refused (refusal.request word)) = None
shelf_file (refused refusal.not_loaded) = None
shelf_file (refused (refusal.sequence have)) = None
shelf_file (refused (refusal.absent file)) = None
shelf_file (refused (refusal.shelf file)) = Some file
shelf_file (refused (refusal.too_long file)) = None
shelf_file (refused (refusal.malformed file line reason)) = None
shelf_file (refused (refusal.full file line table)) = None
shelf_file (refused refusal.memory) = None

-- The shelf failed once, at this file, or didn't fail where there is none.
abbrev pub FailedIf : Option FileName → ShelfView → ShelfView → Type 0
FailedIf (Some file) old new = FailedAt file old new
FailedIf None old new = IsUnblamed old new

-- A reply is printed, and it says of the shelf what is so. This holds over any shelf.
pub record TellsShelf {A E : Type 0} (shelf shelf_now : ShelfView) (station station_now : StationView) (result : Result A E) : Type 0 where
  pub reply : Reply
  pub printed : Prints (reply_text reply) station station_now result
  pub failed : FailedIf (shelf_file reply) shelf shelf_now

-- A question is answered: a reply that names no file is printed, or a front of it where the run ends there, and nothing is written. Where the
-- areas mirror a gazetteer the reply is one that it may have, and no damage is met.
pub record Tells {A : Type 0} (may : Gazetteer → Reply → Type 0) (old new : StationView) (result : Result A EndFault) : Type 0 where
  pub some : (reply : Reply) × (shelf_file reply ≡ None) × Prints (reply_text reply) old new result
  pub gives : OverMirror old (λ gaz. (reply : Reply) × may gaz reply × Replies reply old new result)
  pub areas : AreasKept old new
  pub sound : OverMirror old (λ gaz. IsSound result)

-- Over a device that mirrors a gazetteer a request meets no damage, and after it the device mirrors one. This holds over any shelf.
pub record Lasts {A : Type 0} (old new : StationView) (result : Result A EndFault) : Type 0 where
  pub sound : OverMirror old (λ gaz. IsSound result)
  pub next : OnOk result (OverMirror old (λ gaz. (now : Gazetteer) × Mirrors new.bytes now))
