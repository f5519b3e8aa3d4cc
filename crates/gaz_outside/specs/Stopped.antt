-- What a stop leaves of a station in memory, where of the writes that weren't synced it keeps the first ones.
use Rattle.std.specs.Prelude.{◌≡◌, ℕ, ◌+◌, ◌==◌, ◌||◌, nat_lt, Bool, false, List, [], ◌∷◌, length, replicate, Vec, if◌then◌else◌}
use Rattle.std.specs.declared.alloc.Global.{Global}
use Rattle.std.specs.List.{list_any}
use Rattle.gaz_outside.specs.declared.station.Area.{Area}
use Rattle.gaz_outside.specs.declared.areas.Areas.{Areas}
use Rattle.gaz_outside.specs.declared.event.Event.{Event}
use Rattle.gaz_outside.specs.declared.event.Event.TheVariants.{Began, Wrote, Synced, Printed}
use Rattle.gaz_outside.specs.Station.{area_place, overlaid}
use Rattle.gaz_outside.specs.Events.{area_bytes}

-- A station that a stop left keeps the areas and the text that it begins with, and no call.
abbrev pub HasBegun : List Event → Type 0
HasBegun events = (areas : Areas) × (text : Vec ℕ Global) × (events ≡ Began areas text ∷ [])

-- One event more is kept: a write of these bytes at this place.
abbrev pub KeepsWrite : Area → ℕ → List ℕ → List Event → List Event → Type 0
KeepsWrite area at bytes old new = (kept : Vec ℕ Global) × (kept.items ≡ bytes) × (new ≡ Wrote area at kept ∷ old)

-- One event more is kept: a print of this piece.
abbrev pub KeepsPrint : List ℕ → List Event → List Event → Type 0
KeepsPrint piece old new = (kept : Vec ℕ Global) × (kept.items ≡ piece) × (new ≡ Printed kept ∷ old)

-- It is a sync of the area.
abbrev pub syncs : Event → Area → Bool
syncs (Synced synced) area = area_place synced == area_place area
syncs _ area = false

-- One of these is a sync of the area.
abbrev pub is_synced : List Event → Area → Bool
is_synced events area = list_any (λ event. syncs event area) events

-- where a write ends
abbrev pub end_of : Event → ℕ
end_of (Wrote area at bytes) = at + length bytes.items
end_of _ = 0

-- how many writes weren't synced after one more event, which the later ones follow
abbrev pub count_unsynced : Event → List Event → ℕ → ℕ
count_unsynced (Began areas text) later count = 0
count_unsynced (Wrote area at bytes) later count = if is_synced later area then count else count + 1
count_unsynced (Synced area) later count = count
count_unsynced (Printed piece) later count = count

-- how many of the writes of the first list, which has the newest first, no sync in the second follows, which has the oldest first
abbrev pub unsynced : List Event → List Event → ℕ
unsynced [] later = 0
unsynced (event ∷ events) later = count_unsynced event later (unsynced events (event ∷ later))

-- a file after a write of which all is left, or only fill bytes in its range, or nothing
abbrev pub left_of_write : Bool → Bool → ℕ → ℕ → List ℕ → List ℕ → List ℕ
left_of_write is_whole is_next fill at bytes file =
    if is_whole then overlaid file at bytes else (if is_next then overlaid file at (replicate (length bytes) fill) else file)

-- an area after one more event, which the later ones follow: a write that was synced or is one of the first `keep` others is whole, and the next one is filled
abbrev pub left_of_event : ℕ → ℕ → Event → List Event → ℕ → Area → List ℕ → List ℕ
left_of_event keep fill (Began areas text) later count a file = area_bytes areas a
left_of_event keep fill (Wrote area at bytes) later count a file =
    if area_place area == area_place a then left_of_write (is_synced later area || nat_lt count keep) (count == keep) fill at bytes.items file else file
left_of_event keep fill (Synced area) later count a file = file
left_of_event keep fill (Printed piece) later count a file = file

-- what a stop leaves of an area after the events of the first list, which has the newest first, where those of the second follow
abbrev pub stopped : ℕ → ℕ → List Event → List Event → Area → List ℕ
stopped keep fill [] later a = []
stopped keep fill (event ∷ events) later a = left_of_event keep fill event later (unsynced events (event ∷ later)) a (stopped keep fill events (event ∷ later) a)
