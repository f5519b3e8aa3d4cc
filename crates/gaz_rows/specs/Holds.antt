-- What the outcomes of a moment hold.
use Rattle.std.specs.Prelude.{◌≡◌, ◌⊎◌, ℕ, List}
use Rattle.gaz_outside.specs.declared.station.Area.{Area}
use Rattle.gaz_outside.specs.Station.{StationView, Outcome, Leaves}
use Rattle.gaz_plain.specs.Gazetteer.{Gazetteer}
use Rattle.gaz_rows.specs.Content.{Mirrors}

-- Five areas mirror what others do.
abbrev pub SameMirror : (Area → List ℕ) → (Area → List ℕ) → Type 0
SameMirror areas others = (gaz : Gazetteer) → (Mirrors areas gaz → Mirrors others gaz) × (Mirrors others gaz → Mirrors areas gaz)

-- All outcomes of this moment have the gazetteer.
abbrev pub AllHold : StationView → Gazetteer → Type 0
AllHold v gaz = (c : Outcome) → Leaves v c → Mirrors c.areas gaz

-- The outcomes of this moment have no one gazetteer.
abbrev pub HasNone : StationView → Type 0
HasNone v = (gaz : Gazetteer) → AllHold v gaz → ⊥

-- What some outcome of this moment holds is there, and nothing more is printed.
abbrev pub IsFound : StationView → Outcome → Type 0
IsFound v c = (d : Outcome) × Leaves v d × SameMirror c.areas d.areas × (c.text ≡ v.printed)

-- The gazetteer still stands, and nothing more is printed.
abbrev pub IsStill : Gazetteer → StationView → Outcome → Type 0
IsStill gaz v c = Mirrors c.areas gaz × (c.text ≡ v.printed)

-- The old gazetteer stands or the next, and nothing more is printed.
abbrev pub IsOldOrNext : Gazetteer → Gazetteer → StationView → Outcome → Type 0
IsOldOrNext gaz next v c = (Mirrors c.areas gaz ⊎ Mirrors c.areas next) × (c.text ≡ v.printed)
