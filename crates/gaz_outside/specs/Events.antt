-- What a record of writes, syncs and prints tells. The newest comes first. At first all areas are empty. A station that
-- a stop left begins with what it left.
use Rattle.std.specs.List.{list_any}
use Rattle.std.specs.Prelude.{◌≡◌, ◌≢◌, ◌⊎◌, ℕ, ◌+◌, ◌-◌, ◌^◌, ◌<◌, ◌≤◌, ◌==◌, ◌||◌, min, nat_eq, Bool, true, List, [], ◌∷◌, ◌++◌, length, if◌then◌else◌}
use Rattle.std.proofs.Common.{inl, refl, sym, ◌∙◌, ap, subst, arith, false, Vec}
use Rattle.std.proofs.lemmas.Bool.Decides.{nat_tests}
use Rattle.std.specs.declared.alloc.Global.{Global}
use Rattle.gaz_outside.specs.Overlaid.{torn-overlaid}
use Rattle.gaz_outside.specs.SameArea.{same_place}
use Rattle.std.proofs.lemmas.List.{take_all}
use Rattle.gaz_outside.specs.declared.station.Area.{Area}
use Rattle.gaz_outside.specs.declared.station.Area.TheVariants.{Mark, Log, Root, Left, Right}
use Rattle.gaz_outside.specs.declared.event.Event.{Event}
use Rattle.gaz_outside.specs.declared.event.Event.TheVariants.{Began, Wrote, Synced, Printed}
use Rattle.gaz_outside.specs.declared.areas.Areas.{Areas}
use Rattle.gaz_outside.specs.Station.{StationView, Outcome, Torn, HasFrontOf, OnlyIn, area_place, overlaid}

-- when calls fail: the numbers, from 1, of those that do; how many there were; and how many are left until all fail
pub record Plan : Type 0 where
  pub fails : List ℕ
  pub calls : ℕ
  pub left : ℕ

-- the next call fails, by its number or since none is left
abbrev pub is_due : Plan → Bool
is_due plan = (plan.left == 0) || list_any (λ n. nat_eq n (min (plan.calls + 1) (2 ^ 64 - 1))) plan.fails

-- one call later
abbrev pub next_plan : Plan → Plan
next_plan plan = record { fails = plan.fails; calls = min (plan.calls + 1) (2 ^ 64 - 1); left = plan.left - 1 }

-- the bytes of an area
abbrev pub area_bytes : Areas → Area → List ℕ
area_bytes areas Mark = areas.mark.items
area_bytes areas Log = areas.log.items
area_bytes areas Root = areas.root.items
area_bytes areas Left = areas.left.items
area_bytes areas Right = areas.right.items

-- what an area reads after these
abbrev pub seen : List Event → Area → List ℕ
seen [] a = []
seen (Began areas text ∷ es) a = area_bytes areas a
seen (Wrote area at bytes ∷ es) a = if area_place area == area_place a then overlaid (seen es a) at bytes.items else seen es a
seen (Synced area ∷ es) a = seen es a
seen (Printed piece ∷ es) a = seen es a

-- what was printed
abbrev pub text_of : List Event → List ℕ
text_of [] = []
text_of (Began areas text ∷ es) = text.items
text_of (Wrote area at bytes ∷ es) = text_of es
text_of (Synced area ∷ es) = text_of es
text_of (Printed piece ∷ es) = text_of es ++ piece.items

-- what a stop after these may leave of an area
abbrev pub MayLeave : List Event → Area → List ℕ → Type 0
MayLeave [] a c = c ≡ []
MayLeave (Began areas text ∷ es) a c = c ≡ area_bytes areas a
MayLeave (Wrote area at bytes ∷ es) a c = (d : List ℕ) × MayLeave es a d × OnlyIn area (Torn at (length bytes.items)) a d c
MayLeave (Synced area ∷ es) a c = MayLeave es a c × (a ≡ area → c ≡ seen es a)
MayLeave (Printed piece ∷ es) a c = MayLeave es a c

-- of all areas and the text
abbrev pub LeavesAfter : List Event → Outcome → Type 0
LeavesAfter es c = ((a : Area) → MayLeave es a (c.areas a)) × (c.text ≡ text_of es)

-- what a stop inside the call that added e may leave
abbrev pub LeavesInside : Event → List Event → Outcome → Type 0
LeavesInside (Began areas text) es c = LeavesAfter (Began areas text ∷ es) c
LeavesInside (Wrote area at bytes) es c = LeavesAfter (Wrote area at bytes ∷ es) c
LeavesInside (Synced area) es c = LeavesAfter (Synced area ∷ es) c
LeavesInside (Printed piece) es c = ((a : Area) → MayLeave es a (c.areas a)) × HasFrontOf piece.items (text_of es) c.text

-- what a stop may have left since the first t of these
abbrev pub LeftSince : List Event → ℕ → Outcome → Type 0
LeftSince [] t c = LeavesAfter [] c
LeftSince (e ∷ es) t c = (length es < t → LeavesAfter (e ∷ es) c) × (t ≤ length es → LeavesInside e es c ⊎ LeftSince es t c)

abbrev pub view_of : List Event → ℕ → ℕ → ℕ → StationView
view_of es faults reads writes = record {
  is_told = true;
  bytes = seen es;
  may_leave = MayLeave es;
  printed = text_of es;
  moment = length es;
  left_since = LeftSince es;
  faults = faults;
  reads = reads;
  writes = writes;
}

-- since the last of them there is what is there now
pub only_after : (es : List Event) (c : Outcome) → LeftSince es (length es) c → LeavesAfter es c
only_after [] c left = left
only_after (e ∷ es) c left = left.0 (omega arith)

inside_after : (e : Event) (es : List Event) (c : Outcome) → LeavesAfter (e ∷ es) c → LeavesInside e es c
inside_after (Began areas text) es c now = now
inside_after (Wrote area at bytes) es c now = now
inside_after (Synced area) es c now = now
inside_after (Printed piece) es c now = (now.0, (length piece.items, omega arith, now.1 ∙ ap (λ (p : List ℕ). text_of es ++ p) (sym (take_all (length piece.items) piece.items (omega arith)))))

-- and that is there since each moment before
pub still_after : (es : List Event) (t : ℕ) (c : Outcome) → LeavesAfter es c → LeftSince es t c
still_after [] t c now = now
still_after (e ∷ es) t c now = ((λ lt. now), (λ le. inl (inside_after e es c now)))

pub seen_here : (area : Area) (at : ℕ) (bytes : Vec ℕ Global) (es : List Event) → seen (Wrote area at bytes ∷ es) area ≡ overlaid (seen es area) at bytes.items
seen_here area at bytes es = let own : (area_place area == area_place area) ≡ true = grind (arith, nat_tests) in rw own

pub seen_other : (area : Area) (at : ℕ) (bytes : Vec ℕ Global) (es : List Event) (a : Area) → a ≢ area → seen (Wrote area at bytes ∷ es) a ≡ seen es a
seen_other area at bytes es a other =
    let apart : area_place area ≢ area_place a = λ is. other (sym (same_place area a is)) in
    let no : (area_place area == area_place a) ≡ false = grind (arith, nat_tests) in
    rw no

pub torn_here : (area : Area) (at : ℕ) (bytes : Vec ℕ Global) (es : List Event) (a : Area) → a ≡ area → Torn at (length bytes.items) (seen es a) (seen (Wrote area at bytes ∷ es) a)
torn_here area at bytes es a here =
    subst (λ (b : Area). Torn at (length bytes.items) (seen es b) (seen (Wrote area at bytes ∷ es) b)) (sym here)
    (subst (λ (f : List ℕ). Torn at (length bytes.items) (seen es area) f) (sym (seen_here area at bytes es)) (torn-overlaid (seen es area) at bytes.items))

-- an area may stay as it reads
pub may_read : (es : List Event) (a : Area) → MayLeave es a (seen es a)
may_read [] a = refl
may_read (Began areas text ∷ es) a = refl
may_read (Wrote area at bytes ∷ es) a = (seen es a, may_read es a, (λ here. torn_here area at bytes es a here, λ other. seen_other area at bytes es a other))
may_read (Synced area ∷ es) a = (may_read es a, λ is. refl)
may_read (Printed piece ∷ es) a = may_read es a
