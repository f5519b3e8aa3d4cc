-- What a stop leaves of a station in memory is one of its outcomes.
use Rattle.std.proofs.Common.{◌≡◌, ◌≢◌, ℕ, ◌==◌, ◌||◌, nat_lt, Bool, true, false, List, [], ◌∷◌, length, reverse, Vec, replicate, if◌then◌else◌, refl, sym, ◌∙◌, ap, subst, arith}
use Rattle.std.proofs.lemmas.Bool.Decides.{nat_tests}
use Rattle.std.proofs.lemmas.List.{length-replicate}
use Rattle.std.specs.declared.alloc.Global.{Global}
use Rattle.gaz_outside.specs.declared.areas.Areas.{Areas}
use Rattle.gaz_outside.specs.declared.station.Area.{Area}
use Rattle.gaz_outside.specs.declared.event.Event.{Event}
use Rattle.gaz_outside.specs.declared.event.Event.TheVariants.{Began, Wrote, Synced, Printed}
use Rattle.gaz_outside.specs.Station.{Torn, area_place, overlaid}
use Rattle.gaz_outside.specs.Overlaid.{torn-overlaid}
use Rattle.gaz_outside.specs.SameArea.{same_place}
use Rattle.gaz_outside.specs.Events.{MayLeave, LeavesAfter, area_bytes, seen, text_of}
use Rattle.gaz_outside.specs.Stopped.{is_synced, unsynced, left_of_write, stopped}
use Rattle.gaz_outside.proofs.TornWrites.{torn_none}

-- a write is whole, where the area is synced later
whole_write : (here synced first next : Bool) (fill at : ℕ) (bytes file read : List ℕ) → file ≡ read → (here ≡ true → synced ≡ true) → (if here then left_of_write (synced || first) next fill at bytes file else file) ≡ (if here then overlaid read at bytes else read)
whole_write false synced first next fill at bytes file read same later = same
whole_write true true first next fill at bytes file read same later = ap (λ f. overlaid f at bytes) same
whole_write true false first next fill at bytes file read same later = absurd (let is : false ≡ true = later refl in cc)

-- the same area, by the test
one_area : (a b : Area) → (area_place a == area_place b) ≡ true → a ≡ b
one_area a b is = same_place a b (grind (arith, nat_tests))

or_synced : (x y : Bool) → y ≡ true → (x || y) ≡ true
or_synced true y is = refl
or_synced false y is = is

-- An area that is synced later has all its writes.
pub synced_later : (keep fill : ℕ) (events later : List Event) (a : Area) → is_synced later a ≡ true → stopped keep fill events later a ≡ seen events a
synced_later keep fill [] later a synced = refl
synced_later keep fill (Began areas text ∷ events) later a synced = refl
synced_later keep fill (Wrote area at bytes ∷ events) later a synced =
    whole_write (area_place area == area_place a) (is_synced later area) (nat_lt (unsynced events (Wrote area at bytes ∷ later)) keep) (unsynced events (Wrote area at bytes ∷ later) == keep) fill at bytes.items _ _
    (synced_later keep fill events (Wrote area at bytes ∷ later) a synced)
    (λ here. ap (is_synced later) (one_area area a here) ∙ synced)
synced_later keep fill (Synced area ∷ events) later a synced =
    synced_later keep fill events (Synced area ∷ later) a (or_synced (area_place area == area_place a) (is_synced later a) synced)
synced_later keep fill (Printed piece ∷ events) later a synced = synced_later keep fill events (Printed piece ∷ later) a synced

-- what is left of a write is a torn file
torn_part : (here whole next : Bool) (fill at : ℕ) (bytes file : List ℕ) → Torn at (length bytes) file (if here then left_of_write whole next fill at bytes file else file)
torn_part false whole next fill at bytes file = torn_none at (length bytes) file
torn_part true true next fill at bytes file = torn-overlaid file at bytes
torn_part true false true fill at bytes file = subst (λ n. Torn at n file (overlaid file at (replicate (length bytes) fill))) (length-replicate (length bytes) fill) (torn-overlaid file at (replicate (length bytes) fill))
torn_part true false false fill at bytes file = torn_none at (length bytes) file

other_area : (here : Bool) (file other : List ℕ) → here ≡ false → (if here then other else file) ≡ file
other_area false file other is = refl
other_area true file other is = absurd (let never : true ≡ false = is in cc)

-- what a stop leaves is one of the outcomes
pub may_be_stopped : (keep fill : ℕ) (events later : List Event) (a : Area) → MayLeave events a (stopped keep fill events later a)
may_be_stopped keep fill [] later a = refl
may_be_stopped keep fill (Began areas text ∷ events) later a = refl
may_be_stopped keep fill (Wrote area at bytes ∷ events) later a =
    let file : List ℕ = stopped keep fill events (Wrote area at bytes ∷ later) a in
    let count : ℕ = unsynced events (Wrote area at bytes ∷ later) in (
      file,
      may_be_stopped keep fill events (Wrote area at bytes ∷ later) a,
      (
        (λ is. torn_part (area_place area == area_place a) (is_synced later area || nat_lt count keep) (count == keep) fill at bytes.items file),
        (λ other. other_area (area_place area == area_place a) file (left_of_write (is_synced later area || nat_lt count keep) (count == keep) fill at bytes.items file) (not_one area a other)),
      ),
    )
  where
    not_one : (x y : Area) → y ≢ x → (area_place x == area_place y) ≡ false
    not_one x y other =
        let apart : area_place x ≢ area_place y = λ is. other (sym (same_place x y is)) in
        grind (arith, nat_tests)
may_be_stopped keep fill (Synced area ∷ events) later a = (
  may_be_stopped keep fill events (Synced area ∷ later) a,
  λ is. synced_later keep fill events (Synced area ∷ later) a (or_first (area_place area == area_place a) (is_synced later a) (same_test a area is)),
)
  where
    or_first : (x y : Bool) → x ≡ true → (x || y) ≡ true
    or_first true y is = refl
    or_first false y is = absurd (let never : false ≡ true = is in cc)

    same_test : (x y : Area) → x ≡ y → (area_place y == area_place x) ≡ true
    same_test x y is = let places : area_place x ≡ area_place y = ap area_place is in grind (arith, nat_tests)
may_be_stopped keep fill (Printed piece ∷ events) later a = may_be_stopped keep fill events (Printed piece ∷ later) a

-- A station that begins with an outcome of the areas, and with the text, is one of the outcomes.
pub begins_with_outcome : (events kept : List Event) (areas : Areas) (text : Vec ℕ Global) → kept ≡ Began areas text ∷ [] → ((a : Area) → MayLeave events a (area_bytes areas a)) → text.items ≡ text_of events → LeavesAfter events (record { areas = seen (reverse kept); text = text_of (reverse kept) })
begins_with_outcome events kept areas text is may same =
    subst (λ (es : List Event). LeavesAfter events (record { areas = seen (reverse es); text = text_of (reverse es) })) (sym is) (may, same)
