-- Slots that were read together are those of the log.
use Rattle.std.proofs.Common.{true, ◌≡◌, ℕ, ◌+◌, ◌-◌, ◌*◌, ◌<◌, ◌≤◌, List, length, take, drop, slice_index, sym, ◌∙◌, ap, arith, length-drop}
use Rattle.std.proofs.lemmas.List.{take_all, take-take, drop-take, get_or-take}
use Rattle.std.specs.Int.{w32, from_be_bytes}
use Rattle.gaz_outside.specs.declared.station.Area.{Area}
use Rattle.gaz_outside.specs.declared.station.Area.TheVariants.{Log}
use Rattle.gaz_outside.specs.Station.{StationView, Confined}
use Rattle.gaz_redo.specs.declared.group.Group.{Group}
use Rattle.gaz_redo.specs.Group.{IsOfLog, size_of}
use Rattle.gaz_redo.specs.Slots.{Scattered, Touches}
use Rattle.gaz_redo.specs.Content.{is_log, log_fits, are_tight, slots_of, slot_at, slot_count, area_of}
use Rattle.gaz_redo.proofs.Phases.{and_first, untouched_same}
use Rattle.gaz_redo.proofs.Replays.{log_homes}
use Rattle.gaz_redo.proofs.SlotReads.{drop_on, log_length}

-- a slot is read off its 4,112 bytes
slot_front : (m : ℕ) (x : List ℕ) → 4112 ≤ m → slot_at (take m x) ≡ slot_at x
slot_front m x long =
    let four : m ≡ 4 + (m - 4) = omega (arith, long) in
    let sixteen : m ≡ 16 + (m - 16) = omega (arith, long) in
    let area : area_of (slice_index (take m x) 0) ≡ area_of (slice_index x 0) = ap area_of (get_or-take m x 0 0 (omega (arith, long))) in
    let page : take 4 (drop 4 (take m x)) ≡ take 4 (drop 4 x) =
    ap (λ (n : ℕ). take 4 (drop 4 (take n x))) four ∙ ap (λ (l : List ℕ). take 4 l) (drop-take 4 (m - 4) x) ∙ take-take 4 (m - 4) (drop 4 x) (omega (arith, long)) in
    let image : take 4096 (drop 16 (take m x)) ≡ take 4096 (drop 16 x) =
    ap (λ (n : ℕ). take 4096 (drop 16 (take n x))) sixteen ∙ ap (λ (l : List ℕ). take 4096 l) (drop-take 16 (m - 16) x) ∙ take-take 4096 (m - 16) (drop 16 x) (omega (arith, long)) in
    λ i. record { area = area i; page = from_be_bytes w32 (page i); image = image i }

-- the head of a slot and its image, and the slot
pub slot_shown : (x shown : List ℕ) (area : Area) (page : ℕ) → shown ≡ take 4112 x → length shown ≡ 4112 → area ≡ area_of (slice_index shown 0) → page ≡ from_be_bytes w32 (take 4 (drop 4 shown))
    → record { area = area; page = page; image = drop 16 shown } ≡ slot_at x
slot_shown x shown area page is long is_area is_page =
    let image : drop 16 shown ≡ take 4096 (drop 16 shown) = sym (take_all 4096 (drop 16 shown) (omega (arith, length-drop 16 shown, long))) in
    let whole : record { area = area; page = page; image = drop 16 shown } ≡ slot_at shown = λ i. record { area = is_area i; page = is_page i; image = image i } in
    whole ∙ ap slot_at is ∙ slot_front 4112 x (omega arith)

-- a slot among so many
slot_among : (n i : ℕ) (x : List ℕ) → i < n → slot_at (drop (4112 * i) (take (4112 * n) x)) ≡ slot_at (drop (4112 * i) x)
slot_among n i x lt =
    let far : 4112 * n ≡ 4112 * i + 4112 * (n - i) = omega (arith, lt) in
    ap (λ (m : ℕ). slot_at (drop (4112 * i) (take m x))) far ∙ ap slot_at (drop-take (4112 * i) (4112 * (n - i)) x)
    ∙ slot_front (4112 * (n - i)) (drop (4112 * i) x) (omega (arith, lt))

pub group_slot : (group : Group) (log : List ℕ) (k : ℕ) → IsOfLog group log → group.first ≤ k → k < group.end → slot_at (drop (4112 * (k - group.first)) group.bytes) ≡ slot_at (drop (16 + 4112 * k) log)
group_slot group log k same from held =
    let n = group.end - group.first in
    let i = k - group.first in
    let lt : i < n = omega (arith, from, held) in
    let behind = drop (16 + 4112 * group.first) log in
    let place : 16 + 4112 * group.first + 4112 * i ≡ 16 + 4112 * k = omega (arith, from) in
    sym (slot_among n i group.bytes lt) ∙ ap (λ (l : List ℕ). slot_at (drop (4112 * i) l)) same ∙ slot_among n i behind lt
    ∙ ap slot_at (drop_on (16 + 4112 * group.first) (4112 * i) log ∙ ap (λ (m : ℕ). drop m log) place)

pub none_held : (group : Group) (log : List ℕ) → group.end ≡ 0 → IsOfLog group log
none_held group log none =
    let nothing : size_of group ≡ 0 = omega (arith, none) in
    ap (λ (n : ℕ). take n group.bytes) nothing ∙ sym (ap (λ (n : ℕ). take n (drop (16 + 4112 * group.first) log)) nothing)

-- writes inside the images of a log leave it
pub log_stays : (v0 mid : StationView) → Confined (λ a. Scattered a (slots_of (v0.bytes Log))) v0 mid → mid.bytes Log ≡ v0.bytes Log
log_stays v0 mid run =
    let log = v0.bytes Log in
    let none : Touches Log (slots_of log) → ⊥ = λ h. let home = log_homes (slot_count log) (drop 16 log) Log h in omega (arith, home) in
    untouched_same Log (slots_of log) log (mid.bytes Log) none (run.bytes Log)

pub log_room : (v0 : StationView) (count : ℕ) → is_log v0.bytes ≡ true → count ≡ slot_count (v0.bytes Log) → 16 + 4112 * count ≤ length (v0.bytes Log)
log_room v0 count in_form is =
    let room = log_length (v0.bytes Log) (and_first (log_fits (v0.bytes Log)) (are_tight (slots_of (v0.bytes Log)) v0.bytes) in_form) in
    omega (arith, room, is)
