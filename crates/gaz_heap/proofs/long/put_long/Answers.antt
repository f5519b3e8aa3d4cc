use Rattle.std.proofs.Common.{◌≡◌, ◌≢◌, ◌≤◌, ◌<◌, ◌+◌, ◌*◌, ◌-◌, ◌/◌, ◌%◌, ℕ, suc, List, ◌++◌, length, take, drop, refl, sym, ap, ◌∙◌, subst, arith}
use Rattle.std.proofs.lemmas.List.{take-append-drop, drop-drop, drop_all, length-take-le, length-drop}
use Rattle.gaz_page.specs.Pages.{Counts}
use Rattle.gaz_heap.specs.Facts.{Puts}
use Rattle.gaz_heap.proofs.Asked.{told_still}
use Rattle.gaz_heap.proofs.Changed.{changed_none, changed_more}
use Rattle.gaz_heap.proofs.LongPuts.{Chaining, chaining_none, chaining_more, long_puts}
use Rattle.gaz_heap.proofs.UsedUp.{piece_fails}
use Rattle.gaz_heap.proofs.Passing.{along_none, along_piece, piece_names}
use Rattle.gaz_heap.proofs.long.put_long.Goals as goal

-- the last piece and what follows it
joined : (from end : ℕ) (bytes : List ℕ) → from ≤ end → take (end - from) (drop from bytes) ++ drop end bytes ≡ drop from bytes
joined from end bytes within =
    let there : from + (end - from) ≡ end = omega arith in
    ap (λ (l : List ℕ). take (end - from) (drop from bytes) ++ l) (ap (λ (k : ℕ). drop k bytes) (sym there) ∙ sym (drop-drop (end - from) from bytes))
    ∙ take-append-drop (end - from) (drop from bytes)

doubled : (t : ℕ) → 2 * t + 2 ≡ 2 * (t + 1)
doubled t = omega arith

next_count : (t : ℕ) → suc t ≡ t + 1
next_count t = omega arith

room_less : (end from t : ℕ) → from ≡ (end - 1) / 4080 * 4080 → from < end → end ≤ 4080 * (17 - t) → t < 17 → from ≤ 4080 * (17 - (t + 1))
room_less end from t is below room low = omega arith

whole_from : (end from : ℕ) → from ≡ (end - 1) / 4080 * 4080 → from % 4080 ≡ 0
whole_from end from is = omega arith

full_size : (end from : ℕ) → from ≡ (end - 1) / 4080 * 4080 → from < end → end % 4080 ≡ 0 → end - from ≡ 4080
full_size end from is below whole = omega arith

full_piece : (end from : ℕ) (bytes : List ℕ) → from ≡ (end - 1) / 4080 * 4080 → from < end → end ≤ length bytes → end % 4080 ≡ 0 → length (take (end - from) (drop from bytes)) ≡ 4080
full_piece end from bytes is below within whole = length-take-le (end - from) (drop from bytes) (omega (arith, within, below, length-drop from bytes)) ∙ full_size end from is below whole

pub loop-turn-init : goal.loop-turn-init
loop-turn-init g c = record {
  changed = changed_none (g.P.Pages.view c.args.pages.now);
  keeps = g.met.P.Pages.keeps_same c.args.pages.now;
  end = omega arith;
  room = omega arith;
  whole = λ no_. absurd (no_ refl);
  along = λ told. along_none (g.P.Pages.view c.args.pages.now);
  pieces = λ told free least chain.
      let v = g.P.Pages.view c.args.pages.now in
      subst (λ (l : List ℕ). Chaining v v free 0 0 l) (sym (drop_all (length c.args.bytes.now) c.args.bytes.now (omega arith))) (chaining_none v free chain);
}

pub loop-turn-preserved : goal.loop-turn-preserved
loop-turn-preserved g c =
    let i = c.loop-turn.invariant in
    let old = (g.P.Pages.view c.args.pages.now) in
    let now = (g.P.Pages.view c.loop-turn.pages) in
    let new = (g.P.Pages.view c.store_piece.new.pages) in
    let t = c.loop-turn._turn in
    let from = c.piece_before-from.result in
    let end = c.loop-turn.end in
    let bytes = c.args.bytes.now in
    let e = c.piece_before-from.ensures in
    let piece = take (end - from) (drop from bytes) in
    let more = changed_more t (2 * t) 1 2 old now new c.in-Ok.number i.changed (rw c.in-Ok.is at c.store_piece.ensures.costs) in
    record {
      changed = record { counts = subst (λ (k : ℕ). Counts (t + 1) k old new) (doubled t) more.counts; faults = more.faults; starved = more.starved };
      keeps = g.met.P.Pages.keeps_on c.args.pages.now c.loop-turn.pages c.store_piece.new.pages i.keeps c.store_piece.ensures.keeps;
      end = omega (arith, e.below, i.end);
      room = room_less end from t e.whole e.below i.room c.loop-turn-test.true;
      whole = λ no_. whole_from end from e.whole;
      along = λ told. along_piece old now new c.in-Ok.number c.loop-turn.next t piece (i.along told) (c.in-Ok.ensures.stores (told_still old now i.changed.counts.told told));
      pieces = λ told free least chain.
          let still = told_still old now i.changed.counts.told told in
          let size : t ≢ 0 → length piece ≡ 4080 = λ later. full_piece end from bytes e.whole e.below i.end (i.whole later) in
          subst (λ (l : List ℕ). Chaining old new free c.in-Ok.number (t + 1) l) (joined from end bytes (omega (arith, e.below)))
          (subst (λ (k : ℕ). Chaining old new free c.in-Ok.number k (piece ++ drop end bytes)) (next_count t)
          (chaining_more old now new free (drop end bytes) piece c.loop-turn.next t c.in-Ok.number least (i.pieces told free least chain) (c.in-Ok.ensures.stores still) size));
    }

pub returns-then-end-eq0-clause-puts : goal.returns-then-end-eq0-clause-puts
returns-then-end-eq0-clause-puts g c told current free heap =
    let i = c.loop-turn.invariant in
    let old = (g.P.Pages.view c.args.pages.now) in
    let now = (g.P.Pages.view c.loop-turn.pages) in
    let ended : c.loop-turn.end ≡ 0 = c.if-end-eq0.true in
    let pieces = subst (λ (k : ℕ). Chaining old now free c.loop-turn.next c.loop-turn._turn (drop k c.args.bytes.now)) ended (i.pieces told free heap.least heap.chain) in
    subst (λ (place : ℕ). Puts old now current current free c.args.bytes.now place) (sym c.chain_place.ensures.place)
    (long_puts old now current c.loop-turn.next c.loop-turn._turn free c.args.bytes.now (record {
      pieces = pieces;
      heap = heap;
      few = omega arith;
      long = c.requires.long;
      short = c.requires.short;
      low = c.chain_place.ensures.page;
    }))

pub returns-clause-puts : goal.returns-clause-puts
returns-clause-puts g c told current free heap =
    let i = c.loop-turn.invariant in
    let old = (g.P.Pages.view c.args.pages.now) in
    let now = (g.P.Pages.view c.loop-turn.pages) in
    let ended : c.loop-turn.end ≡ 0 = omega (arith, i.room) in
    let pieces = subst (λ (k : ℕ). Chaining old now free c.loop-turn.next c.loop-turn._turn (drop k c.args.bytes.now)) ended (i.pieces told free heap.least heap.chain) in
    subst (λ (place : ℕ). Puts old now current current free c.args.bytes.now place) (sym c.chain_place-2.ensures.place)
    (long_puts old now current c.loop-turn.next c.loop-turn._turn free c.args.bytes.now (record {
      pieces = pieces;
      heap = heap;
      few = omega arith;
      long = c.requires.long;
      short = c.requires.short;
      low = c.chain_place-2.ensures.page;
    }))

pub returns-in-Err-clause-damaged : goal.returns-in-Err-clause-damaged
returns-in-Err-clause-damaged g c told free least chain =
    let i = c.loop-turn.invariant in
    let old = (g.P.Pages.view c.args.pages.now) in
    let now = (g.P.Pages.view c.loop-turn.pages) in
    let still = told_still old now i.changed.counts.told told in
    let from = c.piece_before-from.result in
    let end = c.loop-turn.end in
    let bytes = c.args.bytes.now in
    piece_fails old now (g.P.Pages.view c.store_piece.new.pages) free (drop end bytes) (take (end - from) (drop from bytes)) c.loop-turn.next c.loop-turn._turn c.in-Err.fault (i.pieces told free least chain) c.loop-turn-test.true (c.in-Err.ensures.stores still)

pub returns-in-Err-clause-named : goal.returns-in-Err-clause-named
returns-in-Err-clause-named g c told =
    let i = c.loop-turn.invariant in
    let old = (g.P.Pages.view c.args.pages.now) in
    let now = (g.P.Pages.view c.loop-turn.pages) in
    let from = c.piece_before-from.result in
    let piece = take (c.loop-turn.end - from) (drop from c.args.bytes.now) in
    piece_names old now (g.P.Pages.view c.store_piece.new.pages) c.loop-turn._turn c.loop-turn.next piece c.in-Err.fault (i.along told) c.loop-turn-test.true (c.in-Err.ensures.stores (told_still old now i.changed.counts.told told))
