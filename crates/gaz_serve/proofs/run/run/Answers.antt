use Rattle.std.proofs.Common.{◌≡◌, ◌<◌, [], ◌∷◌, ◌++◌, length, ◌∙◌, refl, sym, subst, inl, inr, arith, Bool, true, false, IsTrue}
use Rattle.std.proofs.lemmas.Bool.{false≢true}
use Rattle.std.specs.Prelude.{codes}
use Rattle.gaz_outside.specs.Outside.{left_of}
use Rattle.gaz_num.specs.Refusal.{request}
use Rattle.gaz_lines.proofs.Told.{told_start}
use Rattle.gaz_reply.specs.Reply.{refused}
use Rattle.gaz_turns.specs.Turns.{state_after}
use Rattle.gaz_turns.proofs.Told.{still_mirrors}
use Rattle.gaz_outside.specs.declared.source.Failed.{Failed}
use Rattle.gaz_words.specs.Grammar.{request_in}
use Rattle.gaz_serve.specs.Bounds.{most_written_by, WritesWithin}
use Rattle.gaz_serve.proofs.Changing.{closes_on, closes_told, when_told}
use Rattle.gaz_serve.proofs.Fitting.{open_still}
use Rattle.gaz_serve.proofs.Running.{way_first, run_ends, run_fails, run_cut, next_way, long_step, long_reads, long_writes, long_told, line_told, goes_past}
use Rattle.gaz_serve.proofs.Telling.{tells_nothing, tells_more, tells_cut, tells_all}
use Rattle.gaz_serve.proofs.Taken.{counted_start, counted_line, answered_nothing, answered_more, answered_all, answered_next}
use Rattle.gaz_serve.proofs.run.run.Goals as goal

-- what was told at first is told still
on_told : (b now : Bool) → now ≡ b → IsTrue b → IsTrue now
on_told b now same told = subst (λ (x : Bool). IsTrue x) (sym same) told

pub loop-line-init : goal.loop-line-init
loop-line-init g c = record {
  way = λ told shelf_told first mirrors. way_first first _ _ _ _ _ (g.met.F.Shelf.faults_fit c.args.shelf.now) c.requires.fresh.number (λ o told left. g.met.T.Station.only_now c.args.station.now o told left) mirrors (told_start 4096 c.args.cutter.now _ c.requires.fresh c.requires.line_limit c.requires.file_limit);
  lasts = λ told gaz mirrors. (gaz, mirrors);
  failures = tells_nothing _ _ (g.met.F.Shelf.faults_fit c.args.shelf.now);
  opened = c.requires.«open»;
  line_limit = c.requires.line_limit;
  reads = inl c.requires.fresh.reads;
  ended = λ is. absurd (false≢true (sym c.requires.fresh.ended ∙ is));
  counted = inl (counted_start c.args.cutter.now _ c.requires.fresh c.requires.file_limit);
  begun = ([], told_start 4096 c.args.cutter.now _ c.requires.fresh c.requires.line_limit c.requires.file_limit);
  heard = answered_nothing 65536 _ _;
  shelf_told = refl;
  numbers = inl (λ n. refl);
  source = refl;
  station = refl;
  told = refl;
}

pub returns-in-Ok-None-clause-answers : goal.returns-in-Ok-None-clause-answers
returns-in-Ok-None-clause-answers g c told shelf_told first mirrors =
    let gave = rw (c.in-Ok-None.is, c.in-Ok-None.field-0-is) at c.next_source.follows.holds-at-none.gave in
    run_ends first _ _ _ _ _ _ _ (c.loop-line.invariant.way told shelf_told first mirrors) 0 false _ gave.gives.1 (λ is. absurd (omega (arith, is))) (λ is. absurd (omega (arith, is))) (λ is. absurd (omega (arith, is))) (λ is. absurd (omega (arith, is))) (λ is. refl) (λ is. absurd (omega (arith, is)))

pub returns-in-Ok-None-clause-failures : goal.returns-in-Ok-None-clause-failures
returns-in-Ok-None-clause-failures g c = tells_all _ _ _ _ c.loop-line.invariant.failures 0 (λ is. absurd (omega (arith, is))) (λ is. absurd (omega (arith, is)))

pub returns-in-Err-FileTooLong-clause-answers : goal.returns-in-Err-FileTooLong-clause-answers
returns-in-Err-FileTooLong-clause-answers g c told shelf_told first mirrors =
    let gave = rw (c.in-Err-FileTooLong.is, c.in-Err-FileTooLong.field-0-is) at c.next_source.follows.holds-at-none.gave in
    run_ends first _ _ _ _ _ _ _ (c.loop-line.invariant.way told shelf_told first mirrors) 7 true _ gave.gives.1 (λ is. absurd (omega (arith, is))) (λ is. absurd (omega (arith, is))) (λ is. absurd (omega (arith, is))) (λ is. absurd (omega (arith, is))) (λ is. absurd (omega (arith, is))) (λ is. refl)

pub returns-in-Err-FileTooLong-clause-failures : goal.returns-in-Err-FileTooLong-clause-failures
returns-in-Err-FileTooLong-clause-failures g c = tells_all _ _ _ _ c.loop-line.invariant.failures 7 (λ is. absurd (omega (arith, is))) (λ is. absurd (omega (arith, is)))

pub returns-in-Err-FileTooLong-clause-past : goal.returns-in-Err-FileTooLong-clause-past
returns-in-Err-FileTooLong-clause-past g c is =
    let gave = rw (c.in-Err-FileTooLong.is, c.in-Err-FileTooLong.field-0-is) at c.next_source.follows.holds-at-none.gave in
    let begun = c.loop-line.invariant.begun in
    goes_past _ begun.0 _ gave.gives.1 begun.1

pub returns-in-Err-Failed-clause-answers : goal.returns-in-Err-Failed-clause-answers
returns-in-Err-Failed-clause-answers g c told shelf_told first mirrors =
    let i = c.loop-line.invariant in
    let heard = answered_all _ _ _ _ _ _ _ (λ ended. rw c.in-Err-Failed.field-0-is at (c.in-Err-Failed.ensures.rests ended).1) i.counted (rw c.in-Err-Failed.field-0-is at c.in-Err-Failed.ensures.waits_in_vain) in
    run_fails first _ _ _ _ _ _ _ (i.way told shelf_told first mirrors) 4 _ refl heard

pub returns-in-Err-Failed-clause-failures : goal.returns-in-Err-Failed-clause-failures
returns-in-Err-Failed-clause-failures g c = tells_all _ _ _ _ c.loop-line.invariant.failures 4 (λ is. absurd (omega (arith, is))) (λ is. absurd (omega (arith, is)))

pub returns-in-Err-Station-clause-answers : goal.returns-in-Err-Station-clause-answers
returns-in-Err-Station-clause-answers g c told shelf_told first mirrors =
    let i = c.loop-line.invariant in
    let e = c.next_source.ensures in
    let gave = rw (c.in-Ok-Some.is, c.in-Ok-Some.field-0-is) at c.next_source.follows.holds-at-none.gave in
    let heard = answered_next (λ s. left_of (g.S.Source.view s)) _ _ _ _ _ _ _ _ (λ is. (e.rests is).0) i.counted e.waits i.heard in
    let way = i.way told shelf_told first mirrors in
    let here = on_told _ _ i.told told in
    let shelf_here = on_told _ _ i.shelf_told shelf_told in
    run_cut first _ _ _ _ _ _ _ way c.in-Ok-Some.line.now gave.line.cuts.is_line _ (line_told _ _ c.in-Ok-Some.line.now _ _ gave.gives way.told) shelf_here (g.F.Shelf.view c.answer.new.shelf) _ here i.told c.answer.ensures.reports.told (λ a told. g.met.T.Station.may_stay c.loop-line.station a told) (λ a told. g.met.T.Station.may_stay c.answer.new.station a told) (λ t o told le leaves. g.met.T.Station.counts_now c.answer.new.station t o told le leaves) 3 _ refl heard c.in-Err-Station.field-0
    (rw c.in-Err-Station.is at (c.answer.ensures.step here shelf_here (state_after first way.turns) way.mirrors))
    (c.answer.ensures.reads here (state_after first way.turns).gaz way.mirrors)
    (when_told (λ files. WritesWithin (most_written_by files (request_in c.in-Ok-Some.line.now)) (g.T.Station.view c.loop-line.station) (g.T.Station.view c.answer.new.station)) (g.F.Shelf.view c.answer.new.shelf)
    (on_told _ _ (closes_told c.answer.ensures.closes.0 (g.F.Shelf.view c.loop-line.shelf) (g.F.Shelf.view c.answer.new.shelf) c.answer.ensures.closes.1) shelf_here) c.answer.ensures.writes)

pub returns-in-Err-Station-clause-failures : goal.returns-in-Err-Station-clause-failures
returns-in-Err-Station-clause-failures g c =
    tells_cut _ _ _ _ c.loop-line.invariant.failures (g.F.Shelf.view c.answer.new.shelf) _ c.in-Err-Station.field-0 3 (inl refl) (rw c.in-Err-Station.is at c.answer.ensures.tells)

pub loop-line-preserved-in-Ok : goal.loop-line-preserved-in-Ok
loop-line-preserved-in-Ok g c =
    let i = c.loop-line.invariant in
    let e = c.next_source.ensures in
    let gave = rw (c.in-Ok-Some.is, c.in-Ok-Some.field-0-is) at c.next_source.follows.holds-at-none.gave in
    record {
      way = λ told shelf_told first mirrors.
          let way = i.way told shelf_told first mirrors in
          let here = on_told _ _ i.told told in
          let shelf_here = on_told _ _ i.shelf_told shelf_told in
          next_way first _ _ _ _ _ _ _ way c.in-Ok-Some.line.now gave.line.cuts.is_line _ (line_told _ _ c.in-Ok-Some.line.now _ _ gave.gives way.told) shelf_here (g.F.Shelf.view c.answer.new.shelf) _ here i.told c.answer.ensures.reports.told (λ a told. g.met.T.Station.may_stay c.loop-line.station a told) _ gave.numbers
          (rw c.in-Ok.is at (c.answer.ensures.step here shelf_here (state_after first way.turns) way.mirrors))
          (c.answer.ensures.reads here (state_after first way.turns).gaz way.mirrors)
          (when_told (λ files. WritesWithin (most_written_by files (request_in c.in-Ok-Some.line.now)) (g.T.Station.view c.loop-line.station) (g.T.Station.view c.answer.new.station)) (g.F.Shelf.view c.answer.new.shelf)
          (on_told _ _ (closes_told c.answer.ensures.closes.0 (g.F.Shelf.view c.loop-line.shelf) (g.F.Shelf.view c.answer.new.shelf) c.answer.ensures.closes.1) shelf_here) c.answer.ensures.writes);
      lasts = λ told gaz mirrors. let so_far = i.lasts told gaz mirrors in c.in-Ok.ensures.lasts.next (on_told _ _ i.told told) so_far.0 so_far.1;
      failures = tells_more _ _ _ _ i.failures (g.F.Shelf.view c.answer.new.shelf) _ (rw c.in-Ok.is at c.answer.ensures.tells);
      opened = c.in-Ok.ensures.«open»;
      line_limit = gave.line_limit ∙ i.line_limit;
      reads = inr c.next_source.follows.holds-at-none.reads;
      ended = gave.ended;
      counted = elim i.counted [
        | inl k ↦ counted_line _ _ _ _ _ c.in-Ok-Some.line.now _ _ _ gave.numbers gave.line.cuts k
        | inr ended ↦ inr (gave.still_ended ended)
      ];
      begun = (i.begun.0 ++ c.in-Ok-Some.line.now ∷ [], line_told _ i.begun.0 c.in-Ok-Some.line.now _ _ gave.gives i.begun.1);
      heard = answered_more _ _ _ _ _ gave.numbers (answered_next (λ s. left_of (g.S.Source.view s)) _ _ _ _ _ _ _ _ (λ is. (e.rests is).0) i.counted e.waits i.heard);
      numbers = closes_on c.answer.ensures.closes.0 (g.F.Shelf.view c.args.shelf.now) (g.F.Shelf.view c.loop-line.shelf) (g.F.Shelf.view c.answer.new.shelf) i.numbers c.answer.ensures.closes.1;
      shelf_told = closes_told c.answer.ensures.closes.0 (g.F.Shelf.view c.loop-line.shelf) (g.F.Shelf.view c.answer.new.shelf) c.answer.ensures.closes.1 ∙ i.shelf_told;
      source = c.in-Ok-Some.ensures.cause ∙ i.source;
      station = c.in-Ok.ensures.reports.cause ∙ i.station;
      told = c.answer.ensures.reports.told ∙ i.told;
    }

pub returns-in-Err-clause-answers : goal.returns-in-Err-clause-answers
returns-in-Err-clause-answers g c told shelf_told first mirrors =
    let i = c.loop-line.invariant in
    let gave = rw (c.in-Err-TooLong.is, c.in-Err-TooLong.field-0-is) at c.next_source.follows.holds-at-none.gave in
    let long = subst (λ n. n < length gave.refuses.line) i.line_limit gave.refuses.too_long in
    let e = c.next_source.ensures in
    let heard = answered_next (λ s. left_of (g.S.Source.view s)) _ _ _ _ _ _ _ _ (λ is. (e.rests is).0) i.counted e.waits i.heard in
    let way = i.way told shelf_told first mirrors in
    let here = on_told _ _ i.told told in
    let shelf_here = on_told _ _ i.shelf_told shelf_told in
    let line = long_told _ _ gave.refuses.line _ _ long gave.refuses.cuts.is_line gave.gives way.told in
    run_cut first _ _ _ _ _ _ _ way line.0 line.2 _ line.3 shelf_here (g.F.Shelf.view c.loop-line.shelf) _ here i.told c.refuse_long.ensures.told (λ a told. g.met.T.Station.may_stay c.loop-line.station a told) (λ a told. g.met.T.Station.may_stay c.refuse_long.new.station a told) (λ t o told le leaves. g.met.T.Station.counts_now c.refuse_long.new.station t o told le leaves) 3 _ refl heard c.in-Err.field-0
    (long_step line.0 (state_after first way.turns) (g.F.Shelf.view c.loop-line.shelf) _ _ _ (λ o told left. g.met.T.Station.only_now c.loop-line.station o told left) line.1 (rw c.in-Err.is at c.refuse_long.ensures.replies.printed) c.refuse_long.ensures.replies.moments c.refuse_long.ensures.replies.areas)
    (long_reads line.0 (state_after first way.turns) (g.T.Station.view c.loop-line.station) (g.T.Station.view c.refuse_long.new.station) line.1 c.refuse_long.ensures.unread)
    (long_writes line.0 (g.F.Shelf.view c.loop-line.shelf).files (g.T.Station.view c.loop-line.station) (g.T.Station.view c.refuse_long.new.station) line.1 c.refuse_long.ensures.replies.areas.unwritten)

pub returns-in-Err-clause-failures : goal.returns-in-Err-clause-failures
returns-in-Err-clause-failures g c =
    tells_cut _ _ _ _ c.loop-line.invariant.failures (g.F.Shelf.view c.loop-line.shelf) _ c.in-Err.field-0 3 (inl refl)
    (record { reply = refused (request (codes "length")); printed = rw c.in-Err.is at c.refuse_long.ensures.replies.printed; failed = record { faults = refl; last = refl } })

pub loop-line-preserved : goal.loop-line-preserved
loop-line-preserved g c =
    let i = c.loop-line.invariant in
    let gave = rw (c.in-Err-TooLong.is, c.in-Err-TooLong.field-0-is) at c.next_source.follows.holds-at-none.gave in
    let long = subst (λ n. n < length gave.refuses.line) i.line_limit gave.refuses.too_long in
    let e = c.next_source.ensures in
    record {
      way = λ told shelf_told first mirrors.
          let way = i.way told shelf_told first mirrors in
          let here = on_told _ _ i.told told in
          let shelf_here = on_told _ _ i.shelf_told shelf_told in
          let line = long_told _ _ gave.refuses.line _ _ long gave.refuses.cuts.is_line gave.gives way.told in
          next_way first _ _ _ _ _ _ _ way line.0 line.2 _ line.3 shelf_here (g.F.Shelf.view c.loop-line.shelf) _ here i.told c.refuse_long.ensures.told (λ a told. g.met.T.Station.may_stay c.loop-line.station a told) {E = Failed} _ gave.numbers.0
          (long_step line.0 (state_after first way.turns) (g.F.Shelf.view c.loop-line.shelf) _ _ _ (λ o told left. g.met.T.Station.only_now c.loop-line.station o told left) line.1 (rw c.in_default.is at c.refuse_long.ensures.replies.printed) c.refuse_long.ensures.replies.moments c.refuse_long.ensures.replies.areas)
          (long_reads line.0 (state_after first way.turns) (g.T.Station.view c.loop-line.station) (g.T.Station.view c.refuse_long.new.station) line.1 c.refuse_long.ensures.unread)
          (long_writes line.0 (g.F.Shelf.view c.loop-line.shelf).files (g.T.Station.view c.loop-line.station) (g.T.Station.view c.refuse_long.new.station) line.1 c.refuse_long.ensures.replies.areas.unwritten);
      lasts = λ told gaz mirrors. let so_far = i.lasts told gaz mirrors in (so_far.0, still_mirrors so_far.0 (g.T.Station.view c.loop-line.station) (g.T.Station.view c.refuse_long.new.station) (on_told _ _ i.told told) c.refuse_long.ensures.replies.areas so_far.1);
      failures = tells_more _ _ _ _ i.failures {E = Failed} (g.F.Shelf.view c.loop-line.shelf) _
          (record { reply = refused (request (codes "length")); printed = rw c.in_default.is at c.refuse_long.ensures.replies.printed; failed = record { faults = refl; last = refl } });
      opened = open_still c.loop-line.session (g.T.Station.view c.loop-line.station) (g.T.Station.view c.refuse_long.new.station) c.refuse_long.ensures.told c.refuse_long.ensures.replies.areas i.opened;
      line_limit = gave.line_limit ∙ i.line_limit;
      reads = inr c.next_source.follows.holds-at-none.reads;
      ended = gave.ended;
      counted = elim i.counted [
        | inl k ↦ counted_line _ _ _ _ _ gave.refuses.line _ _ _ gave.numbers.0 gave.refuses.cuts k
        | inr ended ↦ inr (gave.still_ended ended)
      ];
      begun = let line = long_told _ i.begun.0 gave.refuses.line _ _ long gave.refuses.cuts.is_line gave.gives i.begun.1 in (i.begun.0 ++ line.0 ∷ [], line.3);
      heard = answered_more _ _ _ _ _ gave.numbers.0 (answered_next (λ s. left_of (g.S.Source.view s)) _ _ _ _ _ _ _ _ (λ is. (e.rests is).0) i.counted e.waits i.heard);
      shelf_told = i.shelf_told;
      numbers = i.numbers;
      source = (rw c.in-Err-TooLong.field-0-is at c.in-Err-TooLong.ensures.cause) ∙ i.source;
      station = c.in_default.ensures.cause.kept ∙ i.station;
      told = c.refuse_long.ensures.told ∙ i.told;
    }

pub returns-in-Ok-None-clause-taken : goal.returns-in-Ok-None-clause-taken
returns-in-Ok-None-clause-taken g c =
    let i = c.loop-line.invariant in
    let e = c.next_source.ensures in
    (answered_next (λ s. left_of (g.S.Source.view s)) _ _ _ _ _ _ _ _ (λ is. (e.rests is).0) i.counted e.waits i.heard).taken

pub returns-in-Err-FileTooLong-clause-taken : goal.returns-in-Err-FileTooLong-clause-taken
returns-in-Err-FileTooLong-clause-taken g c =
    let i = c.loop-line.invariant in
    let e = c.next_source.ensures in
    (answered_next (λ s. left_of (g.S.Source.view s)) _ _ _ _ _ _ _ _ (λ is. (e.rests is).0) i.counted e.waits i.heard).taken

pub returns-in-Err-Failed-clause-taken : goal.returns-in-Err-Failed-clause-taken
returns-in-Err-Failed-clause-taken g c =
    let i = c.loop-line.invariant in
    let e = c.next_source.ensures in
    (answered_next (λ s. left_of (g.S.Source.view s)) _ _ _ _ _ _ _ _ (λ is. (e.rests is).0) i.counted e.waits i.heard).taken

pub returns-in-Err-Station-clause-taken : goal.returns-in-Err-Station-clause-taken
returns-in-Err-Station-clause-taken g c =
    let i = c.loop-line.invariant in
    let e = c.next_source.ensures in
    (answered_next (λ s. left_of (g.S.Source.view s)) _ _ _ _ _ _ _ _ (λ is. (e.rests is).0) i.counted e.waits i.heard).taken

pub returns-in-Err-clause-taken : goal.returns-in-Err-clause-taken
returns-in-Err-clause-taken g c =
    let i = c.loop-line.invariant in
    let e = c.next_source.ensures in
    (answered_next (λ s. left_of (g.S.Source.view s)) _ _ _ _ _ _ _ _ (λ is. (e.rests is).0) i.counted e.waits i.heard).taken

pub returns-in-Err-Station-clause-numbers : goal.returns-in-Err-Station-clause-numbers
returns-in-Err-Station-clause-numbers g c = closes_on c.answer.ensures.closes.0 (g.F.Shelf.view c.args.shelf.now) (g.F.Shelf.view c.loop-line.shelf) (g.F.Shelf.view c.answer.new.shelf) c.loop-line.invariant.numbers c.answer.ensures.closes.1

pub returns-in-Err-Station-clause-shelf_told : goal.returns-in-Err-Station-clause-shelf_told
returns-in-Err-Station-clause-shelf_told g c = closes_told c.answer.ensures.closes.0 (g.F.Shelf.view c.loop-line.shelf) (g.F.Shelf.view c.answer.new.shelf) c.answer.ensures.closes.1 ∙ c.loop-line.invariant.shelf_told

pub returns-in-Err-Damaged-clause-taken : goal.returns-in-Err-Damaged-clause-taken
returns-in-Err-Damaged-clause-taken g c =
    let i = c.loop-line.invariant in
    let e = c.next_source.ensures in
    (answered_next (λ s. left_of (g.S.Source.view s)) _ _ _ _ _ _ _ _ (λ is. (e.rests is).0) i.counted e.waits i.heard).taken

pub returns-in-Err-Damaged-clause-numbers : goal.returns-in-Err-Damaged-clause-numbers
returns-in-Err-Damaged-clause-numbers g c = closes_on c.answer.ensures.closes.0 (g.F.Shelf.view c.args.shelf.now) (g.F.Shelf.view c.loop-line.shelf) (g.F.Shelf.view c.answer.new.shelf) c.loop-line.invariant.numbers c.answer.ensures.closes.1

-- a page was damaged: so the areas mirror no gazetteer
pub returns-in-Err-Damaged-clause-answers : goal.returns-in-Err-Damaged-clause-answers
returns-in-Err-Damaged-clause-answers g c told shelf_told first mirrors =
    let i = c.loop-line.invariant in
    let way = i.way told shelf_told first mirrors in
    absurd (rw c.in-Err-Damaged.field-0-is at (c.in-Err-Damaged.ensures.lasts.sound (on_told _ _ i.told told) (state_after first way.turns).gaz way.mirrors))

pub returns-in-Err-Damaged-clause-damaged : goal.returns-in-Err-Damaged-clause-damaged
returns-in-Err-Damaged-clause-damaged g c six told gaz mirrors =
    let i = c.loop-line.invariant in
    let so_far = i.lasts told gaz mirrors in
    rw c.in-Err-Damaged.field-0-is at (c.in-Err-Damaged.ensures.lasts.sound (on_told _ _ i.told told) so_far.0 so_far.1)

pub returns-in-Err-Damaged-clause-failures : goal.returns-in-Err-Damaged-clause-failures
returns-in-Err-Damaged-clause-failures g c =
    tells_cut _ _ _ _ c.loop-line.invariant.failures (g.F.Shelf.view c.answer.new.shelf) _ c.in-Err-Damaged.field-0 6 (inr refl) (rw c.in-Err-Damaged.is at c.answer.ensures.tells)
