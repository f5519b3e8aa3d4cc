use Rattle.std.proofs.Common.{◌≡◌, ◌+◌, ◌≤◌, length, arith, refl, sym, ap, subst, ◌∙◌, inl, inr, [], eqb-true}
use Rattle.std.specs.Prelude.{IfSome}
use Rattle.std.proofs.lemmas.Bool.{false≢true}
use Rattle.gaz_lines.specs.Cutter.{place_of}
use Rattle.gaz_lines.specs.Files.{left_at, place_in}
use Rattle.gaz_lines.specs.Window.{items}
use Rattle.gaz_lines.proofs.Reading.{reading_at, room_size, still_reads}
use Rattle.gaz_lines.proofs.Reading.{reading_starts, reads_on, waited}
use Rattle.gaz_lines.proofs.Rests.{prepend_none}
use Rattle.gaz_lines.proofs.Giving.{gave_done, gave_failed, gave_at}
use Rattle.gaz_lines.proofs.Keeping.{still_past, no_more}
use Rattle.gaz_lines.proofs.cutter.LineCutter.find_in_file.Goals as goal

pub loop-result-init : goal.loop-result-init
loop-result-init g c = record {
  reading = reading_at _ _ _ _ _ _ (ap (left_at (g.F.Shelf.view c.args.shelf.now) c.args.file) (sym c.place.ensures))
      (reading_starts c.args.self.now _ (left_at (g.F.Shelf.view c.args.shelf.now) c.args.file (place_of c.args.self.now)) c.requires.ended refl refl refl refl refl refl refl);
  waits = inl refl;
  rests = λ ended. (refl, ended);
  reads = (c.place.result, refl);
  same = record { told = refl; files = refl; earlier = refl };
  numbers = λ n. refl;
  blames = refl;
  faults = refl;
}

pub returns-in-Done-clause-gave : goal.returns-in-Done-clause-gave
returns-in-Done-clause-gave g c =
    let i = c.loop-result.invariant in
    gave_at _ _ _ _ _ _ (ap (λ reads. left_at (g.F.Shelf.view c.loop-result.shelf) c.args.file (place_in reads)) (sym (still_reads c.loop-result.self c.step.new.self c.in-Done.result c.in-Done.ensures)))
    (gave_done c.args.self.now c.loop-result.self c.step.new.self c.loop-result.searched _ _ c.loop-result.invariant.reading c.in-Done.result c.in-Done.ensures)

pub returns-in-Done-clause-past : goal.returns-in-Done-clause-past
returns-in-Done-clause-past g c = λ past.
    still_past c.args.self.now c.loop-result.self c.step.new.self c.loop-result.searched _ _ c.loop-result.invariant.reading past c.in-Done.result c.in-Done.ensures

pub loop-result-preserved : goal.loop-result-preserved
loop-result-preserved g c =
    let i = c.loop-result.invariant in
    let took = c.in-Ok.ensures.ok in
    let place = c.place-at.ensures ∙ ap place_in c.in-More.ensures.3.same.reads in
    let read = ap (left_at (g.F.Shelf.view c.loop-result.shelf) c.args.file) (sym place) ∙ took.3 in
    let e = c.in-Ok.ensures in
    record {
      reading = reads_on c.args.self.now c.loop-result.self c.step.new.self c.loop-result.searched c.in-More.count _ _ i.reading c.in-More.ensures
          _ c.in-Ok.count took.0 _ took.2 read took.1 (λ none. subst (λ at. IfSome (left_at (g.F.Shelf.view c.loop-result.shelf) c.args.file at) (λ bytes. bytes ≡ [])) place (e.end none)) refl refl refl refl refl (λ is. eqb-true _ _ is);
      waits = inr (waited c.args.self.now c.loop-result.self c.step.new.self c.loop-result.searched c.in-More.count _ _ i.reading c.in-More.ensures 65536 took.0 _ read (omega (arith, took.1, c.in-Ok.ensures.count)));
      rests = λ ended. absurd (false≢true (sym c.in-More.ensures.2 ∙ (i.rests ended).1));
      reads = (_, refl);
      same = record { told = e.same.told ∙ i.same.told; files = e.same.files ∙ i.same.files; earlier = e.same.earlier ∙ i.same.earlier };
      numbers = λ n. e.numbers n ∙ i.numbers n;
      blames = e.blames ∙ i.blames;
      faults = c.in-Ok.ensures.cause.kept ∙ i.faults;
    }

pub returns-in-Err-clause-gave : goal.returns-in-Err-clause-gave
returns-in-Err-clause-gave g c =
    let i = c.loop-result.invariant in
    let place = c.place-at.ensures ∙ ap place_in c.in-More.ensures.3.same.reads in
    let untaken = ap (left_at (g.F.Shelf.view c.read_from.new.shelf) c.args.file) (sym c.place-at.ensures) ∙ c.in-Err.ensures.unread ∙ ap (left_at (g.F.Shelf.view c.loop-result.shelf) c.args.file) place in
    gave_failed c.args.self.now c.loop-result.self c.step.new.self _ c.loop-result.searched c.in-More.count _ _ _ i.reading c.in-More.ensures c.in-Err.ensures.kept untaken refl refl refl refl refl refl

pub returns-in-Err-clause-waits_in_vain : goal.returns-in-Err-clause-waits_in_vain
returns-in-Err-clause-waits_in_vain g c =
    let i = c.loop-result.invariant in
    let place = c.place-at.ensures ∙ ap place_in c.in-More.ensures.3.same.reads in
    let untaken = ap (left_at (g.F.Shelf.view c.read_from.new.shelf) c.args.file) (sym c.place-at.ensures) ∙ c.in-Err.ensures.unread ∙ ap (left_at (g.F.Shelf.view c.loop-result.shelf) c.args.file) place in
    waited c.args.self.now c.loop-result.self c.step.new.self c.loop-result.searched c.in-More.count (left_at (g.F.Shelf.view c.args.shelf.now) c.args.file (place_of c.args.self.now)) (left_at (g.F.Shelf.view c.loop-result.shelf) c.args.file (place_of c.loop-result.self)) i.reading c.in-More.ensures 0 [] (left_at (g.F.Shelf.view c.read_from.new.shelf) c.args.file (place_of c.step.new.self)) (sym untaken ∙ sym (prepend_none (left_at (g.F.Shelf.view c.read_from.new.shelf) c.args.file (place_of c.step.new.self)))) (omega arith)

pub returns-in-Err-clause-waits : goal.returns-in-Err-clause-waits
returns-in-Err-clause-waits g c =
    let i = c.loop-result.invariant in
    let place = c.place-at.ensures ∙ ap place_in c.in-More.ensures.3.same.reads in
    let untaken = ap (left_at (g.F.Shelf.view c.read_from.new.shelf) c.args.file) (sym c.place-at.ensures) ∙ c.in-Err.ensures.unread ∙ ap (left_at (g.F.Shelf.view c.loop-result.shelf) c.args.file) place in
    inr (waited c.args.self.now c.loop-result.self c.step.new.self c.loop-result.searched c.in-More.count (left_at (g.F.Shelf.view c.args.shelf.now) c.args.file (place_of c.args.self.now)) (left_at (g.F.Shelf.view c.loop-result.shelf) c.args.file (place_of c.loop-result.self)) i.reading c.in-More.ensures 65536 [] (left_at (g.F.Shelf.view c.read_from.new.shelf) c.args.file (place_of c.step.new.self)) (sym untaken ∙ sym (prepend_none (left_at (g.F.Shelf.view c.read_from.new.shelf) c.args.file (place_of c.step.new.self)))) (omega arith))

pub returns-in-Err-clause-past : goal.returns-in-Err-clause-past
returns-in-Err-clause-past g c = λ past.
    absurd (no_more c.args.self.now c.loop-result.self c.step.new.self c.loop-result.searched _ _ c.loop-result.invariant.reading past c.in-More.count c.in-More.ensures)

pub overflow_cast-at : goal.overflow_cast-at
overflow_cast-at g c =
    let self = c.step.new.self in
    let room = room_size c.loop-result.self self c.in-More.count c.in-More.ensures.3 in
    let within : self.dropped + length (items self.window) ≤ self.allowed = omega (arith, room, c.in-More.ensures.1, c.in-More.ensures.3.allowed) in
    omega (arith, c.place-at.ensures, self.placed, self.file_fits, within)

pub overflow_add-self : goal.overflow_add-self
overflow_add-self g c =
    let self = c.step.new.self in
    let room = room_size c.loop-result.self self c.in-More.count c.in-More.ensures.3 in
    let within : self.dropped + length (items self.window) ≤ self.allowed = omega (arith, room, c.in-More.ensures.1, c.in-More.ensures.3.allowed) in
    omega (arith, c.place-at.ensures, self.placed, self.file_fits, within, c.in-Ok.ensures.count)
