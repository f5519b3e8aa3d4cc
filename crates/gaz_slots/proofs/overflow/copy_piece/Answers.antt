use Rattle.std.proofs.Common.{◌≡◌, ◌≤◌, ◌+◌, ◌-◌, ◌++◌, true, List, ℕ, length, take, drop, arith, sym, ap, refl, ◌∙◌, subst}
use Rattle.std.proofs.lemmas.List.{length-take}
use Rattle.gaz_page.specs.Free.{short_at}
use Rattle.gaz_slots.specs.Bytes.{edited}
use Rattle.gaz_slots.specs.Overflow.{is_overflow_page, piece_in, CopiesPiece}
use Rattle.gaz_slots.proofs.Edits.{front_written}
use Rattle.gaz_slots.proofs.PieceForm.{count_fits, length-piece}
use Rattle.gaz_slots.proofs.overflow.copy_piece.Goals as goal

-- the piece that is put into the buffer
copied : (number : ℕ) (page : List ℕ) (at n : ℕ) (old put new : List ℕ) → is_overflow_page number page ≡ true → 65535 ≤ length old → n ≡ short_at 2 page → put ≡ take (16 + n - 16) (drop 16 page) → new ≡ edited at put old → at + n ≤ 65535
    → CopiesPiece number page at old new n
copied number page at n old put new form room count is made within =
    let span : 16 + n - 16 ≡ n = omega arith in
    let piece : put ≡ piece_in page = is ∙ (λ i. take ((span ∙ count) i) (drop 16 page)) in
    let size : length put ≡ n = ap (λ (b : List ℕ). length b) piece ∙ length-piece number page form ∙ sym count in
    record {
      form = form;
      count = sym count;
      copied = (λ i. take (at + sym size i) (made i)) ∙ front_written at put old (omega (arith, size, room, within)) ∙ ap (λ (b : List ℕ). take at old ++ b) piece;
      within = within;
    }

pub slice_bounds-piece-end : goal.slice_bounds-piece-end
slice_bounds-piece-end c =
    let fit = count_fits c.args.number c.args.page.now (sym c.is_overflow.ensures ∙ c.if-not-is_overflow.false) in
    omega (arith, fit.1, c.short_at-count.ensures, c.requires.size)

pub put-requires : goal.put-requires
put-requires c = omega (arith, length-take (16 + c.short_at-count.result - 16) (drop 16 c.args.page.now), c.requires.room)

pub returns-then-next-eq0 : goal.returns-then-next-eq0
returns-then-next-eq0 c =
    let form = sym c.is_overflow.ensures ∙ c.if-not-is_overflow.false in
    (copied c.args.number c.args.page.now c.args.at c.short_at-count.result c.args.buf.now _ c.put.new.page form c.requires.room c.short_at-count.ensures refl c.put.ensures.page c.if-at-count-gt-LONGEST.false, sym c.number_at-next.ensures ∙ c.if-next-eq0.true)

pub returns : goal.returns
returns c =
    let form = sym c.is_overflow.ensures ∙ c.if-not-is_overflow.false in
    let fit = count_fits c.args.number c.args.page.now form in
    let full : c.short_at-count.result ≡ 4080 = omega (arith, fit.1, c.short_at-count.ensures) in (
      subst (λ (n : ℕ). CopiesPiece c.args.number c.args.page.now c.args.at c.args.buf.now c.put.new.page n) full
          (copied c.args.number c.args.page.now c.args.at c.short_at-count.result c.args.buf.now _ c.put.new.page form c.requires.room c.short_at-count.ensures refl c.put.ensures.page c.if-at-count-gt-LONGEST.false),
      sym c.number_at-next.ensures,
      c.if-next-eq0.false,
    )
