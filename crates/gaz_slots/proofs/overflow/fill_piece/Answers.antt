use Rattle.std.proofs.Common.{◌≡◌, ℕ, List, true, ◌∙◌, sym, ap, subst, arith}
use Rattle.gaz_slots.specs.Bytes.{edited}
use Rattle.gaz_slots.specs.Overflow.{is_overflow_page, next_in, piece_in}
use Rattle.gaz_slots.proofs.PieceFilled.{with_head, next_filled, form_filled, piece_filled, Asks}
use Rattle.gaz_slots.proofs.overflow.fill_piece.Goals as goal

pub returns-clause-form : goal.returns-clause-form
returns-clause-form c =
    let is : c.put-2.new.page ≡ with_head c.args.number c.args.next c.args.piece.now c.args.page.now = c.put-2.ensures.page ∙ ap (λ (p : List ℕ). edited 16 c.args.piece.now p) (c.put.ensures.page ∙ ap (λ (h : List ℕ). edited 0 h c.args.page.now) c.head.ensures) in
    let asks : Asks c.args.number c.args.next c.args.piece.now c.args.page.now = record { size = c.requires.size; some = c.requires.some; short = c.requires.short; own = omega arith; link = omega arith } in
    subst (λ (p : List ℕ). is_overflow_page c.args.number p ≡ true) (sym is) (form_filled c.args.number c.args.next c.args.piece.now c.args.page.now asks)

pub returns-clause-next : goal.returns-clause-next
returns-clause-next c =
    let is : c.put-2.new.page ≡ with_head c.args.number c.args.next c.args.piece.now c.args.page.now = c.put-2.ensures.page ∙ ap (λ (p : List ℕ). edited 16 c.args.piece.now p) (c.put.ensures.page ∙ ap (λ (h : List ℕ). edited 0 h c.args.page.now) c.head.ensures) in
    let asks : Asks c.args.number c.args.next c.args.piece.now c.args.page.now = record { size = c.requires.size; some = c.requires.some; short = c.requires.short; own = omega arith; link = omega arith } in
    ap (λ (p : List ℕ). next_in p) is ∙ next_filled c.args.number c.args.next c.args.piece.now c.args.page.now asks

pub returns-clause-piece : goal.returns-clause-piece
returns-clause-piece c =
    let is : c.put-2.new.page ≡ with_head c.args.number c.args.next c.args.piece.now c.args.page.now = c.put-2.ensures.page ∙ ap (λ (p : List ℕ). edited 16 c.args.piece.now p) (c.put.ensures.page ∙ ap (λ (h : List ℕ). edited 0 h c.args.page.now) c.head.ensures) in
    let asks : Asks c.args.number c.args.next c.args.piece.now c.args.page.now = record { size = c.requires.size; some = c.requires.some; short = c.requires.short; own = omega arith; link = omega arith } in
    ap (λ (p : List ℕ). piece_in p) is ∙ piece_filled c.args.number c.args.next c.args.piece.now c.args.page.now asks
