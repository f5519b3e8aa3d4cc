use Rattle.std.proofs.Common.{◌≡◌, ℕ, true, false, [], ◌∷◌, List, Some, sym, ap, ◌∙◌}
use Rattle.std.specs.Prelude.{◌==◌, slice_index}
use Rattle.std.proofs.lemmas.Bool.{ne_eqb}
use Rattle.gaz_num.specs.declared.words.Table.TheVariants.{Alternates}
use Rattle.gaz_pick.specs.Asked.{asked}
use Rattle.gaz_plain.specs.Gazetteer.{line_with}
use Rattle.gaz_leaf.specs.Node.{key_of}
use Rattle.gaz_plan.specs.Gathered.{by_alternate, is_alternate}
use Rattle.gaz_plan.specs.Searched.{place_named}
use Rattle.gaz_plan.specs.Wanted.{wanted_of}
use Rattle.gaz_plan.proofs.Gathering.{candidate_other, candidate_own}
use Rattle.gaz_plan.proofs.Numbers.{number_bytes}
use Rattle.gaz_plan.proofs.gather.candidate_by.Goals as goal

pub returns-then-key-ne-ALTERNATE-clause-led : goal.returns-then-key-ne-ALTERNATE-clause-led
returns-then-key-ne-ALTERNATE-clause-led g c told gaz stands =
    let n = key_of c.args.key.now in
    let own : is_alternate n ≡ false = ap (λ (k : List ℕ). slice_index k 23 == 2) (number_bytes c.args.key.now c.told-key (λ i. c.fits-key i)) ∙ ne_eqb (slice_index c.args.key.now 23) 2 c.if-key-ne-ALTERNATE.true in
    ap (λ (id : ℕ). Some (record { place = id; by_own = true })) c.number_at-place.ensures ∙ sym (candidate_own gaz (asked c.args.query.now) n own)

pub returns-in-Ok-Some-clause-led : goal.returns-in-Ok-Some-clause-led
returns-in-Ok-Some-clause-led g c told gaz stands =
    let n = key_of c.args.key.now in
    let a = asked c.args.query.now in
    let of : is_alternate n ≡ true = ap (λ (k : List ℕ). slice_index k 23 == 2) (number_bytes c.args.key.now c.told-key (λ i. c.fits-key i)) ∙ ap (λ s. s == 2) c.if-key-ne-ALTERNATE.false in
    ap by_alternate (rw c.in-Ok-Some.field-0-is at (c.in-Ok-Some.ensures.named told gaz stands))
    ∙ ap (λ (id : ℕ). by_alternate (place_named (wanted_of a.name) a.lang (line_with Alternates (id ∷ []) gaz))) c.number_at-alternate.ensures
    ∙ sym (candidate_other gaz a n of)

pub returns-in-Ok-None-clause-led : goal.returns-in-Ok-None-clause-led
returns-in-Ok-None-clause-led g c told gaz stands =
    let n = key_of c.args.key.now in
    let a = asked c.args.query.now in
    let of : is_alternate n ≡ true = ap (λ (k : List ℕ). slice_index k 23 == 2) (number_bytes c.args.key.now c.told-key (λ i. c.fits-key i)) ∙ ap (λ s. s == 2) c.if-key-ne-ALTERNATE.false in
    ap by_alternate (rw c.in-Ok-None.field-0-is at (c.in-Ok-None.ensures.named told gaz stands))
    ∙ ap (λ (id : ℕ). by_alternate (place_named (wanted_of a.name) a.lang (line_with Alternates (id ∷ []) gaz))) c.number_at-alternate.ensures
    ∙ sym (candidate_other gaz a n of)

pub returns-in-Ok-Some-clause-reads : goal.returns-in-Ok-Some-clause-reads
returns-in-Ok-Some-clause-reads g c =
    let of : is_alternate (key_of c.args.key.now) ≡ true = ap (λ (k : List ℕ). slice_index k 23 == 2) (number_bytes c.args.key.now c.told-key (λ i. c.fits-key i)) ∙ ap (λ s. s == 2) c.if-key-ne-ALTERNATE.false in
    rw of c.in-Ok-Some.ensures.reads

pub returns-in-Ok-None-clause-reads : goal.returns-in-Ok-None-clause-reads
returns-in-Ok-None-clause-reads g c =
    let of : is_alternate (key_of c.args.key.now) ≡ true = ap (λ (k : List ℕ). slice_index k 23 == 2) (number_bytes c.args.key.now c.told-key (λ i. c.fits-key i)) ∙ ap (λ s. s == 2) c.if-key-ne-ALTERNATE.false in
    rw of c.in-Ok-None.ensures.reads

pub returns-in-Err-clause-reads : goal.returns-in-Err-clause-reads
returns-in-Err-clause-reads g c =
    let of : is_alternate (key_of c.args.key.now) ≡ true = ap (λ (k : List ℕ). slice_index k 23 == 2) (number_bytes c.args.key.now c.told-key (λ i. c.fits-key i)) ∙ ap (λ s. s == 2) c.if-key-ne-ALTERNATE.false in
    rw of c.in-Err.ensures.reads
