-- Links and their pairs, after each edit.
use Rattle.std.proofs.Common.{◌≡◌, ◌≢◌, ℕ, true, false, true≢false, List, [], ◌∷◌, sym, ap, subst, ◌∙◌}
use Rattle.std.specs.Prelude.{Result, Ok, Err, OnErr, OnOk, unwrap_or, slice_get}
use Rattle.std.specs.Str.{bytes_eq}
use Rattle.std.proofs.lemmas.Slice.Eq.{bytes_eq-Decides}
use Rattle.gaz_num.specs.declared.words.Table.TheVariants.{Links}
use Rattle.gaz_tables.specs.declared.link.LinkKey.{LinkKey}
use Rattle.gaz_tables.specs.Keys.{class_number, key_numbers}
use Rattle.gaz_pick.proofs.OrderLemmas.{by_test}
use Rattle.gaz_plain.specs.Places.{IsKeyOf, with_line}
use Rattle.gaz_plain.specs.Ordered.{Keeps, HasLink, AreLinked, up_number, down_number}
use Rattle.gaz_plain.proofs.OrderedLemmas.{found_other}

module _ (links : List (List ℕ)) (old : List (ℕ × ℕ)) (are : AreLinked links old) where
  pub still_linked : (new : List (ℕ × ℕ)) → Keeps old new → AreLinked links new
  still_linked new keeps child class parent link at =
      let had = are child class parent link at in
      (keeps (up_number child class) parent had.0, keeps (down_number parent) child had.1)

  module _ (key : LinkKey) (line : List ℕ) (keyed : IsKeyOf Links (key_numbers key) line) (new : List (ℕ × ℕ)) (keeps : Keeps old new) (has : HasLink key.child (class_number key.class) key.parent new) where
    pub put_linked : AreLinked (with_line Links (key_numbers key) line links) new
    put_linked child class parent link at =
        let asked = child ∷ class ∷ parent ∷ [] in
        by_test (bytes_eq asked (key_numbers key))
        (λ is.
        let same : key_numbers key ≡ asked = sym ((bytes_eq-Decides asked (key_numbers key)).0 is) in
        let c : key.child ≡ child = ap (λ (ns : List ℕ). unwrap_or (slice_get ns 0) 0) same in
        let n : class_number key.class ≡ class = ap (λ (ns : List ℕ). unwrap_or (slice_get ns 1) 0) same in
        let p : key.parent ≡ parent = ap (λ (ns : List ℕ). unwrap_or (slice_get ns 2) 0) same in
        subst (λ m. HasLink child class m new) p (subst (λ m. HasLink child m key.parent new) n (subst (λ m. HasLink m (class_number key.class) key.parent new) c has)))
        (λ isnt.
        let differs : asked ≢ key_numbers key = λ same. true≢false (sym ((bytes_eq-Decides asked (key_numbers key)).1 same) ∙ isnt) in
        still_linked new keeps child class parent link (sym (found_other Links (key_numbers key) links line asked keyed differs) ∙ at))

    -- whether it was put or not
    pub stepped_linked : {T E : Type 0} (lines : List (List ℕ)) (result : Result T E) → OnOk result (lines ≡ with_line Links (key_numbers key) line links) → OnErr result (lines ≡ links) → AreLinked lines new
    stepped_linked lines (Ok done) ok err = subst (λ ls. AreLinked ls new) (sym ok) put_linked
    stepped_linked lines (Err error) ok err = subst (λ ls. AreLinked ls new) (sym err) (still_linked new keeps)
