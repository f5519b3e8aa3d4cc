use Rattle.std.proofs.Common.{◌≡◌, ◌+◌, ◌*◌, ◌-◌, ◌∷◌, ◌++◌, [], ◌∙◌, ℕ, List, ap, sym, refl, arith}
use Rattle.gaz_make.specs.Files.{delete_line}
use Rattle.gaz_make.proofs.Lines.{none_by, more_put}
use Rattle.gaz_make.proofs.files.deletes.Goals as goal

pub loop-thousand-init : goal.loop-thousand-init
loop-thousand-init c = c.new-bytes.ensures.items ∙ sym (none_by (λ (k : ℕ). delete_line (1000 * k - 1)))

place : (n : ℕ) → 1000 * n + 999 ≡ 1000 * (n + 1) - 1
place n = omega arith

pub loop-thousand-preserved : goal.loop-thousand-preserved
loop-thousand-preserved c =
    let n = c.loop-thousand.thousand in
    let bytes = c.loop-thousand.bytes.items in
    let line = delete_line (1000 * n + 999) in
    more_put (λ (k : ℕ). delete_line (1000 * k - 1)) [] bytes c.extend_from_slice.new.self.items line n (n + 1) refl (ap delete_line (place n))
    (c.in_ok-extend_from_slice.ensures.items ∙ ap (λ (xs : List ℕ). bytes ++ xs) (c.text.ensures ∙ c.push_delete.ensures.text ∙ ap (λ (xs : List ℕ). xs ++ (line ++ 10 ∷ [])) c.clear.ensures))
    c.loop-thousand.invariant
