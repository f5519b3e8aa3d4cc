use Rattle.std.proofs.Common.{◌≡◌, ℕ, ◌+◌, ◌-◌, List, ◌++◌, length, take, drop, Some, ap, sym, ◌∙◌}
use Rattle.std.proofs.lemmas.List.{take-append-drop, drop-drop, take_rest}
use Rattle.gaz_outside.specs.Outside.{left_of}
use Rattle.gaz_make.specs.Files.{request_text}
use Rattle.gaz_make.proofs.requests.MadeRequestsSource.take.Goals as goal

-- what was copied comes before what is left
taken_front : (bytes held buf : List ℕ) (at n : ℕ) → held ≡ bytes → take n buf ≡ take n (take (length held - at) (drop at held)) → drop at bytes ≡ take n buf ++ drop (at + n) bytes
taken_front bytes held buf at n is copied =
    sym (ap (λ xs. xs ++ drop (at + n) bytes) (copied ∙ ap (take n) (take_rest held at ∙ ap (drop at) is))
    ∙ ap (λ ys. take n (drop at bytes) ++ ys) (sym (drop-drop n at bytes))
    ∙ take-append-drop n (drop at bytes))

pub returns-clause-taken : goal.returns-clause-taken
unfolding left_of
returns-clause-taken c =
    ap Some (taken_front request_text c.made_requests.result.now c.copy_front-n.new.buf c.args.self.now.at c.copy_front-n.result c.made_requests.ensures c.copy_front-n.ensures.copied)
