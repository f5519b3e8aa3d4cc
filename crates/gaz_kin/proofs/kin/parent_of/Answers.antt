use Rattle.std.proofs.Common.{◌≡◌, ◌≤◌, ℕ, refl, arith, rules}
use Rattle.std.proofs.lemmas.Grind.{common_steps}
use Rattle.gaz_plain.specs.Kin.{lists_of}
use Rattle.gaz_kin.specs.Reads.{most_for}
use Rattle.gaz_kin.proofs.Answered.{if_ok}
use Rattle.gaz_kin.proofs.Sought.{few_questions}
use Rattle.gaz_kin.proofs.kin.parent_of.Goals as goal

-- the store is given back as the rule left it
given_back : (left now most : ℕ) → left ≤ most → now ≡ left → now ≤ most
given_back left now most few same = omega (arith, few, same)

pub returns-clause-found : goal.returns-clause-found
returns-clause-found g c = if_ok _ _ c.parent.result (λ found over told gaz stands is. over (lists_of gaz) (record { told = told; gaz = gaz; stands = stands; are = refl }, is)) c.parent.ensures.found

pub returns-clause-few : goal.returns-clause-few
returns-clause-few g c told gaz stands =
    let few = c.parent.ensures.reads.most (most_for gaz) (λ k d below. record { told = told; gaz = gaz; stands = stands; reads = omega arith }) in
    let all = few_questions gaz c.args.row.now in
    given_back (g.P.Pages.view c.parent.new.kin.store.now.pages).reads _ _ (omega (arith, few, all)) (first_of (search rules, grind (arith, common_steps)))
