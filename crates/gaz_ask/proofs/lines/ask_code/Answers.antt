use Rattle.std.proofs.Common.{◌≤◌, ◌+◌, ◌*◌, [], arith}
use Rattle.std.proofs.Math.Nat.{mul-le-mul_right}
use Rattle.gaz_rows.specs.Found.{like_codes}
use Rattle.gaz_kin.proofs.Answered.{if_ok, if_err}
use Rattle.gaz_ask.proofs.lines.ask_code.Goals as goal

-- a store that waits for no key
pub returns-clause-line : goal.returns-clause-line
returns-clause-line g c = if_ok _ _ c.get_code.result (λ found answers told gaz stands. answers told [] gaz stands) c.get_code.ensures.line

pub returns-clause-damaged : goal.returns-clause-damaged
returns-clause-damaged g c = if_err _ _ c.get_code.result (λ fault sound told gaz stands. sound told [] gaz stands) c.get_code.ensures.damaged

pub returns-clause-reads : goal.returns-clause-reads
returns-clause-reads g c told gaz stands =
    let root = c.args.store.now.root in
    let low : 2 * root.height + 17 ≤ 29 = let shallow = stands.tree.shallow in omega (arith, shallow) in
    let most : (2 * root.height + 17) * (like_codes gaz c.args.code.now + 1) ≤ 29 * (like_codes gaz c.args.code.now + 1) = mul-le-mul_right (like_codes gaz c.args.code.now + 1) low in
    let read = c.get_code.ensures.few told [] gaz stands in
    omega (arith, read, most)
