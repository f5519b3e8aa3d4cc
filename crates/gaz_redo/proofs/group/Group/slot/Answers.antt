use Rattle.std.proofs.Common.{◌≡◌, ◌+◌, ◌-◌, ◌*◌, ℕ, length, take, drop, ◌∙◌, ap, arith, rules, length-drop}
use Rattle.std.proofs.lemmas.List.{take_all, length-take}
use Rattle.gaz_redo.proofs.Groups.{slot_shown}
use Rattle.gaz_redo.proofs.group.Group.slot.Goals as goal

pub returns-clause-shown : goal.returns-clause-shown
returns-clause-shown c =
    let group = c.args.self.now in
    let at = 4112 * (c.args.k - group.first) in
    let x = drop at group.bytes in
    let shown = take (at + 4112 - at) x in
    let home = c.home_in.result in
    let size : at + 4112 - at ≡ 4112 = omega arith in
    let room : length group.bytes ≡ 61680 = search rules in
    let within = group.within in
    let long : length shown ≡ 4112 = omega (arith, length-take (at + 4112 - at) x, length-drop at group.bytes, size, room, within) in
    let all : take (length shown - 16) (drop 16 shown) ≡ drop 16 shown = take_all (length shown - 16) (drop 16 shown) (omega (arith, length-drop 16 shown)) in
    (λ i. record { area = home.area; page = home.page; image = all i })
    ∙ slot_shown x shown home.area home.page (ap (λ (n : ℕ). take n x) size) long c.home_in.ensures.area c.home_in.ensures.page
