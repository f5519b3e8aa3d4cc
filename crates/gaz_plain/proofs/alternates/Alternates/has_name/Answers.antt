use Rattle.std.proofs.Common.{sym, ◌∙◌}
use Rattle.std.specs.Option.{option_copied}
use Rattle.gaz_num.specs.declared.words.Table.TheVariants.{Alternates as AltTable}
use Rattle.gaz_plain.specs.Gazetteer.{IsTable}
use Rattle.gaz_plain.proofs.PlacedNames.{placed_told}
use Rattle.gaz_plain.proofs.alternates.Alternates.has_name.Goals as goal

pub loop-id-init : goal.loop-id-init
loop-id-init c =
    let all = c.into_iter-id-iterator.ensures.into_iter_gives ∙ c.of_key-id-items.ensures.pairs in
    let are : IsTable AltTable c.self.inside.list = rw c.self.view_is c.requires in
    rw (all, ← c.self.view_is) (sym (placed_told c.args.wanted.now (option_copied c.args.lang) c.args.place c.self.inside.list c.self.inside.order are c.self.invariant))
