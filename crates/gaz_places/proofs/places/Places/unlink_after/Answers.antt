use Rattle.std.proofs.Common.{◌≡◌, false, length, set, ◌∙◌, sym, refl, arith}
use Rattle.std.proofs.Math.ListN.{length-set}
use Rattle.gaz_places.specs.declared.places.Link.{Link}
use Rattle.gaz_places.specs.Places.{found_in, most_in}
use Rattle.gaz_places.proofs.TakenOut.{taken_within, later_taken}
use Rattle.gaz_places.proofs.places.Places.unlink_after.Goals as goal

-- the place is one of those that there are
pub index-requires : goal.index-requires
unfolding found_in
index-requires c =
    let self = c.args.self.now in
    let within = taken_within self.heads.items self.links.items self.sizes self.few self.linked c.args.key c.args.place c.requires.found in
    omega (arith, within, self.links.ok.0)

pub index_mut-requires-2 : goal.index_mut-requires-2
unfolding found_in
index_mut-requires-2 c =
    let self = c.args.self.now in
    let within = taken_within self.heads.items self.links.items self.sizes self.few self.linked c.args.key c.args.place c.requires.found in
    omega (arith, within, self.links.ok.0)

-- the place before leads to the next one
pub invariant_of-self : goal.invariant_of-self
unfolding found_in
invariant_of-self c =
    let self = c.args.self.now in
    let front : Link = record { key = c.index_mut.result.now.key; next = c.index.result.now.next; held = c.index_mut.result.now.held } in
    let link : Link = record { key = c.index_mut-2.result.now.key; next = c.index_mut-2.result.now.next; held = false } in
    let lengths : length (set (set self.links.items c.args.before front) c.args.place link) ≡ length self.links.items = length-set (set self.links.items c.args.before front) c.args.place link ∙ length-set self.links.items c.args.before front in
    let done = later_taken self.heads.items self.links.items self.sizes self.few self.linked c.args.key c.args.place c.requires.found c.args.before c.requires.after c.requires.next c.index.result.now c.index_mut.result.now c.index.ensures c.index_mut.ensures.value (record { key = c.index_mut-2.result.now.key; next = c.index_mut-2.result.now.next; held = false }) refl in
    record {
      sizes = self.sizes ∙ sym lengths;
      some = let some = self.some in omega (arith, some, lengths);
      few = let few = self.few in omega (arith, few, lengths);
      linked = done.linked;
    }

pub returns-clause-gone : goal.returns-clause-gone
unfolding found_in
returns-clause-gone c =
    let self = c.args.self.now in
    (later_taken self.heads.items self.links.items self.sizes self.few self.linked c.args.key c.args.place c.requires.found c.args.before c.requires.after c.requires.next c.index.result.now c.index_mut.result.now c.index.ensures c.index_mut.ensures.value (record { key = c.index_mut-2.result.now.key; next = c.index_mut-2.result.now.next; held = false }) refl).gone

pub returns-clause-others : goal.returns-clause-others
unfolding found_in
returns-clause-others c =
    let self = c.args.self.now in
    (later_taken self.heads.items self.links.items self.sizes self.few self.linked c.args.key c.args.place c.requires.found c.args.before c.requires.after c.requires.next c.index.result.now c.index_mut.result.now c.index.ensures c.index_mut.ensures.value (record { key = c.index_mut-2.result.now.key; next = c.index_mut-2.result.now.next; held = false }) refl).others

pub returns-clause-most : goal.returns-clause-most
unfolding most_in
returns-clause-most c =
    let front : Link = record { key = c.index_mut.result.now.key; next = c.index.result.now.next; held = c.index_mut.result.now.held } in
    length-set (set c.args.self.now.links.items c.args.before front) c.args.place (record { key = c.index_mut-2.result.now.key; next = c.index_mut-2.result.now.next; held = false }) ∙ length-set c.args.self.now.links.items c.args.before front
