use Rattle.std.proofs.Common.{false, ◌∙◌, sym, refl, arith}
use Rattle.std.proofs.Math.ListN.{length-set}
use Rattle.gaz_places.specs.declared.places.Link.{Link}
use Rattle.gaz_places.specs.Places.{found_in, most_in}
use Rattle.gaz_places.proofs.TakenOut.{taken_within, first_taken}
use Rattle.gaz_places.proofs.places.Places.unlink_first.Goals as goal

-- the place is one of those that there are
pub index-requires : goal.index-requires
unfolding found_in
index-requires c =
    let self = c.args.self.now in
    let within = taken_within self.heads.items self.links.items self.sizes self.few self.linked c.args.key c.args.place c.requires.found in
    omega (arith, within, self.links.ok.0)

pub index_mut-requires-2 : goal.index_mut-requires-2
unfolding found_in
index_mut-requires-2 c =
    let self = c.args.self.now in
    let within = taken_within self.heads.items self.links.items self.sizes self.few self.linked c.args.key c.args.place c.requires.found in
    omega (arith, within, self.links.ok.0)

-- the head of the bucket is the next place
pub invariant_of-self : goal.invariant_of-self
unfolding found_in
invariant_of-self c =
    let self = c.args.self.now in
    let link : Link = record { key = c.index_mut-2.result.now.key; next = c.index_mut-2.result.now.next; held = false } in
    let done = first_taken self.heads.items self.links.items self.sizes self.few self.linked c.args.key c.args.place c.requires.found c.len.result c.bucket-bucket.result (c.len.ensures ∙ self.heads.ok.0) c.bucket-bucket.ensures.is c.bucket-bucket.ensures.within c.requires.first (record { key = c.index_mut-2.result.now.key; next = c.index_mut-2.result.now.next; held = false }) refl c.index.result.now c.index.ensures in
    record {
      sizes = length-set self.heads.items c.bucket-bucket.result c.index.result.now.next ∙ self.sizes ∙ sym (length-set self.links.items c.args.place link);
      some = let some = self.some in omega (arith, some, length-set self.links.items c.args.place link);
      few = let few = self.few in omega (arith, few, length-set self.links.items c.args.place link);
      linked = done.linked;
    }

pub returns-clause-gone : goal.returns-clause-gone
unfolding found_in
returns-clause-gone c =
    let self = c.args.self.now in
    (first_taken self.heads.items self.links.items self.sizes self.few self.linked c.args.key c.args.place c.requires.found c.len.result c.bucket-bucket.result (c.len.ensures ∙ self.heads.ok.0) c.bucket-bucket.ensures.is c.bucket-bucket.ensures.within c.requires.first (record { key = c.index_mut-2.result.now.key; next = c.index_mut-2.result.now.next; held = false }) refl c.index.result.now c.index.ensures).gone

pub returns-clause-others : goal.returns-clause-others
unfolding found_in
returns-clause-others c =
    let self = c.args.self.now in
    (first_taken self.heads.items self.links.items self.sizes self.few self.linked c.args.key c.args.place c.requires.found c.len.result c.bucket-bucket.result (c.len.ensures ∙ self.heads.ok.0) c.bucket-bucket.ensures.is c.bucket-bucket.ensures.within c.requires.first (record { key = c.index_mut-2.result.now.key; next = c.index_mut-2.result.now.next; held = false }) refl c.index.result.now c.index.ensures).others

pub returns-clause-most : goal.returns-clause-most
unfolding most_in
returns-clause-most c = length-set c.args.self.now.links.items c.args.place (record { key = c.index_mut-2.result.now.key; next = c.index_mut-2.result.now.next; held = false })
