use Rattle.std.proofs.Common.{true, ◌∙◌, sym, arith}
use Rattle.std.proofs.Math.ListN.{length-set}
use Rattle.gaz_places.specs.declared.places.Link.{Link}
use Rattle.gaz_places.specs.Places.{found_in, most_in}
use Rattle.gaz_places.proofs.Put.{put_in}
use Rattle.gaz_places.proofs.places.Places.put.Goals as goal

pub index_mut-requires : goal.index_mut-requires
unfolding most_in
index_mut-requires c = let within = c.requires.within in omega (arith, within, c.args.self.now.links.ok.0)

-- the place stands before the others of its bucket
pub invariant_of-self : goal.invariant_of-self
unfolding found_in most_in
invariant_of-self c =
    let self = c.args.self.now in
    let link : Link = record { key = c.args.key; next = c.index.result.now; held = true } in
    let done = put_in self.heads.items self.links.items self.sizes self.few self.linked c.args.key c.args.place c.requires.within c.requires.new c.requires.unused c.len.result c.bucket-bucket.result c.index.result.now (c.len.ensures ∙ self.heads.ok.0) c.bucket-bucket.ensures.is c.bucket-bucket.ensures.within c.index.ensures in
    record {
      sizes = length-set self.heads.items c.bucket-bucket.result c.args.place ∙ self.sizes ∙ sym (length-set self.links.items c.args.place link);
      some = let some = self.some in omega (arith, some, length-set self.links.items c.args.place link);
      few = let few = self.few in omega (arith, few, length-set self.links.items c.args.place link);
      linked = done.linked;
    }

pub returns-clause-here : goal.returns-clause-here
unfolding found_in most_in
returns-clause-here c =
    let self = c.args.self.now in
    (put_in self.heads.items self.links.items self.sizes self.few self.linked c.args.key c.args.place c.requires.within c.requires.new c.requires.unused c.len.result c.bucket-bucket.result c.index.result.now (c.len.ensures ∙ self.heads.ok.0) c.bucket-bucket.ensures.is c.bucket-bucket.ensures.within c.index.ensures).here

pub returns-clause-others : goal.returns-clause-others
unfolding found_in most_in
returns-clause-others c =
    let self = c.args.self.now in
    (put_in self.heads.items self.links.items self.sizes self.few self.linked c.args.key c.args.place c.requires.within c.requires.new c.requires.unused c.len.result c.bucket-bucket.result c.index.result.now (c.len.ensures ∙ self.heads.ok.0) c.bucket-bucket.ensures.is c.bucket-bucket.ensures.within c.index.ensures).others

pub returns-clause-most : goal.returns-clause-most
unfolding most_in
returns-clause-most c = length-set c.args.self.now.links.items c.args.place (record { key = c.args.key; next = c.index.result.now; held = true })
