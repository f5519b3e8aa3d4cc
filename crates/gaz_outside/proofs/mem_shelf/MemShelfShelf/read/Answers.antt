use Rattle.std.proofs.Common.{rules, length}
use Rattle.gaz_outside.specs.Outside.{bytes_of}
use Rattle.gaz_outside.proofs.Places.{open_within, open_bytes, part_copied, count_copied, none_copied}
use Rattle.gaz_outside.proofs.mem_shelf.MemShelfShelf.read.Goals as goal

pub returns-clause-bytes : goal.returns-clause-bytes
unfolding bytes_of
returns-clause-bytes c =
    let within = open_within c.args.self.now.files.items c.args.self.now.is_open.items c.args.file c.requires in
    rw (open_bytes c.args.self.now.files.items c.args.self.now.is_open.items c.args.file c.index.result.now c.args.self.now.last c.requires within)
    (part_copied _ c.deref-2.result.now c.copy_front.new.buf c.args.at c.min-start.result c.copy_front.result (search rules) (search rules) c.copy_front.ensures.copied)

pub returns-clause-whole : goal.returns-clause-whole
unfolding bytes_of
returns-clause-whole c =
    let within = open_within c.args.self.now.files.items c.args.self.now.is_open.items c.args.file c.requires in
    rw (open_bytes c.args.self.now.files.items c.args.self.now.is_open.items c.args.file c.index.result.now c.args.self.now.last c.requires within)
    (count_copied _ c.deref-2.result.now c.args.at c.min-start.result c.copy_front.result (length c.args.buf.now) (search rules) (search rules) c.copy_front.ensures.count)

pub returns-clause-end : goal.returns-clause-end
unfolding bytes_of
returns-clause-end c =
    let within = open_within c.args.self.now.files.items c.args.self.now.is_open.items c.args.file c.requires in
    rw (open_bytes c.args.self.now.files.items c.args.self.now.is_open.items c.args.file c.index.result.now c.args.self.now.last c.requires within)
    (none_copied _ c.args.at c.copy_front.result (length c.args.buf.now) (count_copied _ c.deref-2.result.now c.args.at c.min-start.result c.copy_front.result (length c.args.buf.now) (search rules) (search rules) c.copy_front.ensures.count))
