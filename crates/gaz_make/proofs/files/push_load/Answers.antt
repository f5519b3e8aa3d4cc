use Rattle.gaz_outside.specs.Listed.{listed}
use Rattle.gaz_make.proofs.Listing.{load_put}
use Rattle.gaz_make.proofs.files.push_load.Goals as goal

pub returns : goal.returns
returns c =
    load_put c.push_file-6.result (listed c.args.files.now.items) _ _ _ _ _ (listed c.push_file-6.new.files.items) c.args.table.items _ _ _ _ _
    c.new.ensures.items c.new-2.ensures.items c.new-3.ensures.items c.new-4.ensures.items c.new-5.ensures.items
    c.in_ok-push_file.ensures c.in_ok-push_file-2.ensures c.in_ok-push_file-3.ensures c.in_ok-push_file-4.ensures c.in_ok-push_file-5.ensures c.push_file-6.ensures
