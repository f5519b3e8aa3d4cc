use Rattle.gaz_outside.specs.Listed.{listed}
use Rattle.gaz_make.proofs.Listing.{day_put}
use Rattle.gaz_make.proofs.files.push_day.Goals as goal

pub returns : goal.returns
returns c =
    day_put c.push_file-4.result (listed c.args.files.now.items) _ _ _ (listed c.push_file-4.new.files.items) c.args.changed.items c.args.deleted.items _ _
    c.new.ensures.items c.new-2.ensures.items
    c.in_ok-push_file.ensures c.in_ok-push_file-2.ensures c.in_ok-push_file-3.ensures c.push_file-4.ensures
