use Rattle.std.proofs.Common.{◌≡◌, length, ap, arith}
use Rattle.gaz_page.specs.TreeRoot.{tree_root_bytes}
use Rattle.gaz_redo.specs.Images.{slot_for}
use Rattle.gaz_install.specs.Next.{root_home, with_root}
use Rattle.gaz_install.proofs.Moments.{none_moves}
use Rattle.gaz_install.proofs.Roots.{length-with_image}
use Rattle.gaz_install.proofs.installing.install.Goals as goal

-- nothing was called
pub returns-in-Err-clause-moments : goal.returns-in-Err-clause-moments
returns-in-Err-clause-moments g c told first next holds is =
    none_moves (g.T.Station.view c.args.station.now) first next (λ o left. g.met.T.Station.only_now c.args.station.now o told left) holds

pub install_prepared-requires-clause-pages : goal.install_prepared-requires-clause-pages
install_prepared-requires-clause-pages g c told = record { changed = c.args.images.now; all_are = c.in-Ok.ensures.set; may = c.requires.pages told }

pub returns-in-Ok-install_prepared-clause-moments : goal.returns-in-Ok-install_prepared-clause-moments
returns-in-Ok-install_prepared-clause-moments g c told first next holds is =
    c.install_prepared.ensures.moments told first next holds
    (record { prepared = record { changed = c.args.images.now; all_are = c.in-Ok.ensures.set; may = c.requires.pages told }; stands = is })

pub returns-in-Ok-install_prepared-clause-installed : goal.returns-in-Ok-install_prepared-clause-installed
returns-in-Ok-install_prepared-clause-installed g c told next is =
    c.in-Ok-install_prepared.ensures.installed told next
    (record { prepared = record { changed = c.args.images.now; all_are = c.in-Ok.ensures.set; may = c.requires.pages told }; stands = is })

pub returns-in-Ok-install_prepared-clause-writes : goal.returns-in-Ok-install_prepared-clause-writes
returns-in-Ok-install_prepared-clause-writes g c =
    let more = length-with_image (slot_for root_home (tree_root_bytes c.args.root)) c.args.images.now in
    let same : length c.prepare.new.images ≡ length (with_root c.args.root c.args.images.now) = ap length c.in-Ok.ensures.set in
    let writes = c.install_prepared.ensures.writes in
    omega (arith, more, same, writes)

pub returns-in-Err-install_prepared-clause-moments : goal.returns-in-Err-install_prepared-clause-moments
returns-in-Err-install_prepared-clause-moments g c told first next holds is =
    c.install_prepared.ensures.moments told first next holds
    (record { prepared = record { changed = c.args.images.now; all_are = c.in-Ok.ensures.set; may = c.requires.pages told }; stands = is })

pub returns-in-Err-install_prepared-clause-writes : goal.returns-in-Err-install_prepared-clause-writes
returns-in-Err-install_prepared-clause-writes g c =
    let more = length-with_image (slot_for root_home (tree_root_bytes c.args.root)) c.args.images.now in
    let same : length c.prepare.new.images ≡ length (with_root c.args.root c.args.images.now) = ap length c.in-Ok.ensures.set in
    let writes = c.install_prepared.ensures.writes in
    omega (arith, more, same, writes)
