use Rattle.gaz_plain.proofs.Kept.{fold_gives, part_gives, load_gives, day_gives}
use Rattle.gaz_plain.proofs.laws.keeps_gazetteers.Goals as goal

pub returns : goal.returns
returns c = record { fold = fold_gives; part = part_gives; load = load_gives; day = day_gives }
