use Rattle.gaz_open.proofs.Mirrored.{one_mirror, mirrored_is, same_areas, empty_mirror}
use Rattle.gaz_open.proofs.law.areas_mirror.Goals as goal

pub returns-clause-one : goal.returns-clause-one
returns-clause-one c areas gaz other a b = one_mirror areas gaz other a b

pub returns-clause-gazetteer : goal.returns-clause-gazetteer
returns-clause-gazetteer c areas gaz mirrors = mirrored_is areas gaz mirrors

pub returns-clause-same : goal.returns-clause-same
returns-clause-same c areas others same = same_areas areas others same

pub returns-clause-at_first : goal.returns-clause-at_first
returns-clause-at_first c areas none = empty_mirror areas none
