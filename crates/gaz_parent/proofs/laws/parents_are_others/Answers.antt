use Rattle.gaz_parent.proofs.Others.{parents_others}
use Rattle.gaz_parent.proofs.Led.{parents_led_to}
use Rattle.gaz_parent.proofs.laws.parents_are_others.Goals as goal

pub returns-clause-others : goal.returns-clause-others
returns-clause-others c = parents_others

pub returns-clause-led_to : goal.returns-clause-led_to
returns-clause-led_to c = parents_led_to
