use Rattle.std.proofs.Common.{sym, ◌∙◌}
use Rattle.std.proofs.lemmas.Slice.Eq.{bytes_eq-Decides}
use Rattle.gaz_kin.proofs.kept.Path.is_same.Goals as goal

pub returns-then-self-other-clause-bytes : goal.returns-then-self-other-clause-bytes
returns-then-self-other-clause-bytes c is = (bytes_eq-Decides c.args.self.now.bytes c.args.other.now.bytes).0 (sym c.eq.ensures ∙ is)
