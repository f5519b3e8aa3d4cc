use Rattle.std.proofs.Common.{length, arith, ap}
use Rattle.std.proofs.lemmas.Slice.{drop-put_mid}
use Rattle.gaz_num.proofs.file_name.put.Goals as goal

pub returns-clause-rest : goal.returns-clause-rest
returns-clause-rest c =
    let after = c.copy_from_slice.ensures.after in
    drop-put_mid _ _ c.args.out.now c.copy_from_slice.new.self _ (omega arith) (omega arith) (omega (arith, ap (length {A = _}) after))
