use Rattle.std.proofs.Common.{refl, arith, inl, inr}
use Rattle.gaz_make.specs.Made.{made_table}
use Rattle.gaz_serve.proofs.top.make_all.Goals as goal

pub returns-in-Ok : goal.returns-in-Ok
returns-in-Ok g c = let e = c.make.ensures in record {
  ends = (made_table c.args.start c.args.rows, c.in-Ok.ensures.printed, inl (refl, refl));
  station_failed = λ is. absurd (omega (arith, is));
  station_kept = λ _. c.in-Ok.ensures.cause.kept;
  told = e.told;
  areas = e.areas;
  others = inl refl;
  complete = λ _. refl;
}

pub returns-in-Err : goal.returns-in-Err
returns-in-Err g c = let e = c.make.ensures in let cut = c.in-Err.ensures.printed in let rose = c.in-Err.ensures.cause.failed in record {
  ends = (cut.0, cut.2, inr (refl, cut.1));
  station_failed = λ _. rose;
  station_kept = λ not. absurd (not refl);
  told = e.told;
  areas = e.areas;
  others = inr refl;
  complete = λ none. absurd (none (omega (arith, rose)));
}
