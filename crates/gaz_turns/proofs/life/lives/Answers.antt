use Rattle.gaz_turns.proofs.Follow.{live}
use Rattle.gaz_turns.proofs.life.lives.Goals as goal

pub returns : goal.returns
returns g c = record {
  law = λ life follows begins keep. live g.T.Station.view g.met.T.Station.counts_now g.met.T.Station.may_stay life follows begins keep;
  runs = λ run told keeps. (told, keeps);
}
