use Rattle.gaz_make.proofs.Draws.{last_drawn, row_drawn}
use Rattle.gaz_make.proofs.rows.Rows.next_row.Goals as goal

pub invariant_of-self : goal.invariant_of-self
invariant_of-self c = record {
  drawn = last_drawn c.args.self.now.start c.args.self.now.done c.args.self.now.last _ _ _ c.args.self.now.drawn c.next-latitude.ensures.is c.next-longitude.ensures.is c.next-population.ensures.is;
  within = c.next-population.ensures.within;
}

pub returns-clause-row : goal.returns-clause-row
returns-clause-row c = row_drawn c.args.self.now.start c.args.self.now.done c.args.self.now.last _ _ _ c.args.self.now.drawn c.next-latitude.ensures.is c.next-longitude.ensures.is c.next-population.ensures.is
