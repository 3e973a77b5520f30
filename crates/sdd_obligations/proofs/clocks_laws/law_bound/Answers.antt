use Rattle.sdd_obligations.proofs.Bounded.{greatest_below, height_few}
use Rattle.sdd_obligations.proofs.clocks_laws.law_bound.Goals as goal

pub returns-clause-within : goal.returns-clause-within
returns-clause-within g = height_few

pub returns-clause-low : goal.returns-clause-low
returns-clause-low g = greatest_below
