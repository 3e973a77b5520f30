use Rattle.sdd_history_examples.proofs.Misses.{misses_both_breaks}
use Rattle.sdd_history_examples.proofs.law.law_conditions_needed.Goals as goal

pub returns : goal.returns
returns g = misses_both_breaks
