use Rattle.sdd_progress.proofs.FromTable.{conditions_of}
use Rattle.sdd_progress.proofs.pipes_laws.law_conditions_in_table.Goals as goal

pub returns : goal.returns
returns g = conditions_of
