use Rattle.sdd_progress.proofs.Timely.{few_redeclares, up_at_redeclares}
use Rattle.sdd_progress.proofs.succession_law.law_timely.Goals as goal

pub returns-clause-up : goal.returns-clause-up
returns-clause-up g = up_at_redeclares

pub returns-clause-listed : goal.returns-clause-listed
returns-clause-listed g = few_redeclares
