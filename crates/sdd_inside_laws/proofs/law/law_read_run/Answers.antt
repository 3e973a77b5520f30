use Rattle.sdd_inside_laws.proofs.RunRead.{of_inside}
use Rattle.sdd_inside_laws.proofs.law.law_read_run.Goals as goal

pub returns : goal.returns
returns g = of_inside
