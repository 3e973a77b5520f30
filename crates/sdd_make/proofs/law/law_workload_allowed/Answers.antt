use Rattle.sdd_make.proofs.ValidWorkloads.{workload_valid}
use Rattle.sdd_make.proofs.law.law_workload_allowed.Goals as goal

pub returns : goal.returns
returns c = workload_valid c.args.seed c.args.n c.requires
