use Rattle.sdd_acyclic.proofs.EachTable.{each_table}
use Rattle.sdd_acyclic.proofs.law.law_each_table.Goals as goal

pub returns : goal.returns
returns g = each_table
