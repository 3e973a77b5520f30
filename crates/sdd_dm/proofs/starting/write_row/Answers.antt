use Rattle.sdd_dm.proofs.Beginning.{not_written}
use Rattle.sdd_dm.proofs.starting.write_row.Goals as goal

pub returns-in-None-clause-value : goal.returns-in-None-clause-value
returns-in-None-clause-value c = not_written c.args.copies.now.value _ c.in-None.ensures
