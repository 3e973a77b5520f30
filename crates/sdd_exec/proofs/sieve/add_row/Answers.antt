use Rattle.sdd_exec.proofs.Distinct.{there_where_no_longer}
use Rattle.sdd_exec.proofs.sieve.add_row.Goals as goal

pub returns-clause-there : goal.returns-clause-there
returns-clause-there c = λ same. there_where_no_longer c.args.rows.now c.args.row (rw (c.len-before.ensures, c.len.ensures, c.in_ok-add.ensures) at same)
