use Rattle.sdd_exec.proofs.All.{sym, ◌∙◌}
use Rattle.sdd_exec.proofs.plan.rows_by.Goals as goal

pub returns-in-Some-clause-rows : goal.returns-in-Some-clause-rows
returns-in-Some-clause-rows c = λ q. (rw c.in-Some.is at c.in_ok-found.ensures) c.args.ties.now (sym c.in_ok-columns.ensures ∙ sym c.as_slice-2.ensures.value) q
