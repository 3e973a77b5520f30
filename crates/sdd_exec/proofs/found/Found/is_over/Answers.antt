use Rattle.sdd_exec.proofs.Distinct.{sorted_once}
use Rattle.sdd_exec.proofs.found.Found.is_over.Goals as goal

pub returns-then-self-clause-once : goal.returns-then-self-clause-once
returns-then-self-clause-once c = rw (← c.self.view_is, c.if-self.true) (sorted_once c.self.inside.set.keys c.len.ensures.ordered)
