use Rattle.sdd_ask.proofs.All.{Tells, closed, flag_at}
use Rattle.sdd_ask.proofs.flags.closed.Given as goal

-- closed under the numbers so far
abbrev pub invariant-classes : goal.invariant-classes
invariant-classes l = Tells l.all.items (closed (flag_at l.flags) l.k)
