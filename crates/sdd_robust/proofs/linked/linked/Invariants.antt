use Rattle.std.proofs.Common.{length, ◌+◌, ◌-◌}
use Rattle.sdd_robust.specs.Members.{lent}
use Rattle.sdd_robust.proofs.Flooding.{IsFlood}
use Rattle.sdd_robust.proofs.linked.linked.Given as goal

abbrev pub invariant-reached : goal.invariant-reached
invariant-reached l = IsFlood (lent l.beside) l.start (lent l.reached.items) (lent l.left.items) l.next

-- those that weren't gone through yet
abbrev pub decreases-reached : goal.decreases-reached
decreases-reached l = (length (lent l.reached.items) + length (lent l.left.items)) - l.next
