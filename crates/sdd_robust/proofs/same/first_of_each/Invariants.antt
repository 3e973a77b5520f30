use Rattle.std.proofs.Common.{take}
use Rattle.sdd_robust.specs.Members.{StandFor, lent}
use Rattle.sdd_robust.proofs.same.first_of_each.Given as goal

-- some of the members so far, which stand for all of them
abbrev pub invariant-members : goal.invariant-members
invariant-members l = StandFor (take l.member-index l.all) (lent l.found.items)
