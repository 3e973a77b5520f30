use Rattle.std.proofs.Common.{filter, not, take, ◌≡◌}
use Rattle.sdd_robust_laws.specs.Accesses.{are_apart}
use Rattle.sdd_robust.specs.Members.{lent}
use Rattle.sdd_robust.specs.declared.member.Member.{Member}
use Rattle.sdd_robust.proofs.meanwhile.beside.Given as goal

-- those of the members so far that may run while the pivot does
abbrev pub invariant-members : goal.invariant-members
invariant-members l = lent l.found.items ≡ filter (λ (m : Member). not (are_apart l.pivot m.accesses)) (lent (take l.other-index l.members))
