use Rattle.std.proofs.Common.{filter, not, take, ◌++◌, ◌≡◌}
use Rattle.sdd_robust_laws.specs.Accesses.{conflict}
use Rattle.sdd_robust.specs.Members.{lent}
use Rattle.sdd_robust.specs.declared.member.Member.{Member}
use Rattle.sdd_robust.proofs.linked.move_on.Given as goal

-- of those so far, some are reached now and the rest is left
abbrev pub invariant-left : goal.invariant-left
invariant-left l =
    (lent l.reached.items
    ≡ lent l.initial.reached.items ++ filter (λ (d : Member). conflict l.from.accesses d.accesses) (lent (take l.other-index l.left)))
    × (lent l.rest.items ≡ filter (λ (d : Member). not (conflict l.from.accesses d.accesses)) (lent (take l.other-index l.left)))
