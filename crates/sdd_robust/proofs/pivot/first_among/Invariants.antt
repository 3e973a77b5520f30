use Rattle.std.proofs.Common.{Contains, take, ◌≡◌}
use Rattle.sdd_robust_laws.specs.Shown.{IsDangerous}
use Rattle.sdd_robust.specs.Members.{kinds, lent}
use Rattle.sdd_robust.specs.declared.member.Member.{Member}
use Rattle.sdd_robust.proofs.pivot.first_among.Given as goal

-- none of those so far is a pivot
abbrev pub invariant-members : goal.invariant-members
invariant-members l =
    (l.conflicts ≡ l.initial.conflicts)
    × ((m : Member) → Contains (take l.member-index (lent l.few)) m → IsDangerous (kinds l.all) m.accesses → ⊥)
