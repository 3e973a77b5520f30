use Rattle.std.proofs.Common.{Contains, take, ◌≡◌}
use Rattle.sdd_robust.specs.Members.{lent}
use Rattle.sdd_robust.specs.declared.member.Member.{Member}
use Rattle.sdd_robust.proofs.Pivots.{ClosesNone}
use Rattle.sdd_robust.proofs.Rests.{LeadNowhere}
use Rattle.sdd_robust.proofs.pivot.pivot_by.Given as goal

-- conflicts lead nowhere from those that aren't left, and by none of those so far it is a pivot
abbrev pub invariant-starts : goal.invariant-starts
invariant-starts l =
    (l.conflicts ≡ l.initial.conflicts)
    × LeadNowhere (lent l.few) l.pivot.accesses l.read l.left
    × ((m : Member) → Contains (take l.place (lent l.few)) m → ClosesNone (lent l.few) l.pivot.accesses l.read m)
