use Rattle.std.proofs.Common.{Contains, false, take, ◌≡◌}
use Rattle.sdd_robust.specs.Members.{lent}
use Rattle.sdd_robust.specs.Pivots.{may_miss}
use Rattle.sdd_robust.specs.declared.member.Member.{Member}
use Rattle.sdd_robust.proofs.pivot.missing_among.Given as goal

-- none of those so far may miss a change of the pivot
abbrev pub invariant-others : goal.invariant-others
invariant-others l = (m : Member) → Contains (take l.other-index (lent l.other-items)) m → may_miss m.accesses l.pivot l.read ≡ false
