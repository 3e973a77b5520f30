use Rattle.std.proofs.Common.{Contains, List, take, ◌≡◌}
use Rattle.sdd_robust_laws.specs.declared.access.Access.{Access}
use Rattle.sdd_robust.specs.Members.{kinds, lent}
use Rattle.sdd_robust.specs.Pivots.{Closes, beside}
use Rattle.sdd_robust.proofs.pivot.pivot_of.Given as goal

-- it isn't a pivot by one of its accesses so far
abbrev pub invariant-reads : goal.invariant-reads
invariant-reads l =
    (l.conflicts ≡ l.initial.conflicts)
    × ((read : Access) → Contains (take l.read-index l.pivot.accesses) read → (c a : List Access)
    → Closes (kinds (beside l.pivot.accesses (lent l.few))) l.pivot.accesses read c a → ⊥)
