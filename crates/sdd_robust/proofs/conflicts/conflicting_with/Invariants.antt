use Rattle.std.proofs.Common.{length, ◌+◌, ◌/◌, ◌≡◌}
use Rattle.sdd_robust_laws.specs.Accesses.{conflict}
use Rattle.sdd_robust.specs.Members.{lent}
use Rattle.sdd_robust.proofs.PlaceSets.{HasBelow}
use Rattle.sdd_robust.proofs.conflicts.conflicting_with.Given as goal

-- those so far with which it conflicts are found
abbrev pub invariant-places : goal.invariant-places
invariant-places l =
    (length l.found ≡ length l.members / 64 + 1) × HasBelow (λ m. conflict l.one.accesses m.accesses) (lent l.members) l.found l.place
