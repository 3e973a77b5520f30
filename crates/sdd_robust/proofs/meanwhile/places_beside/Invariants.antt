use Rattle.std.proofs.Common.{length, not, ◌+◌, ◌/◌, ◌≡◌}
use Rattle.sdd_robust_laws.specs.Accesses.{are_apart}
use Rattle.sdd_robust.specs.Members.{lent}
use Rattle.sdd_robust.proofs.PlaceSets.{HasBelow}
use Rattle.sdd_robust.proofs.meanwhile.places_beside.Given as goal

-- those so far that may run while the pivot does are found
abbrev pub invariant-places : goal.invariant-places
invariant-places l =
    (length l.found ≡ length l.members / 64 + 1) × HasBelow (λ m. not (are_apart l.pivot m.accesses)) (lent l.members) l.found l.place
