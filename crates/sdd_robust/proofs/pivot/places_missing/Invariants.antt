use Rattle.std.proofs.Common.{length, not, ◌&&◌, ◌+◌, ◌/◌, ◌≡◌}
use Rattle.sdd_robust_laws.specs.Accesses.{are_apart}
use Rattle.sdd_robust.specs.Members.{lent}
use Rattle.sdd_robust.specs.Pivots.{may_miss}
use Rattle.sdd_robust.proofs.PlaceSets.{HasBelow}
use Rattle.sdd_robust.proofs.pivot.places_missing.Given as goal

-- those so far that may miss a change of the pivot are found
abbrev pub invariant-places : goal.invariant-places
invariant-places l =
    (length l.found ≡ length l.few / 64 + 1)
    × HasBelow (λ m. not (are_apart l.pivot m.accesses) && may_miss m.accesses l.pivot l.read) (lent l.few) l.found l.place
