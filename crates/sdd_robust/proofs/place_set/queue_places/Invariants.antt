use Rattle.std.proofs.Common.{◌++◌, ◌≡◌}
use Rattle.sdd_robust.specs.PlaceSets.{word_places}
use Rattle.sdd_robust.proofs.place_set.queue_places.Given as goal

-- the places that are queued so far, and those of the bits that are left
abbrev pub invariant-bits : goal.invariant-bits
invariant-bits l = l.queue.items ++ word_places l.left l.first ≡ l.initial.queue.items ++ word_places l.word l.first

abbrev pub decreases-bits : goal.decreases-bits
decreases-bits l = l.left
