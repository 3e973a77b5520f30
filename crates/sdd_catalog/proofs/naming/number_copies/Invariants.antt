use Rattle.sdd_catalog.proofs.All.{map, take, ◌≡◌}
use Rattle.sdd_catalog.proofs.naming.number_copies.Given as goal

-- the numbers so far are those of the copies so far
abbrev pub invariant-loop-copy : goal.invariant-loop-copy
invariant-loop-copy l = l.numbers.items ≡ map (λ d. d.0) (take l.copy-index l.copies)
