use Rattle.sdd_copy.proofs.All.{map, rows_at, rows_for, take, ◌≡◌}
use Rattle.sdd_copy.proofs.space.Space.freeze.Given as goal

-- the uses so far, with their rows
abbrev pub invariant-loop-one : goal.invariant-loop-one
invariant-loop-one l = l.frozen.items ≡ map (λ u. (u.number, rows_for (rows_at l.copies.value) u)) (take l.one-index l.uses)
