use Rattle.sdd_order.proofs.All.{drop, numbers_at, ◌++◌, ◌≡◌}
use Rattle.sdd_order.proofs.order.numbers_at.Given as goal

abbrev pub invariant-loop-place : goal.invariant-loop-place
invariant-loop-place l = l.made.items ++ numbers_at l.txns (drop l.place-index l.places) ≡ numbers_at l.txns l.places
