use Rattle.sdd_links.proofs.All.{Applied, get, pair_cmp, take}
use Rattle.sdd_links.proofs.seen.find_applied.Given as goal

abbrev pub invariant-loop-place : goal.invariant-loop-place
invariant-loop-place l = Applied (λ n d. get pair_cmp l.made (n, d)) (take l.place l.history)
