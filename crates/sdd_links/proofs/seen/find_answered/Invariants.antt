use Rattle.sdd_links.proofs.All.{Answered, get, take, triple_cmp}
use Rattle.sdd_links.proofs.seen.find_answered.Given as goal

abbrev pub invariant-loop-place : goal.invariant-loop-place
invariant-loop-place l = Answered (λ n k d. get triple_cmp l.made (n, k, d)) (take l.place l.history)
