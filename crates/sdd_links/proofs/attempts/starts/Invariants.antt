use Rattle.sdd_links.proofs.All.{attempts, find, get, is_attempt_of, pair_cmp, take, ℕ, ◌≡◌}
use Rattle.sdd_links.proofs.attempts.starts.Given as goal

abbrev pub invariant-loop-place : goal.invariant-loop-place
invariant-loop-place l = (n k : ℕ) → get pair_cmp l.made (n, k) ≡ find (is_attempt_of n k) (attempts (take l.place l.history))
