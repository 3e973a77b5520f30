use Rattle.sdd_links.proofs.All.{attempts, committed_of, filter_map, placed, take, ◌≡◌}
use Rattle.sdd_links.proofs.attempts.find_committed.Given as goal

abbrev pub invariant-loop-place : goal.invariant-loop-place
invariant-loop-place l = l.made.items ≡ filter_map (committed_of (attempts l.history)) (placed 0 (take l.place l.history))
