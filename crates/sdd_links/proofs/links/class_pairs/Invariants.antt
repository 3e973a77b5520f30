use Rattle.sdd_links.proofs.All.{Committed, by_class, drop, enumerate_from, map, ℕ, ◌++◌, ◌≡◌}
use Rattle.sdd_links.proofs.links.class_pairs.Given as goal

abbrev pub invariant-loop-place : goal.invariant-loop-place
invariant-loop-place l =
    l.made.items ++ map (λ (p : ℕ × Committed). (p.1.start.class, p.0)) (enumerate_from l.place (drop l.place l.txns)) ≡ by_class l.txns
