use Rattle.sdd_links.proofs.All.{Committed, by_fragment, drop, enumerate_from, flat_map, map, ℕ, ◌++◌, ◌≡◌}
use Rattle.sdd_links.proofs.links.fragment_pairs.Given as goal

abbrev pub invariant-loop-place : goal.invariant-loop-place
invariant-loop-place l =
    l.made.items ++ flat_map (λ (p : ℕ × Committed). map (λ c. (c.frag.0, p.0)) p.1.changes)
    (enumerate_from l.place (drop l.place l.txns)) ≡ by_fragment l.txns
