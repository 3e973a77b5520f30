use Rattle.sdd_links.proofs.All.{Committed, drop, enumerate_from, flat_map, fragment_links, fragments_in, read_links, ℕ, ◌++◌, ◌≡◌}
use Rattle.sdd_links.proofs.links.link_readers.Given as goal

abbrev pub invariant-loop-place : goal.invariant-loop-place
invariant-loop-place l =
    l.links.items
    ++ flat_map (λ (p : ℕ × Committed). flat_map (fragment_links l.catalogue l.marks l.txns l.writers p) (fragments_in p.1.start.uses))
    (enumerate_from l.place (drop l.place l.txns))
    ≡ l.fn.links.items ++ read_links l.catalogue l.marks l.txns l.writers
