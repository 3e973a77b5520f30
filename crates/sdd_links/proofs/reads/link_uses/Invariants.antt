use Rattle.sdd_links.proofs.All.{drop, flat_map, fragment_links, ◌++◌, ◌≡◌}
use Rattle.sdd_links.proofs.reads.link_uses.Given as goal

abbrev pub invariant-loop-used : goal.invariant-loop-used
invariant-loop-used l =
    l.links.items ++ flat_map (λ u. flat_map (λ f. fragment_links l.catalogue l.marks l.txns l.writers (l.reader, l.txn) f.0) u.frags)
    (drop l.used-index l.used-items)
    ≡ l.initial.links.items ++ flat_map (λ u. flat_map (λ f. fragment_links l.catalogue l.marks l.txns l.writers (l.reader, l.txn) f.0) u.frags) l.used-items
