use Rattle.sdd_links.proofs.All.{drop, flat_map, fragment_links, ◌++◌, ◌≡◌}
use Rattle.sdd_links.proofs.reads.link_use.Given as goal

abbrev pub invariant-loop-frag : goal.invariant-loop-frag
invariant-loop-frag l =
    l.links.items ++ flat_map (λ f. fragment_links l.catalogue l.marks l.txns l.writers (l.reader, l.txn) f.0) (drop l.frag-index l.used.frags)
    ≡ l.initial.links.items ++ flat_map (λ f. fragment_links l.catalogue l.marks l.txns l.writers (l.reader, l.txn) f.0) l.used.frags
