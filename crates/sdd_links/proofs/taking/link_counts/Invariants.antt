use Rattle.sdd_links.proofs.All.{All, counted, drop, fold, length, replicate, ◌≡◌, ◌≤◌}
use Rattle.sdd_links.proofs.taking.link_counts.Given as goal

abbrev pub invariant-loop-to : goal.invariant-loop-to
invariant-loop-to l = record {
  counts : fold counted l.counts.items (drop l.to-index l.links) ≡ fold counted (replicate l.count 0) l.links;
  few : All (λ n. n ≤ l.to-index) l.counts.items;
  same : length l.counts.items ≡ l.count;
}
