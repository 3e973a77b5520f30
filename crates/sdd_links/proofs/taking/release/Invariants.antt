use Rattle.sdd_links.proofs.All.{drop, fold, length, released, ◌≡◌}
use Rattle.sdd_links.proofs.taking.release.Given as goal

abbrev pub invariant-loop-target : goal.invariant-loop-target
invariant-loop-target l = record {
  front : fold released (l.counts.items, l.ready.keys) (drop l.target-index l.targets) ≡ fold released
      (l.initial.counts.items, l.initial.ready.keys) l.targets;
  same : length l.counts.items ≡ length l.initial.counts.items;
}
