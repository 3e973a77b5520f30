use Rattle.sdd_links.proofs.All.{end_of, has_seen, length, ◌-◌, ◌≡◌, ◌≤◌}
use Rattle.sdd_links.proofs.reads.first_unseen.Given as goal

abbrev pub decreases-loop-low : goal.decreases-loop-low
decreases-loop-low l = l.high - l.low

abbrev pub invariant-loop-low : goal.invariant-loop-low
invariant-loop-low l = record {
  value : end_of (has_seen l.marks l.txns l.dm.0 l.reader l.writers) (l.high - l.low) l.low l.high ≡ end_of
      (has_seen l.marks l.txns l.dm.0 l.reader l.writers) (length l.writers) 0 (length l.writers);
  order : l.low ≤ l.high;
  within : l.high ≤ length l.writers;
}
