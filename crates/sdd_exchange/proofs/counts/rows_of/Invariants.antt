use Rattle.sdd_exchange.proofs.All.{count_of, drop, map, ◌*◌, ◌+◌, ◌^◌, ◌≡◌, ◌≤◌}
use Rattle.sdd_exchange.specs.Counts.{numbered}
use Rattle.sdd_exchange.proofs.counts.rows_of.Given as goal

abbrev pub invariant-loop-count : goal.invariant-loop-count
invariant-loop-count l = record {
  few : l.rows ≤ l.count-index * 2 ^ 64;
  rows : l.rows + count_of (map numbered (drop l.count-index l.counts)) l.use_no ≡ count_of (map numbered l.counts) l.use_no;
}
