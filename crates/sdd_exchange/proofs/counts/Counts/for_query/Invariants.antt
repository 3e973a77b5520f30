use Rattle.sdd_exchange.proofs.All.{count_of, map, range_with_len, ◌+◌, ◌-◌, ◌≡◌}
use Rattle.sdd_exchange.proofs.counts.Counts.for_query.Given as goal

abbrev pub invariant-loop-part : goal.invariant-loop-part
invariant-loop-part l = l.all.items ≡ map (λ p. count_of l.self (l.query.before + p)) (range_with_len 1 (l.part - 1))
