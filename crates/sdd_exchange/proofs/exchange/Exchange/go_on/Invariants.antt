use Rattle.sdd_exchange.proofs.All.{AreSmall, goes_on, length, ◌≡◌}
use Rattle.sdd_exchange.proofs.exchange.Exchange.go_on.Given as goal

abbrev pub invariant-loop-query : goal.invariant-loop-query
invariant-loop-query l = record {
  small : AreSmall l.self.left;
  goes : goes_on l.ts.0 l.class.0 l.self l.self.left l.self.done ≡ goes_on l.ts.0 l.class.0 l.fn.self l.fn.self.left l.fn.self.done;
}

abbrev pub decreases-loop-query : goal.decreases-loop-query
decreases-loop-query l = length l.self.left
