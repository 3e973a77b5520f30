use Rattle.sdd_exchange.proofs.All.{counted, drop, ◌≡◌}
use Rattle.sdd_exchange.proofs.counts.Counts.put_all.Given as goal

abbrev pub invariant-loop-new : goal.invariant-loop-new
invariant-loop-new l = counted l.dm.0 (drop l.new-index l.news) l.self ≡ counted l.dm.0 l.news l.initial.self
