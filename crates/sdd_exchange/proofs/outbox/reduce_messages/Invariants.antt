use Rattle.sdd_exchange.proofs.All.{Reduce, addressed, take, ◌≡◌}
use Rattle.sdd_exchange.proofs.outbox.reduce_messages.Given as goal

abbrev pub invariant-loop-dm : goal.invariant-loop-dm
invariant-loop-dm l = l.messages.items ≡ addressed (Reduce l.ts l.class l.target.part l.target.column l.values) (take l.dm-index l.dms)
