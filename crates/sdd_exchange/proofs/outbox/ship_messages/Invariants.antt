use Rattle.sdd_exchange.proofs.All.{Ship, addressed, take, ◌≡◌}
use Rattle.sdd_exchange.proofs.outbox.ship_messages.Given as goal

abbrev pub invariant-loop-dm : goal.invariant-loop-dm
invariant-loop-dm l = l.messages.items ≡ addressed (Ship l.ts l.class) (take l.dm-index l.dms)
