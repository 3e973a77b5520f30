use Rattle.sdd_exchange.proofs.All.{Fetch, addressed, take, ◌≡◌}
use Rattle.sdd_exchange.proofs.outbox.fetch_messages.Given as goal

abbrev pub invariant-loop-dm : goal.invariant-loop-dm
invariant-loop-dm l = l.messages.items ≡ addressed (Fetch l.ts l.class l.source.part l.source.column) (take l.dm-index l.dms)
