use Rattle.sdd_net.proofs.All.{empty_mailbox, replicate, ◌≡◌}
use Rattle.sdd_net.proofs.spool.Spool.new.Given as goal

abbrev pub invariant-loop : goal.invariant-loop
invariant-loop g l = l.boxes.items ≡ replicate l.counter (empty_mailbox l.tms l.dms)
