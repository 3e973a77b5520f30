use Rattle.sdd_sites.proofs.All.{Sending, length}
use Rattle.sdd_sites.proofs.putting.send_all.Given as goal

abbrev pub invariant-loop-to : goal.invariant-loop-to
invariant-loop-to l = Sending l.fn.net l.net l.at l.fn.out l.left.items

abbrev pub decreases-loop-to : goal.decreases-loop-to
decreases-loop-to l = length l.left.items
