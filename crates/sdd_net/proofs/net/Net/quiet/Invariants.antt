use Rattle.sdd_net.proofs.All.{list_all, quiet_on, take, true, ◌≡◌}
use Rattle.sdd_net.proofs.net.Net.quiet.Given as goal

abbrev pub invariant-loop-link : goal.invariant-loop-link
invariant-loop-link g l = list_all (quiet_on l.self.value.channels) (take l.link-index l.link-items) ≡ true
