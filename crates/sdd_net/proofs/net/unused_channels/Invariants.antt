use Rattle.sdd_net.proofs.All.{replicate, unused_channel, ◌≡◌}
use Rattle.sdd_net.proofs.net.unused_channels.Given as goal

abbrev pub invariant-loop : goal.invariant-loop
invariant-loop g l = l.channels.items ≡ replicate l.counter unused_channel
