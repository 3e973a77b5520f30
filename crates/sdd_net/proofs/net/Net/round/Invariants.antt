use Rattle.sdd_net.proofs.All.{deliveries_on, filter_map, flat_map, resend_on, take, ◌≡◌}
use Rattle.sdd_net.proofs.net.Net.round.Given as goal

abbrev pub invariant-loop-link : goal.invariant-loop-link
invariant-loop-link g l = record {
  resends : l.resends.items ≡ filter_map (resend_on l.self.value.channels) (take l.link-index l.link-items);
  deliveries : l.deliveries.items ≡ flat_map (deliveries_on l.self.value.channels) (take l.link-index l.link-items);
}
