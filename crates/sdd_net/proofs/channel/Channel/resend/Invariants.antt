use Rattle.sdd_net.proofs.All.{true, ◌++◌, ◌≡◌}
use Rattle.sdd_net.proofs.channel.Channel.resend.Given as goal

abbrev pub invariant-loop-packet : goal.invariant-loop-packet
invariant-loop-packet g l = record {
  can : (goal.iterator-loop-packet g).can_next l.packet-iterator;
  ends : (goal.iterator-loop-packet g).is_finite l.packet-iterator;
  sender : l.self.sender ≡ l.initial.self.sender;
  receiver : l.self.receiver ≡ l.initial.self.receiver;
  flight : l.self.flight ≡ record { live = true; value = l.initial.self.flight.value ++ l.yielded };
}
