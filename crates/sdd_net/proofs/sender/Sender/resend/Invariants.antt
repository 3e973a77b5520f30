use Rattle.sdd_net.proofs.All.{length, map, numbered, ◌+◌, ◌≡◌}
use Rattle.sdd_net.proofs.sender.Sender.resend.Given as goal

abbrev pub invariant-loop-msg : goal.invariant-loop-msg
invariant-loop-msg g l = record {
  can : (goal.iterator-loop-msg g).can_next l.msg-iterator;
  ends : (goal.iterator-loop-msg g).is_finite l.msg-iterator;
  number : l.number ≡ l.self.value.acked + length l.yielded;
  packets : l.packets.items ≡ numbered l.self.value.acked (map (λ m. m.now) l.yielded);
}
