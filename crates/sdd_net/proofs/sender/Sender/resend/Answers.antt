use Rattle.sdd_net.proofs.All.{arith, length-append}
use Rattle.sdd_net.proofs.Numbering.{numbered_more}
use Rattle.sdd_net.proofs.sender.Sender.resend.Goals as goal

pub loop-msg-preserved : goal.loop-msg-preserved
loop-msg-preserved g c = record {
  can = tt;
  ends = tt;
  number = grind (arith, length-append, c.loop-msg.invariant.number);
  packets = numbered_more
      (λ m. m.now) _ _ c.loop-msg.yielded _ _ _ _ c.loop-msg.invariant.packets c.loop-msg.invariant.number c.in_ok-copy.ensures c.in_ok-push.ensures.items;
}
