use Rattle.std.proofs.lemmas.Grind.{common_steps}
use Rattle.sdd_net.proofs.All.{arith, map}
use Rattle.sdd_net.proofs.Queues.{filled}
use Rattle.sdd_net.proofs.mailbox.Mailbox.new.Goals as goal

pub returns : goal.returns
returns g c = filled (map (λ q. q.items) c.loop.queues.items) c.loop.counter c.args.tms c.args.dms c.loop.invariant c.loop.auto.counter-end c.loop-test.false

pub loop-preserved : goal.loop-preserved
loop-preserved g c = grind (arith, common_steps)

pub invariant_of-result : goal.invariant_of-result
invariant_of-result g c = grind (arith, common_steps)
