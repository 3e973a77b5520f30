use Rattle.std.proofs.lemmas.Grind.{common_steps}
use Rattle.sdd_net.proofs.All.{arith}
use Rattle.sdd_net.proofs.Queues.{all_empty}
use Rattle.sdd_net.proofs.spool.Spool.new.Goals as goal

pub returns : goal.returns
returns g c = all_empty c.loop.boxes.items c.loop.counter c.args.tms c.args.dms c.loop.invariant c.loop.auto.counter-end c.loop-test.false

pub loop-preserved : goal.loop-preserved
loop-preserved g c = grind (arith, common_steps)
