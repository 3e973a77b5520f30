use Rattle.std.proofs.lemmas.Grind.{common_steps}
use Rattle.sdd_net.proofs.All.{arith}
use Rattle.sdd_net.proofs.channel.Channel.resend.Goals as goal

pub loop-packet-preserved : goal.loop-packet-preserved
loop-packet-preserved g c = grind (arith, common_steps)
