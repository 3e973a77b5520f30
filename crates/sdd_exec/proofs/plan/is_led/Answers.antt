use Rattle.std.proofs.lemmas.Grind.{elements}
use Rattle.sdd_exec.proofs.All.{arith}
use Rattle.sdd_exec.proofs.plan.is_led.Goals as goal

pub returns-in-Some-clause-led : goal.returns-in-Some-clause-led
returns-in-Some-clause-led c = grind (arith, elements)

pub returns-in-Some-clause-there : goal.returns-in-Some-clause-there
returns-in-Some-clause-there c = grind (arith, elements)
