use Rattle.std.proofs.lemmas.Grind.{common_steps}
use Rattle.std.proofs.Common.{arith}
use Rattle.sdd_inside.proofs.to_json.tell_items.Goals as goal

pub returns-in_ok-tell-in-Some : goal.returns-in_ok-tell-in-Some
returns-in_ok-tell-in-Some g c = grind (arith, common_steps)
