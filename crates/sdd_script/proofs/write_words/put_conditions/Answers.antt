use Rattle.sdd_script.proofs.Lists.{condition_more, conditions_written}
use Rattle.std.proofs.Common.{arith}
use Rattle.std.proofs.lemmas.Grind.{common_steps}
use Rattle.sdd_script.proofs.write_words.put_conditions.Goals as goal

pub conditions-preserved : goal.conditions-preserved
conditions-preserved c = grind (arith, condition_more, conditions_written)

pub returns : goal.returns
returns c = grind (arith, common_steps)
