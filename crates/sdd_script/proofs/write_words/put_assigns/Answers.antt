use Rattle.sdd_script.proofs.Lists.{assign_more, assigns_written}
use Rattle.std.proofs.Common.{arith}
use Rattle.std.proofs.lemmas.Grind.{common_steps}
use Rattle.sdd_script.proofs.write_words.put_assigns.Goals as goal

pub assigns-preserved : goal.assigns-preserved
assigns-preserved c = grind (arith, assign_more, assigns_written)

pub returns : goal.returns
returns c = grind (arith, common_steps)
