use Rattle.std.proofs.Common.{arith}
use Rattle.std.proofs.lemmas.Grind.{elements}
use Rattle.sdd_lang.proofs.laws.law_rows_held.Goals as goal

pub loop-row-preserved : goal.loop-row-preserved
loop-row-preserved c = grind (arith, elements)

pub returns : goal.returns
returns c = grind (arith, elements)
