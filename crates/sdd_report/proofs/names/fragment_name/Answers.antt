use Rattle.std.proofs.lemmas.Grind.{elements}
use Rattle.sdd_report.proofs.All.{arith}
use Rattle.sdd_report.proofs.names.fragment_name.Goals as goal

pub returns : goal.returns
returns c = grind (arith, elements)

pub returns-then-place-fragments : goal.returns-then-place-fragments
returns-then-place-fragments c = grind (arith, elements)
