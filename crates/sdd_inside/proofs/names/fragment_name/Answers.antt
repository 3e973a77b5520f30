use Rattle.std.proofs.lemmas.Grind.{elements}
use Rattle.std.proofs.Common.{arith}
use Rattle.sdd_inside.proofs.names.fragment_name.Goals as goal

pub returns-clause-value : goal.returns-clause-value
returns-clause-value c = grind (arith, elements)

pub returns-then-place-fragments-clause-value : goal.returns-then-place-fragments-clause-value
returns-then-place-fragments-clause-value c = grind (arith, elements)
