use Rattle.std.proofs.lemmas.Grind.{elements}
use Rattle.std.proofs.Common.{arith}
use Rattle.sdd_inside.proofs.names.class_name.Goals as goal

pub returns-clause-value : goal.returns-clause-value
returns-clause-value c = grind (arith, elements)

pub returns-then-place-classes-clause-value : goal.returns-then-place-classes-clause-value
returns-then-place-classes-clause-value c = grind (arith, elements)
