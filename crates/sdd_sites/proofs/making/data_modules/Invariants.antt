use Rattle.sdd_sites.proofs.All.{BeginsD}
use Rattle.sdd_sites.proofs.Numbered.{MadeTo}
use Rattle.sdd_sites.proofs.making.data_modules.Given as goal

abbrev pub invariant-loop-number : goal.invariant-loop-number
invariant-loop-number l = MadeTo (BeginsD l.catalogue l.rows) l.number l.made.items
