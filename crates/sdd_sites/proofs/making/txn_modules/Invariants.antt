use Rattle.sdd_sites.proofs.All.{BeginsT}
use Rattle.sdd_sites.proofs.Numbered.{MadeTo}
use Rattle.sdd_sites.proofs.making.txn_modules.Given as goal

abbrev pub invariant-loop-number : goal.invariant-loop-number
invariant-loop-number l = MadeTo (BeginsT l.whole l.catalogue l.table) l.number l.made.items
