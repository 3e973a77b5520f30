use Rattle.sdd_lang.proofs.UseLists.{AreUsesSoFar}
use Rattle.sdd_lang.proofs.usage.uses.Given as goal

-- with the uses of the statements that are left these are all, and each statement has six at most
abbrev pub invariant-loop-statement : goal.invariant-loop-statement
invariant-loop-statement l = AreUsesSoFar l.catalogue l.txn.statements l.statement-index l.uses.items
