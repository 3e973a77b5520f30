use Rattle.sdd_lang.proofs.All.{All, PutsHeld, take}
use Rattle.sdd_lang.proofs.laws.law_puts_held.Given as goal

abbrev pub invariant-loop-statement : goal.invariant-loop-statement
invariant-loop-statement l = All PutsHeld (take l.statement-index l.txn.statements)
