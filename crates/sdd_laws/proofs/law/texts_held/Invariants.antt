use Rattle.sdd_laws.proofs.All.{All, PutsHeld, take}
use Rattle.sdd_laws.proofs.law.texts_held.Given as goal

abbrev pub invariant-loop-txn : goal.invariant-loop-txn
invariant-loop-txn l = All (λ t. All PutsHeld t.statements) (take l.txn-index l.txns)
