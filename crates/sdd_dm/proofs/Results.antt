-- Clauses on what a call returned.
use Rattle.sdd_dm.proofs.All.{OnOk, Result, rules}

-- what follows from a fact on `Ok`
pub on_ok : {T E : Type 0} (r : Result T E) {P Q : Type 0} → OnOk r P → (P → Q) → OnOk r Q
on_ok r p f = search rules
