-- Clauses on what a call returned.
use Rattle.sdd_blocks.proofs.All.{IfOk, Result, arith, nat_tests}

-- what follows from two facts of the value in an `Ok`
pub IfOk-both_then : {T E : Type 0} (r : Result T E) {P Q R : T → Type 0} → IfOk r P → IfOk r Q
    → ((x : T) → P x → Q x → R x) → IfOk r R
IfOk-both_then r p q f = grind (arith, nat_tests)
