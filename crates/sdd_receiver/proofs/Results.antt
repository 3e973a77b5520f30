-- Results that are Ok.
use Rattle.sdd_receiver.proofs.All.{IfOk, OnOk, Result, arith, nat_tests}

-- what two facts about one lead to
pub if_both : {T E : Type 0} (r : Result T E) (A : T → Type 0) (B : Type 0) (C : T → Type 0)
    → IfOk r A → OnOk r B → ((x : T) → A x → B → C x) → IfOk r C
if_both r A B C a b f = grind (arith, nat_tests)
