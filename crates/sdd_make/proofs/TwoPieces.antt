-- A text to which two pieces were put.
use Rattle.sdd_make.proofs.All.{List, OnOk, Result, ap, append_assoc, arith, ℕ, ◌++◌, ◌∙◌, ◌≡◌}

two : (text a b one both : List ℕ) → one ≡ text ++ a → both ≡ one ++ b → both ≡ text ++ (a ++ b)
two text a b one both first second = second ∙ ap (λ (l : List ℕ). l ++ b) first ∙ append_assoc text a b

pub two_put : {T E : Type 0} (r : Result T E) (text a b one both : List ℕ) → one ≡ text ++ a → OnOk r (both ≡ one ++ b)
    → OnOk r (both ≡ text ++ (a ++ b))
two_put r text a b one both first second = grind (arith, two)
