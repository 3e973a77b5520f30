-- Lines that have to come, one after the other.
use Rattle.sdd_verify.proofs.All.{List, arith, bytes_eq, passed, refl, ℕ, ◌++◌, ◌+◌, ◌>>=◌, ◌∷◌, ◌≡◌}

-- what comes after some lines
pub after_lines : (number : ℕ) (some more lines : List (List ℕ))
    → passed number (some ++ more) lines ≡ (passed number some lines >>= λ rest. passed rest.0 more rest.1)
after_lines number (line ∷ some) more (found ∷ lines) = grind (arith, bytes_eq, passed, (after_lines (number + 1) some more lines))
after_lines number _ more _ = refl
