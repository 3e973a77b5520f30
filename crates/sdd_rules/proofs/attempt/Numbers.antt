-- Equal numbers, and numbers that differ.
use Rattle.sdd_rules.proofs.All.{arith, eq-eqb, false, nat_tests, refl, true, ℕ, ◌&&◌, ◌==◌, ◌≡◌}

pub own : (ts c : ℕ) → ((ts == ts) && (c == c)) ≡ true
own ts c = rw (eq-eqb ts ts refl, eq-eqb c c refl) refl

pub other_way : (m n : ℕ) → (m == n) ≡ false → (n == m) ≡ false
other_way m n e = grind (arith, nat_tests)
