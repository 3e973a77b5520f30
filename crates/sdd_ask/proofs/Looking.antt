-- A look at one class after the other.
use Rattle.sdd_ask.proofs.All.{Bool, Contains-range, [], ap, arith, false, list_any, list_any-append, numbers_to, or_from, passes_member, refl, true, up_to, ℕ, ◌+◌, ◌-◌, ◌<◌, ◌∙◌, ◌∷◌, ◌≡◌, ◌≤◌}

-- one passes the test
pub found_one : (p : ℕ → Bool) (n i : ℕ) → 1 ≤ i → i < n + 1 → p i ≡ true → list_any p (numbers_to n) ≡ true
found_one p n i from to e = passes_member p (numbers_to n) i (Contains-range 1 n i from (omega arith)) e

-- one more doesn't
pub none_more : (p : ℕ → Bool) (i : ℕ) → 1 ≤ i → list_any p (numbers_to (i - 1)) ≡ false → p i ≡ false
    → list_any p (numbers_to (i + 1 - 1)) ≡ false
none_more p i from none e =
    ap (list_any p) (up_to i from) ∙ list_any-append p (numbers_to (i - 1)) (i ∷ [])
    ∙ or_from (list_any p (numbers_to (i - 1))) (list_any p (i ∷ [])) none (or_from (p i) false e refl)
