-- Stretches of numbers, one number after the other.
use Rattle.sdd_backups.proofs.All.{Bool, Some, ap, arith, cond, every_from, false, first_from, suc, true, ℕ, ◌&&◌, ◌+◌, ◌-◌, ◌<◌, ◌∙◌, ◌≡◌}

left_one : (k e : ℕ) → k < e → e - k ≡ suc (e - (k + 1))
left_one k e l = omega arith

pub every_goes_on : (p : ℕ → Bool) (k e : ℕ) → k < e → p k ≡ true → every_from p k (e - k) ≡ every_from p (k + 1) (e - (k + 1))
every_goes_on p k e l t = ap (every_from p k) (left_one k e l) ∙ ap (λ b. b && every_from p (k + 1) (e - (k + 1))) t

pub first_goes_on : (p : ℕ → Bool) (k e : ℕ) → k < e → p k ≡ false → first_from p k (e - k) ≡ first_from p (k + 1) (e - (k + 1))
first_goes_on p k e l f = ap (first_from p k) (left_one k e l) ∙ ap (λ b. cond b (Some k) (first_from p (k + 1) (e - (k + 1)))) f
