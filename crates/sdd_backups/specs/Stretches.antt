-- The n numbers from k on.
use Rattle.std.specs.Prelude.{ℕ, zero, suc, ◌+◌, ◌&&◌, cond, Bool, true, Option, Some, None}

-- all of them pass the test
abbrev pub every_from : (ℕ → Bool) → ℕ → ℕ → Bool
every_from p k zero = true
every_from p k (suc n) = p k && every_from p (k + 1) n

-- the first of them that passes it
abbrev pub first_from : (ℕ → Bool) → ℕ → ℕ → Option ℕ
first_from p k zero = None
first_from p k (suc n) = cond (p k) (Some k) (first_from p (k + 1) n)

-- how many of them pass it
abbrev pub count_from : (ℕ → Bool) → ℕ → ℕ → ℕ
count_from p k zero = 0
count_from p k (suc n) = cond (p k) (count_from p (k + 1) n + 1) (count_from p (k + 1) n)
