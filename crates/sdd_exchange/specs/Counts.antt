-- The counts of an exchange, as a module keeps them.
use Rattle.std.specs.Prelude.{ℕ, ◌==◌, Bool, not, ◌&&◌, cond}
use Rattle.sdd_module.specs.All.{DmNo}

-- a count by the number of its module
abbrev pub numbered : (ℕ × DmNo) × ℕ → (ℕ × ℕ) × ℕ
numbered e = ((e.0.0, e.0.1.0), e.1)

-- whether it is of another use, or at another module
abbrev pub is_other : ℕ → ℕ → (ℕ × DmNo) × ℕ → Bool
is_other d u e = not ((e.0.0 == u) && (e.0.1.0 == d))

-- the rows that it counts of use u
abbrev pub count_in : ℕ → (ℕ × DmNo) × ℕ → ℕ
count_in u e = cond (e.0.0 == u) e.1 0
