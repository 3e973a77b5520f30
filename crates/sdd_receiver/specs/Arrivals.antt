-- How far the numbers that arrived reach without a gap.
use Rattle.sdd_base.specs.Words.{contains}
use Rattle.std.specs.Prelude.{ℕ, zero, suc, max, true, false, List, [], ◌∷◌}

-- the greatest k + j, with j at most n, such that k + 1 to k + j are all among the numbers
abbrev pub top_from : ℕ → ℕ → List ℕ → ℕ
top_from zero k ns = k
top_from (suc n) k ns = elim (contains ns (suc k)) [ true ↦ top_from n (suc k) ns | false ↦ k ]

abbrev pub greatest : List ℕ → ℕ
greatest [] = 0
greatest (n ∷ ns) = max n (greatest ns)

-- the greatest k such that 1 to k are all among the numbers
abbrev pub top : List ℕ → ℕ
top ns = top_from (greatest ns) 0 ns
