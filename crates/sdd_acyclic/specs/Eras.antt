-- Transactions by the eras in which they were submitted.
use Rattle.std.specs.Prelude.{ℕ, ◌≡◌}
use Rattle.sdd_acyclic.specs.Deeds.{Deeds, Txn, system}
use Rattle.sdd_acyclic.specs.System.{System, over}

-- those of one rank
pub record Ranked {T : Type 0} (rank : T → ℕ) (n : ℕ) : Type 0 where
  pub item : T
  pub is : rank item ≡ n

-- the transactions of one era
abbrev pub of_era : {K : Type 0} (D : Deeds K) (era : K → ℕ) (n : ℕ) → System (Ranked (λ (x : Txn D). era x.no) n)
of_era D era n = over (λ r. r.item) (system D)
