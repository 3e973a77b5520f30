-- What is needed of what is given: a workload that was read has it.
use Rattle.std.specs.Prelude.{ℕ, ◌≡◌, Some}
use Rattle.sdd_invariants.specs.All.{FitsTxn, Input, IsWhole, Txn, txn_at}
use Rattle.sdd_obligations.specs.Bounds.{IsSmall}

-- sites, classes and ticks are within their limits and each transaction is submitted once; all that the catalogue names
-- is there; and the transactions fit it
pub record IsRunnable (g : Input) : Type 0 where
  pub small : IsSmall g
  pub whole : IsWhole g.catalogue
  pub txns_fit : (n : ℕ) (txn : Txn) → txn_at g n ≡ Some txn → FitsTxn g.catalogue txn
