-- Pivots of a workload, by the places of its transactions.
use Rattle.std.specs.Prelude.{ℕ, ◌<◌, ◌≡◌, [], List, length, map, slice_index_or}
use Rattle.sdd_lang.specs.All.{Catalogue, Database}
use Rattle.sdd_lang.specs.declared.transaction.Txn.{Txn}
use Rattle.sdd_robust_laws.specs.Accesses.{accesses}
use Rattle.sdd_robust_laws.specs.Shown.{IsDangerous}
use Rattle.sdd_robust_laws.specs.declared.access.Access.{Access}
use Rattle.sdd_robust.specs.declared.judging.Places.{Places}

-- what the transactions of the workload access, in their order; all of them count, whether they are submitted or not
abbrev pub accesses_in : Catalogue → List Txn → Database → List (List Access)
accesses_in cat work first = map (accesses cat work first) work

abbrev pub accesses_at : Catalogue → List Txn → Database → ℕ → List Access
accesses_at cat work first place = slice_index_or (accesses_in cat work first) place []

-- the transaction at one place is dangerous by those at two places, which may be one
pub record IsPivotOf (cat : Catalogue) (work : List Txn) (first : Database) (at : Places) : Type 0 where
  pub pivot_there : at.pivot < length work
  pub missed_there : at.missed < length work
  pub missing_there : at.missing < length work
  pub dangerous : IsDangerous (accesses_in cat work first) (accesses_at cat work first at.pivot)
  pub missed_is : dangerous.missed ≡ accesses_at cat work first at.missed
  pub missing_is : dangerous.missing ≡ accesses_at cat work first at.missing
