-- A transaction that is tried again: the REJECT of its last attempt was handed.
use Rattle.std.specs.Prelude.{ℕ, ◌++◌, ◌∷◌, ◌≡◌, Some}
use Rattle.sdd_log.specs.All.{Attempt, ClassNo, D, DmNo, Handed, Reject, Setting, Ts, active}
use Rattle.sdd_log.specs.site_module.SiteLog.{Log}
use Rattle.sdd_invariants.specs.OfRecords.{NoRecord}

-- the REJECT of the attempt k of transaction n, which was the active one; nothing of the class was recorded since
pub record IsRejected (s : Setting) (c : ℕ) (log : Log) (n k : ℕ) : Type 0 where
  pub later : Log
  pub before : Log
  pub from : DmNo
  pub ts : Ts
  pub class_of : ClassNo
  pub by : ClassNo
  pub write : Ts
  pub is : log ≡ later ++ Handed (D from) (Reject ts class_of by write) ∷ before
  pub none_since : NoRecord c later
  pub attempt : Attempt
  pub active_is : active s c before ≡ Some attempt
  pub ts_is : ts.0 ≡ attempt.ts
  pub class_is : class_of.0 ≡ c
  pub number_is : attempt.txn ≡ n
  pub try_is : attempt.attempt ≡ k
