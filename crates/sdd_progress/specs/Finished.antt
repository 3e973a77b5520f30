-- A log in which everything is finished: nothing that was submitted is left to be done.
use Rattle.std.specs.Prelude.{ℕ, ◌≡◌, ◌≤◌, [], None}
use Rattle.sdd_obligations.specs.All.{Input, IsClass, IsModule, Log, T, active, holds, home, local_of, pipe, queue, setting_of, tm_no}
use Rattle.sdd_progress.specs.Quiet.{at_home, at_module}

-- Every message of every pipe is processed, and no attempt is under way. Said of the work of the classes, where `IsQuiet`
-- is said of the links and of what is due; transactions may wait in queues.
pub record IsIdle (g : Input) (log : Log) : Type 0 where
  pub processed : (c d : ℕ) → IsClass g.catalogue c → IsModule g.catalogue d → (pipe c (at_module g d log)).unprocessed ≡ []
  pub no_attempt : (c : ℕ) → IsClass g.catalogue c → active (setting_of g (home g.catalogue c)) c (at_home g c log) ≡ None

-- and no transaction waits in a queue, and no transaction module is on hold
pub record IsFinished (g : Input) (log : Log) : Type 0 where
  pub idle : IsIdle g log
  pub no_queue : (c : ℕ) → IsClass g.catalogue c → queue (setting_of g (home g.catalogue c)) c (at_home g c log) ≡ []
  pub off_hold : (t : ℕ) → 1 ≤ t → t ≤ g.catalogue.tms
      → (holds (local_of g (T (tm_no t)) log)).holds ≡ (holds (local_of g (T (tm_no t)) log)).releases
