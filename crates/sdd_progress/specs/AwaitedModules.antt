-- What an active attempt waits for where nothing goes on: one of its modules has its READ, and hasn't processed it.
use Rattle.std.specs.Prelude.{ℕ, ◌≡◌, true, Some, slice_get}
use Rattle.sdd_obligations.specs.All.{Input, IsModule, Log, Msg, is_read, pipe}
use Rattle.sdd_progress.specs.Quiet.{at_module}

-- at a module the READ of the attempt of class c with timestamp ts is not processed
pub record IsUnanswered (g : Input) (log : Log) (c ts : ℕ) : Type 0 where
  pub d : ℕ
  pub module_is : IsModule g.catalogue d
  pub place : ℕ
  pub message : Msg
  pub there : slice_get (pipe c (at_module g d log)).unprocessed place ≡ Some message
  pub is_its : is_read ts c message ≡ true
