-- What a data module tells of a READ that waits is what the run's log says.
use Rattle.sdd_run.proofs.All.{Cond, IsAwaited, Option, Setting, arith, unmet, waiting_at, ℕ, ◌≡◌}
use Rattle.sdd_progress.specs.obligations.site_module.SiteLog.{Log}

pub awaited_is : (s : Setting) (log : Log) (c t : ℕ) (o : Option Cond) → IsAwaited s log c t o → unmet s log (waiting_at c t log) ≡ o
awaited_is s log c t o h = grind arith
