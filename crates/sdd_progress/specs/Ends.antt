-- That a run ends, and a settle.
use Rattle.std.specs.Prelude.{◌≡◌, ◌⊎◌, true}
use Rattle.sdd_obligations.specs.invariants.All.{EndsByLimit, Input, IsTheLog, Log, Settle, all_links, calls_of, quiet, with_event}

-- there is the log of what is given, or the limit ends it
abbrev pub Ends : Input → Type 0
Ends given = (log : Log) × (IsTheLog given log ⊎ EndsByLimit given log)

-- with a settle more, there is the log, and nothing is in flight or unacknowledged in the end; or the limit ends it
abbrev pub Settles : Input → Type 0
Settles given =
    (log : Log)
    × ((IsTheLog (with_event given Settle) log × (quiet (all_links given) (calls_of log) ≡ true)) ⊎ EndsByLimit (with_event given Settle) log)
