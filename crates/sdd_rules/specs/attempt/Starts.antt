-- What the line of a class may still do before the next message comes.
use Rattle.std.specs.Prelude.{ℕ, ◌+◌, List, length, Option, Some, None}
use Rattle.sdd_module.specs.All.{tail_of}
use Rattle.sdd_rules.specs.attempt.Queues.{Queued}
use Rattle.sdd_rules.specs.attempt.Attempts.{Attempt}

-- how many of its transactions may start
abbrev pub starts_left : Option Attempt → List Queued → ℕ
starts_left None queue = length queue
starts_left (Some a) queue = length (tail_of queue)

-- how much it has left to do: twice what may start, a Start and a Commit each, the Commit of the active attempt, and
-- what it is still to send
abbrev pub work_of : Option Attempt → List Queued → ℕ
work_of None queue = length queue + length queue
work_of (Some a) queue = length (tail_of queue) + length (tail_of queue) + length a.exchange.to_send + 1
