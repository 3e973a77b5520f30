-- Where every transaction that was submitted is committed, none is pending.
use Rattle.sdd_run.proofs.All.{AllCommitted, Input, IsNotLeft, Log, None, Rec, [], any_commit, arith, history, pending_in, pending_of, same_number, ℕ, ◌≡◌}
use Rattle.sdd_progress.proofs.Committed.{none_left}

not_pending : (g : Input) (log : Log) (x : ℕ × Rec) → IsNotLeft (history log) x → pending_in g log x ≡ None
not_pending g log x h = grind (arith, any_commit, same_number)

pub none_pending : (g : Input) (log : Log) → AllCommitted (history log) → pending_of g log ≡ []
none_pending g log all = none_left (history log) (pending_in g log) all (not_pending g log)
