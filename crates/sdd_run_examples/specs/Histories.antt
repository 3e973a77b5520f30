-- Histories, and attempts and committed transactions in them.
use Rattle.std.specs.Prelude.{ℕ, [], ◌∷◌, List, Some}
use Rattle.sdd_run.specs.progress.obligations.All.{Change, Committed, History, Use, class_no, dm_no, time_at, txn_no}
use Rattle.sdd_run.specs.progress.obligations.base.declared.reply.Reply.TheVariants.{Rows}
use Rattle.sdd_run.specs.progress.obligations.history.declared.record.Rec.TheVariants.{Apply, Commit, Start, Submit}
use Rattle.sdd_run.specs.progress.obligations.links.Attempts.{Attempt}
use Rattle.sdd_run.specs.progress.obligations.links.Examples.{high_keys, low_keys, put}

abbrev attempt : ℕ → ℕ → ℕ → ℕ → ℕ → List Use → ℕ → Attempt
attempt txn number class ts p2 uses place =
    record { txn = txn; number = number; class = class; ts = ts; p2 = Some (time_at p2); uses = uses; place = place }

-- the query of a history in which nobody waits; the first attempt of one that comes too late; one that waits
abbrev pub asked : Attempt
asked = attempt 2 1 2 386 383 low_keys 4

abbrev pub rejected : Attempt
rejected = attempt 1 1 1 65 63 low_keys 1

abbrev pub waited : Attempt
waited = attempt 2 1 2 66 63 high_keys 3

-- Two puts of one class: the first changes the first fragment and is applied at both modules, the later one changes the second
-- fragment and is applied at the second module alone.
abbrev pub applied_at_two : History
applied_at_two =
    (1, Submit (txn_no 1))
    ∷ (1, Start (txn_no 1) 1 (class_no 1) (time_at 65) (Some (time_at 63)) [])
    ∷ (1, Commit (txn_no 1) 1 (Rows []) (put 1 1 7 ∷ []) 0 0)
    ∷ (2, Submit (txn_no 2))
    ∷ (2, Start (txn_no 2) 1 (class_no 1) (time_at 129) (Some (time_at 127)) [])
    ∷ (2, Commit (txn_no 2) 1 (Rows []) (put 2 11 7 ∷ []) 0 0)
    ∷ (3, Apply (txn_no 1) (class_no 1) (dm_no 1) (time_at 65))
    ∷ (4, Apply (txn_no 1) (class_no 1) (dm_no 2) (time_at 65))
    ∷ (5, Apply (txn_no 2) (class_no 1) (dm_no 2) (time_at 129))
    ∷ []

abbrev committed : Attempt → List Change → ℕ → Committed
committed start changes place = record { start = start; reply = Rows []; changes = changes; values = 0; rows = 0; place = place }

abbrev pub first_put : Committed
first_put = committed (attempt 1 1 1 65 63 [] 1) (put 1 1 7 ∷ []) 2

abbrev pub later_put : Committed
later_put = committed (attempt 2 1 1 129 127 [] 4) (put 2 11 7 ∷ []) 5
