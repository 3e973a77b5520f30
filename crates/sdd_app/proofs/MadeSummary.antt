-- The summary of a made input tells that all of its transactions are committed.
use Rattle.sdd_app.proofs.All.{EndsAtLimit, Err, IsMadeSummary, IsSummaryOn, List, Limit, MAX_TXNS, MakesText, NoMemory, Ok, Result, Status, bank, made_summed, workload_of, ℕ, ◌≤◌}

pub all_made : (seed count : ℕ) → count ≤ MAX_TXNS → (r : Result (List ℕ) Status)
    → MakesText (IsSummaryOn bank (workload_of seed count)) (EndsAtLimit bank (workload_of seed count)) r
    → MakesText (IsMadeSummary seed count) (EndsAtLimit bank (workload_of seed count)) r
all_made seed count few (Ok text) summed = record { summary = summed; all_committed = made_summed seed count text few summed }
all_made seed count few (Err Limit) summed = summed
all_made seed count few (Err NoMemory) summed = summed
all_made seed count few (Err _) summed = absurd summed
