-- The summary of a run.
use Rattle.std.specs.Prelude.{ℕ, Bool, true, false, List, [], ◌∷◌, ◌++◌, codes, count_by}
use Rattle.std.specs.Fmt.{decimal}
use Rattle.sdd_history.specs.declared.record.Rec.{Rec}
use Rattle.sdd_history.specs.declared.record.Rec.TheVariants.{Commit, Reject, Wait}
use Rattle.sdd_make.specs.declared.summary.Summary.{Summary}

-- whether a record is a Commit, a Reject or a Wait

abbrev pub is_commit : ℕ × Rec → Bool
is_commit (event, Commit txn attempt reply changes values rows) = true
is_commit _ = false

abbrev pub is_reject : ℕ × Rec → Bool
is_reject (event, Reject txn attempt dm class ts) = true
is_reject _ = false

abbrev pub is_wait : ℕ × Rec → Bool
is_wait (event, Wait txn attempt dm conds) = true
is_wait _ = false

-- how many transactions the workload has, how many Commits, Rejects and Waits were recorded, and the
-- number of the last event
abbrev pub summary_of : ℕ → List (ℕ × Rec) → ℕ → Summary
summary_of transactions history events =
    record {
      transactions = transactions;
      committed = count_by is_commit history;
      rejections = count_by is_reject history;
      waits = count_by is_wait history;
      events = events;
    }

-- a line with a count
abbrev pub count_line : List ℕ → ℕ → List ℕ
count_line word count = word ++ 32 ∷ decimal count ++ 10 ∷ []

-- the lines of the transactions, the Commits and the Rejects
abbrev pub first_counts : Summary → List ℕ
first_counts s =
    count_line (codes "transactions") s.transactions
    ++ (count_line (codes "committed") s.committed ++ count_line (codes "rejections") s.rejections)

-- the lines of the Waits and of the events, and the end
abbrev pub last_counts : Summary → List ℕ
last_counts s = count_line (codes "waits") s.waits ++ (count_line (codes "events") s.events ++ codes "end\n")

-- a line for each count, and the end
abbrev pub summary_text : Summary → List ℕ
summary_text s = first_counts s ++ last_counts s
