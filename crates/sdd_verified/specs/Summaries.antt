-- Schedules that leave nothing undone, and summaries that count as many Commits as transactions.
use Rattle.std.specs.Prelude.{ℕ, ◌≡◌, ◌≤◌, Bool, true, false, List, [], ◌∷◌, refl}
use Rattle.std.specs.List.{list_any}
use Rattle.sdd_run.specs.progress.obligations.All.{D, Down, Event, Settle, Submit, dm_no, submits_in, txn_no}
use Rattle.sdd_run.specs.make.Summary.{summary_text}
use Rattle.sdd_run.specs.make.declared.summary.Summary.{Summary}
use Rattle.sdd_run.specs.Settled.{EndsAtRest}

-- whether an event takes a module down
abbrev pub takes_down : Event → Bool
takes_down (Down d) = true
takes_down _ = false

-- events that submit each of so many transactions, take no module down, and end with a settle or a redeclare
pub record SettleAll (txns : ℕ) (events : List Event) : Type 0 where
  pub submit_all : (n : ℕ) → 1 ≤ n → n ≤ txns → 1 ≤ submits_in n events
  pub none_down : list_any takes_down events ≡ false
  pub ends : EndsAtRest events

-- a summary that says that all of so many transactions are committed
pub record TellsAllDone (txns : ℕ) (text : List ℕ) : Type 0 where
  pub counts : Summary
  pub text_is : text ≡ summary_text counts
  pub transactions : counts.transactions ≡ txns
  pub committed : counts.committed ≡ txns

-- worked: of these events the first takes a module down
pub one_down : list_any takes_down (Down (D (dm_no 1)) ∷ Submit (txn_no 1) ∷ Settle ∷ []) ≡ true
one_down = refl

pub none_there : list_any takes_down (Submit (txn_no 1) ∷ Settle ∷ []) ≡ false
none_there = refl
