-- A run whose orders are tried, as it is held: its transactions and effects by their numbers, and all its changes.
use Rattle.std.specs.Prelude.{ℕ, ◌≡◌, true, List, length, slice_index_or}
use Rattle.std.specs.List.{All}
use Rattle.std.specs.List.Sorted.{IsStrictlySortedBy}
use Rattle.std.specs.Map.{keys_of}
use Rattle.sdd_lang.specs.All.{Change, Database, FitsTxn, after_changes, item_cmp}
use Rattle.sdd_lang.specs.declared.effect.Effect.{Effect}
use Rattle.sdd_lang.specs.declared.transaction.Txn.{Txn}
use Rattle.sdd_robust_laws.specs.Runs.{succeeds}
use Rattle.sdd_short_runs.specs.ShortRuns.{lent_txns}
use Rattle.sdd_short_runs.specs.declared.orders.Run.{Run}

-- the transaction and the effect of a number
abbrev pub txn_at : Run → Txn → ℕ → Txn
txn_at run d n = slice_index_or (lent_txns run.txns.now) n d

abbrev pub effect_at : Run → Effect → ℕ → Effect
effect_at run d n = slice_index_or run.effects.now n d

-- the database after changes of the first one
abbrev pub database_with : Run → List Change → Database
database_with run changes = after_changes run.catalogue.now run.base.now.value changes

-- the database at the end of the run
abbrev pub last_database : Run → Database
last_database run = database_with run run.changes.now

pub record IsTried (run : Run) : Type 0 where
  pub sorted : IsStrictlySortedBy item_cmp (keys_of run.base.now.value)
  pub fit : All (FitsTxn run.catalogue.now) (lent_txns run.txns.now)
  pub succeed : All (λ (e : Effect). succeeds e.reply ≡ true) run.effects.now
  pub as_many : length run.txns.now ≡ length run.effects.now
