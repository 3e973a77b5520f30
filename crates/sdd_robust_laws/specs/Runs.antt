-- Runs of a workload's transactions under snapshot isolation, where of two that run at once and change one item the one
-- that would end second doesn't commit. Their numbers are those of the runs: `txns n` is the transaction that run n is of,
-- and many runs may be of one transaction.
use Rattle.std.specs.Prelude.{ℕ, Bool, ◌==◌, ◌≡◌, true, false, if◌then◌else◌, List, [], ◌∷◌, Contains}
use Rattle.std.specs.List.{list_all, list_any}
use Rattle.std.specs.Ordering.{is_eq}
use Rattle.sdd_lang.specs.All.{Catalogue, Database, Reply, Rows, Overflow, contains, item_cmp, item_of}
use Rattle.sdd_lang.specs.base.declared.reply.Reply.TheVariants.{TooMany}
use Rattle.sdd_lang.specs.declared.effect.Effect.{Effect}
use Rattle.sdd_lang.specs.declared.transaction.Txn.{Txn}
use Rattle.sdd_snapshot_replay.specs.Logs.{Log, SeesSnapshots, begun, ended}
use Rattle.sdd_snapshot_replay.specs.Logs.Step.{begins, ends}
use Rattle.sdd_snapshot_replay.specs.Replays.{IsReplay}

-- each run begins once, and ends at most once, after it has begun
abbrev pub InTurn : Log → Type 0
InTurn [] = Unit {0}
InTurn (begins n ∷ log) = (contains (begun log) n ≡ false) × InTurn log
InTurn (ends n ∷ log) = ((contains (begun log) n ≡ true) × (contains (ended log) n ≡ false)) × InTurn log

-- a reply that isn't a failure
abbrev pub succeeds : Reply → Bool
succeeds (Rows answers) = true
succeeds Overflow = false
succeeds TooMany = false

-- whether two effects change one item
abbrev pub change_one_item : Catalogue → Effect → Effect → Bool
change_one_item cat e f = list_any (λ c. list_any (λ d. is_eq (item_cmp (item_of cat c) (item_of cat d))) f.changes) e.changes

-- those that have ended since the run began, the last first
abbrev pub ended_since : Log → ℕ → List ℕ
ended_since [] n = []
ended_since (begins m ∷ log) n = if m == n then [] else ended_since log n
ended_since (ends m ∷ log) n = m ∷ ended_since log n

-- the first committer wins: a run that ends changes no item that one changed which has ended since it began
abbrev pub FirstWins : Catalogue → (ℕ → Effect) → Log → Type 0
FirstWins cat effects [] = Unit {0}
FirstWins cat effects (begins n ∷ log) = FirstWins cat effects log
FirstWins cat effects (ends n ∷ log) =
    (list_any (λ m. change_one_item cat (effects m) (effects n)) (ended_since log n) ≡ false) × FirstWins cat effects log

-- A run under snapshot isolation. Ends are commits: a run that fails, or may not commit, begins and never ends, and it
-- changes nothing.
pub record IsSnapshotRun (cat : Catalogue) (txns : ℕ → Txn) (first : Database) (effects : ℕ → Effect) (log : Log) : Type 0 where
  pub in_turn : InTurn log
  pub sees : SeesSnapshots cat txns first effects log
  pub succeed : list_all (λ n. succeeds (effects n).reply) (ended log) ≡ true
  pub first_wins : FirstWins cat effects log

-- A workload's transactions are robust, where the database begins with these rows: each of their runs under snapshot
-- isolation, each transaction any number of times, is like a serial one. There is an order of those that ended in which one
-- database that runs them gives their replies, and is left with the rows of the run.
abbrev pub IsRobust : Catalogue → List Txn → Database → Type 0
IsRobust cat work first =
    (txns : ℕ → Txn) → ((n : ℕ) → Contains work (txns n))
    → (effects : ℕ → Effect) (log : Log) → IsSnapshotRun cat txns first effects log
    → (order : List ℕ) × IsReplay cat txns first effects log order

-- a run of the workload's transactions that is like no serial one
pub record IsCounterexample (cat : Catalogue) (work : List Txn) (first : Database) (txns : ℕ → Txn) (effects : ℕ → Effect) (log : Log) : Type 0 where
  pub of_work : (n : ℕ) → Contains work (txns n)
  pub run : IsSnapshotRun cat txns first effects log
  pub no_order : (order : List ℕ) → ¬ IsReplay cat txns first effects log order

-- a workload with a counterexample isn't robust
pub not_robust : (cat : Catalogue) (work : List Txn) (first : Database) (txns : ℕ → Txn) (effects : ℕ → Effect) (log : Log)
    → IsCounterexample cat work first txns effects log → ¬ IsRobust cat work first
not_robust cat work first txns effects log is robust =
    let order = robust txns is.of_work effects log is.run in
    is.no_order order.0 order.1
