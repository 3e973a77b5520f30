-- Runs under snapshot isolation on one database, as logs of what begins and what ends, the last step first.
use Rattle.std.specs.Prelude.{ℕ, suc, ◌==◌, ◌≡◌, true, false, if◌then◌else◌, List, [], ◌∷◌, length}
use Rattle.std.specs.List.{All}
use Rattle.sdd_base.specs.Words.{contains}
use Rattle.sdd_graph.specs.Edges.{IsClassOf}
use Rattle.sdd_lang.specs.All.{Catalogue, Database, FitsTxn, PutsHeld, after_changes, effect, read_set, reads_at, write_set, writes}
use Rattle.sdd_lang.specs.declared.effect.Effect.{Effect}
use Rattle.sdd_lang.specs.declared.transaction.Txn.{Txn}
use Rattle.sdd_snapshots.specs.Runs.{SnapshotRun}
use Rattle.std.specs.Prelude.{is_some}

-- a transaction, by its number, begins or ends
pub data Step : Type 0 where
  begins : ℕ → Step
  ends : ℕ → Step

abbrev pub Log : Type 0
Log = List Step

-- those that have begun, and those that have ended, the last first

abbrev pub begun : Log → List ℕ
begun [] = []
begun (begins n ∷ log) = n ∷ begun log
begun (ends n ∷ log) = begun log

abbrev pub ended : Log → List ℕ
ended [] = []
ended (begins n ∷ log) = ended log
ended (ends n ∷ log) = n ∷ ended log

-- at which step it began, and ended, from 1; 0 where it didn't

abbrev pub begin_of : Log → ℕ → ℕ
begin_of [] n = 0
begin_of (begins m ∷ log) n = if m == n then suc (length log) else begin_of log n
begin_of (ends m ∷ log) n = begin_of log n

abbrev pub end_of : Log → ℕ → ℕ
end_of [] n = 0
end_of (begins m ∷ log) n = end_of log n
end_of (ends m ∷ log) n = if m == n then suc (length log) else end_of log n

-- One session for each class: a transaction begins once, when each other one of its class that has begun has ended, and it
-- ends once, after it has begun.
abbrev pub HasSessions : (ℕ → ℕ) → Log → Type 0
HasSessions class [] = Unit {0}
HasSessions class (begins n ∷ log) =
    ((contains (begun log) n ≡ false)
    × ((m : ℕ) → class m ≡ class n → contains (begun log) m ≡ true → contains (ended log) m ≡ true))
    × HasSessions class log
HasSessions class (ends n ∷ log) =
    ((contains (begun log) n ≡ true) × (contains (ended log) n ≡ false)) × HasSessions class log

-- the database after a log, by the effects of the transactions: at its end the changes of one are made
abbrev pub database : Catalogue → Database → (ℕ → Effect) → Log → Database
database cat first effects [] = first
database cat first effects (begins n ∷ log) = database cat first effects log
database cat first effects (ends n ∷ log) = after_changes cat (database cat first effects log) (effects n).changes

-- each one's reply and changes are those on the database as it was when it began
abbrev pub SeesSnapshots : Catalogue → (ℕ → Txn) → Database → (ℕ → Effect) → Log → Type 0
SeesSnapshots cat txns first effects [] = Unit {0}
SeesSnapshots cat txns first effects (begins n ∷ log) =
    (effect cat (database cat first effects log) (txns n) ≡ effects n) × SeesSnapshots cat txns first effects log
SeesSnapshots cat txns first effects (ends n ∷ log) = SeesSnapshots cat txns first effects log

-- the transaction fits the catalogue, and reads and writes what its class may
pub record IsOfClass (cat : Catalogue) (txn : Txn) (class : ℕ) : Type 0 where
  pub class_is : IsClassOf cat class
  pub fits : FitsTxn cat txn
  pub puts_held : All PutsHeld txn.statements
  pub reads : (f : ℕ) → contains (read_set cat txn) f ≡ true → is_some (reads_at cat class f) ≡ true
  pub writes : (f : ℕ) → contains (write_set cat txn) f ≡ true → writes cat class f ≡ true

-- the run without its rows: those that ended, with the fragments that they may read and change
abbrev pub run_of : Catalogue → (ℕ → Txn) → (ℕ → ℕ) → Log → SnapshotRun
run_of cat txns class log =
    record {
      is = contains (ended log);
      class = class;
      begin = begin_of log;
      end = end_of log;
      reads = λ n. contains (read_set cat (txns n));
      changes = λ n. contains (write_set cat (txns n));
    }
