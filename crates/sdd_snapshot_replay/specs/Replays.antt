-- A run under snapshot isolation is like a serial one, where no read has P3.
use Rattle.std.specs.Prelude.{ℕ, ◌≡◌, ◌≢◌, ◌↔◌, List, [], ◌∷◌, Contains, map}
use Rattle.sdd_lang.specs.All.{Catalogue, Database, IsDatabase, serial}
use Rattle.sdd_lang.specs.declared.effect.Effect.{Effect}
use Rattle.sdd_lang.specs.declared.transaction.Txn.{Txn}
use Rattle.sdd_protocol.specs.Protocols.{IsTable}
use Rattle.sdd_protocol.specs.declared.entry.Entry.{Entry}
use Rattle.sdd_snapshots.specs.Thirds.{HasNoP3}
use Rattle.sdd_snapshot_replay.specs.Logs.{HasSessions, IsOfClass, Log, SeesSnapshots, database, ended}

-- no number of the list stands twice
abbrev pub EachOnce : List ℕ → Type 0
EachOnce [] = Unit {0}
EachOnce (n ∷ rest) = ((m : ℕ) → Contains rest m → m ≢ n) × EachOnce rest

-- One database that runs those that ended in this order, one after the other, gives the replies of the run and is left
-- with its rows.
pub record IsReplay (cat : Catalogue) (txns : ℕ → Txn) (first : Database) (effects : ℕ → Effect) (log : Log) (order : List ℕ) : Type 0 where
  pub same : (n : ℕ) → Contains (ended log) n ↔ Contains order n
  pub once : EachOnce order
  pub replies : (serial cat first (map txns order)).0 ≡ map (λ n. (effects n).reply) order
  pub rows : (serial cat first (map txns order)).1 ≡ database cat first effects log

abbrev pub SnapshotsReplay : Catalogue → Type 0
SnapshotsReplay cat =
    (entries : List Entry) → IsTable cat entries → HasNoP3 entries
    → (txns : ℕ → Txn) (class : ℕ → ℕ) → ((n : ℕ) → IsOfClass cat (txns n) (class n))
    → (first : Database) → IsDatabase cat first
    → (effects : ℕ → Effect) (log : Log) → HasSessions class log → SeesSnapshots cat txns first effects log
    → (order : List ℕ) × IsReplay cat txns first effects log order
