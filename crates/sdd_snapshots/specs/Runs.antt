-- Runs under snapshot isolation on one ordinary database: a transaction reads the database as it is when it begins, and what
-- it changes is seen by those that begin after it has ended. Of an item the version of the transaction that ended last
-- stands; two that run at once may both change it.
use Rattle.std.specs.Prelude.{ℕ, ◌<◌, ◌≡◌, ◌≢◌, ◌≤◌, ◌⊎◌, nat_lt, Bool, true}
use Rattle.sdd_acyclic.specs.System.{System}
use Rattle.sdd_acyclic.specs.Theorems.{Numbered, Tests, system}

-- the transactions that committed, by number: each has a class, a time when it began and one when it ended, and it reads and
-- changes fragments
pub record SnapshotRun : Type 0 where
  pub is : ℕ → Bool
  pub class : ℕ → ℕ
  pub begin : ℕ → ℕ
  pub end : ℕ → ℕ
  pub reads : ℕ → ℕ → Bool
  pub changes : ℕ → ℕ → Bool

-- It keeps the rule of P2 for every reader: versions are dated by the times of ends, and a reader sees exactly those below
-- the one time when it began. There is one database, so the module at which a fragment is read doesn't matter.
abbrev pub tests_of : SnapshotRun → Tests
tests_of r =
    record {
      is = r.is;
      class = r.class;
      ts = r.end;
      p2 = r.begin;
      reads = r.reads;
      changes = r.changes;
      dm = λ class fragment. 0;
      seen = λ writer dm reader. nat_lt (r.end writer) (r.begin reader);
    }

abbrev pub system_of : (r : SnapshotRun) → System (Numbered (tests_of r))
system_of r = system (tests_of r)

-- One session for each class: every transaction is of a declared class, begins before it ends, no two end at once, and of
-- two of one class the one has ended when the other begins.
pub record HasSessions (r : SnapshotRun) : Type 0 where
  pub of_class : (x : ℕ) → r.is x ≡ true → 1 ≤ r.class x
  pub forward : (x : ℕ) → r.is x ≡ true → r.begin x < r.end x
  pub one_end : (x y : ℕ) → r.is x ≡ true → r.is y ≡ true → r.end x ≡ r.end y → x ≡ y
  pub in_turn : (x y : ℕ) → r.is x ≡ true → r.is y ≡ true → r.class x ≡ r.class y → x ≢ y
      → (r.end x < r.begin y) ⊎ (r.end y < r.begin x)
