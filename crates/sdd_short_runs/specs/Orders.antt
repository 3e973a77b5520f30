-- Orders of runs in which one database that runs them one after the other gives their replies.
use Rattle.std.specs.Prelude.{ℕ, ◌==◌, ◌≡◌, ◌↔◌, List, Contains, filter, map, not}
use Rattle.sdd_lang.specs.All.{Catalogue, Database, after_changes, effect, serial}
use Rattle.sdd_lang.specs.declared.effect.Effect.{Effect}
use Rattle.sdd_lang.specs.declared.transaction.Txn.{Txn}
use Rattle.sdd_snapshot_replay.specs.Replays.{EachOnce}

-- an order of these numbers, each once
pub record IsOrderOf (numbers order : List ℕ) : Type 0 where
  pub same : (n : ℕ) → Contains numbers n ↔ Contains order n
  pub once : EachOnce order

-- from one database the runs in this order give their replies, and end in another database
pub record Explains (cat : Catalogue) (txns : ℕ → Txn) (effects : ℕ → Effect) (last db : Database) (order : List ℕ) : Type 0 where
  pub replies : (serial cat db (map txns order)).0 ≡ map (λ n. (effects n).reply) order
  pub rows : (serial cat db (map txns order)).1 ≡ last

-- some order of these numbers does so
pub record HasOrder (cat : Catalogue) (txns : ℕ → Txn) (effects : ℕ → Effect) (last db : Database) (numbers : List ℕ) : Type 0 where
  pub order : List ℕ
  pub of : IsOrderOf numbers order
  pub explains : Explains cat txns effects last db order

-- from this database the runs in some order of these numbers give their replies, whatever database they end in
pub record HasReplyOrder (cat : Catalogue) (txns : ℕ → Txn) (effects : ℕ → Effect) (db : Database) (numbers : List ℕ) : Type 0 where
  pub order : List ℕ
  pub of : IsOrderOf numbers order
  pub replies : (serial cat db (map txns order)).0 ≡ map (λ n. (effects n).reply) order

-- the numbers but one
abbrev pub without : List ℕ → ℕ → List ℕ
without numbers n = filter (λ m. not (m == n)) numbers

-- some order that begins with one of the numbers does so: the first one has the reply of its run, and an order of the others
-- does so from there
pub record BeginsWith (cat : Catalogue) (txns : ℕ → Txn) (effects : ℕ → Effect) (last db : Database) (numbers : List ℕ) (n : ℕ) : Type 0 where
  pub there : Contains numbers n
  pub reply : (effect cat db (txns n)).reply ≡ (effects n).reply
  pub rest : HasOrder cat txns effects last (after_changes cat db (effect cat db (txns n)).changes) (without numbers n)
