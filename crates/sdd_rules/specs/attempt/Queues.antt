-- The queues of a site: the transactions of a class that are submitted and not committed, in order.
use Rattle.std.specs.Prelude.{ℕ, suc, ◌==◌, ◌||◌, Bool, not, cond, if◌then◌else◌, List, [], ◌∷◌, ◌++◌, map, filter}
use Rattle.sdd_module.specs.All.{Act, Catalogue, Commit, Did, Log, Records, Setting, Start, Submits, Txn, TxnNo, class_for, current_era, txn_no}

-- a transaction in a queue, and how often it started
pub record Queued : Type 0 where
  pub number : ℕ
  pub text : Txn
  pub tries : ℕ

-- its number
abbrev pub txn_of : Queued → TxnNo
txn_of q = txn_no q.number

-- whether a transaction goes to the queue of class c, by the catalogue in force: all that is given to U goes to that of
-- class 0
abbrev pub is_for : ℕ → Catalogue → Txn → Bool
is_for c cat txn = c == 0 || class_for cat txn == c

abbrev pub submitted : ℕ → Catalogue → ℕ → Txn → List Queued → List Queued
submitted c cat n txn queue = if is_for c cat txn then queue ++ record { number = n; text = txn; tries = 0 } ∷ [] else queue

abbrev pub tried : ℕ → Queued → Queued
tried n q = cond (q.number == n) (record q { tries = suc q.tries }) q

-- in the queue of its class a Start counts as a try, and a Commit takes its transaction away
abbrev pub queue_after : ℕ → Act → List Queued → List Queued
queue_after c (Records k (Start txn attempt class ts p2 uses) sends) queue = if k == c then map (tried txn.0) queue else queue
queue_after c (Records k (Commit txn attempt reply changes values rows) sends) queue =
    if k == c then filter (λ q. not (q.number == txn.0)) queue else queue
queue_after c _ queue = queue

-- the queue of class c; a transaction's class is that of the catalogue in force when it is submitted
abbrev pub queue : Setting → ℕ → Log → List Queued
queue s c [] = []
queue s c (Submits n txn ∷ log) = submitted c (current_era s log).catalogue n txn (queue s c log)
queue s c (Did act ∷ log) = queue_after c act (queue s c log)
queue s c (_ ∷ log) = queue s c log
