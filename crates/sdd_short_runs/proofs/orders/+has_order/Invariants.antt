use Rattle.sdd_short_runs.proofs.All.{BeginsWith, Contains, Effect, Txn, database_with, effect_at, last_database, length, take, txn_at, ℕ}
use Rattle.sdd_short_runs.proofs.orders.+has_order.Given as goal

-- no order begins with one of those so far
abbrev pub invariant-numbers : goal.invariant-numbers
invariant-numbers l =
    (t : Txn) (e : Effect) (n : ℕ) → Contains (take l.number-index l.left) n
    → BeginsWith l.run.catalogue.now (txn_at l.run t) (effect_at l.run e) (last_database l.run) (database_with l.run l.made) l.left n → ⊥

-- the numbers that are left
abbrev pub decreases-has_order : goal.decreases-has_order
decreases-has_order l = length l.left.now
