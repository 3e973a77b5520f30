-- A record at a place is one record.
use Rattle.sdd_links.proofs.All.{Attempt, Committed, HasCommit, History, IsAttempt, IsCommitted, IsRecordAt, Submit, arith, rules, subst, txn_no, ℕ, ◌≡◌}

-- two Submits at one place are of one transaction
pub one_submitted : (h : History) (n m k : ℕ) → IsRecordAt h k (Submit (txn_no n)) → IsRecordAt h k (Submit (txn_no m)) → n ≡ m
one_submitted h n m k a b = search rules

-- two Starts at one place are one
pub record SameStart (a b : Attempt) : Type 0 where
  pub txn : a.txn ≡ b.txn
  pub number : a.number ≡ b.number
  pub class : a.class ≡ b.class
  pub ts : a.ts ≡ b.ts
  pub p2 : a.p2 ≡ b.p2
  pub uses : a.uses ≡ b.uses
  pub place : a.place ≡ b.place

pub same_start : (h : History) (a b : Attempt) → IsAttempt h a → IsAttempt h b → a.place ≡ b.place → SameStart a b
same_start h a b p q same = grind arith

pub one_attempt : (a b : Attempt) → SameStart a b → a ≡ b
one_attempt a b s = grind arith

-- two Commits at one place, of one attempt, are one
pub record SameCommit (t u : Committed) : Type 0 where
  pub reply : t.reply ≡ u.reply
  pub changes : t.changes ≡ u.changes
  pub values : t.values ≡ u.values
  pub rows : t.rows ≡ u.rows
  pub txn : t.start.txn ≡ u.start.txn
  pub number : t.start.number ≡ u.start.number

pub same_commit : (h : History) (t u : Committed) → IsCommitted h t → IsCommitted h u → t.place ≡ u.place
    → SameCommit t u
same_commit h t u p q same = grind arith

pub commit_of : (h : History) (t : Committed) → IsCommitted h t → HasCommit h t.start.txn t.start.number t.place
commit_of h t c = record { reply = t.reply; changes = t.changes; values = t.values; rows = t.rows; is_recorded = c.committed }

pub one_committed : (t u : Committed) → t.start ≡ u.start → SameCommit t u → t.place ≡ u.place → t ≡ u
one_committed t u start s place = grind arith

-- where of a transaction there is one Commit, and of a transaction and number one Start, of a transaction one is committed
pub one_of_txn : (h : History) → ((n i j k l : ℕ) → HasCommit h n i k → HasCommit h n j l → k ≡ l)
    → ((a b : Attempt) → IsAttempt h a → IsAttempt h b → a.txn ≡ b.txn → a.number ≡ b.number → a.place ≡ b.place)
    → (t u : Committed) → IsCommitted h t → IsCommitted h u → t.start.txn ≡ u.start.txn → t ≡ u
one_of_txn h one_commit one_start t u p q e =
    let place : t.place ≡ u.place =
    one_commit u.start.txn t.start.number u.start.number t.place u.place
    (subst (λ n. HasCommit h n t.start.number t.place) e (commit_of h t p)) (commit_of h u q) in
    let same = same_commit h t u p q place in
    let at = one_start t.start u.start p.started q.started e same.number in
    one_committed t u (one_attempt t.start u.start (same_start h t.start u.start p.started q.started at)) same place
