-- What one plain database gives if it runs the transactions of an order one by one.
use Rattle.std.specs.Prelude.{ℕ, ◌≡◌, pos, true, List, [], ◌∷◌, filter_map, refl}
use Rattle.sdd_lang.specs.All.{Catalogue, Database, Ge, Int, Le, Op, RelNo, Reply, Row, Rows, TxnNo, database_of, rel_no, serial, tm_no, txn_no}
use Rattle.sdd_history.specs.Records.{History}
use Rattle.sdd_lang.specs.declared.condition.Condition.TheVariants.{Const}
use Rattle.sdd_lang.specs.declared.statement.Stmt.TheVariants.{Put, Query}
use Rattle.sdd_lang.specs.declared.transaction.Txn.{Txn}
use Rattle.sdd_links.specs.Attempts.{Committed, IsCommitted, changes}
use Rattle.sdd_links.specs.Examples.{crossing, row_of, waits_for_other}
use Rattle.sdd_order.specs.SerialOrder.{serial_order}
use Rattle.sdd_laws.specs.Deeds.{txn_at, AppliedBefore}

-- the texts of the transactions with these numbers
abbrev pub texts_of : List Txn → List TxnNo → List Txn
texts_of txns order = filter_map (λ n. txn_at txns n.0) order

-- the replies, in order, and the last database, where the database begins with these rows
abbrev pub run : Catalogue → List (RelNo × Row) → List Txn → List TxnNo → List Reply × Database
run cat rows txns order = serial cat (database_of cat rows) (texts_of txns order)

-- the Commit of a transaction has the reply
pub record IsReplyOf (h : History) (n : TxnNo) (reply : Reply) : Type 0 where
  pub committed : Committed
  pub is_committed : IsCommitted h committed
  pub txn_is : committed.start.txn ≡ n.0
  pub reply_is : committed.reply ≡ reply

-- at module d before place k all committed transactions are applied that change a fragment
abbrev pub AreAllApplied : History → ℕ → ℕ → ℕ → Type 0
AreAllApplied h f d k = (t : Committed) → IsCommitted h t → changes t f ≡ true → AppliedBefore h t.start.txn d k

-- Worked: each of two transactions asks for the values of one half of the keys and puts a row into the other half. The
-- second saw the row that the first put, and so it stands after it.

abbrev halves : Op → ℕ → Row → Txn
halves op bound row =
    record {
      name = [];
      tm = tm_no 1;
      statements =
          Query (record { part = 1; column = 2 } ∷ []) (rel_no 1 ∷ []) (Const (record { part = 1; column = 1 }) op (Int (pos bound)) ∷ [])
          ∷ Put (rel_no 1) row
          ∷ [];
    }

-- the row that the second puts has this value
abbrev two_texts : ℕ → List Txn
two_texts value = halves Le 9 (row_of 11 1) ∷ halves Ge 10 (row_of 1 value) ∷ []

-- along the serial order the run gives the replies of the Commits
pub replies_along : (run crossing [] (two_texts 1) (serial_order crossing waits_for_other)).0
    ≡ Rows ([] ∷ []) ∷ Rows (((Int (pos 1) ∷ []) ∷ []) ∷ []) ∷ []
replies_along = refl

-- where the second puts another value than the first, the replies depend on the order: in this one it sees the first's row
pub replies_in_order : (run crossing [] (two_texts 2) (txn_no 1 ∷ txn_no 2 ∷ [])).0
    ≡ Rows ([] ∷ []) ∷ Rows (((Int (pos 1) ∷ []) ∷ []) ∷ []) ∷ []
replies_in_order = refl

-- in the other order it runs first and sees nothing, and the first sees its row
pub replies_turned : (run crossing [] (two_texts 2) (txn_no 2 ∷ txn_no 1 ∷ [])).0
    ≡ Rows ([] ∷ []) ∷ Rows (((Int (pos 2) ∷ []) ∷ []) ∷ []) ∷ []
replies_turned = refl
