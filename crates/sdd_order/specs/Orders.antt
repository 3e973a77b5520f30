-- Orders of the committed transactions, and which of them are serial.
use Rattle.std.specs.Prelude.{◌≡◌, ◌≢◌, false, List, [], ◌∷◌, Contains}
use Rattle.sdd_links.specs.lang.All.{Catalogue, TxnNo, txn_no}
use Rattle.sdd_links.specs.history.Records.{History}
use Rattle.sdd_links.specs.Attempts.{Committed, IsCommitted}
use Rattle.sdd_links.specs.Precedence.{precedes}

-- a transaction is none of these, and none of these precedes it
pub record IsFirst (cat : Catalogue) (h : History) (n : TxnNo) (rest : List TxnNo) : Type 0 where
  pub other : (m : TxnNo) → Contains rest m → m.0 ≢ n.0
  pub first : (x y : Committed) → IsCommitted h x → IsCommitted h y
      → x.start.txn ≡ n.0 → Contains rest (txn_no y.start.txn) → precedes cat h y x ≡ false

-- each stands before those that it precedes, and none stands twice
abbrev pub IsAlong : Catalogue → History → List TxnNo → Type 0
IsAlong cat h [] = Unit {0}
IsAlong cat h (n ∷ rest) = IsFirst cat h n rest × IsAlong cat h rest

-- each committed transaction once, after its predecessors
pub record IsSerial (cat : Catalogue) (h : History) (order : List TxnNo) : Type 0 where
  pub committed : (n : TxnNo) → Contains order n → (t : Committed) × IsCommitted h t × (t.start.txn ≡ n.0)
  pub whole : (t : Committed) → IsCommitted h t → Contains order (txn_no t.start.txn)
  pub along : IsAlong cat h order
