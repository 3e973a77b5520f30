-- Tests that all lines of a part of a report pass, or that the first of them fails.
use Rattle.sdd_verified.proofs.All.{Bool, Catalogue, CopyTable, List, None, Option, Overflow, Pending, Rec, Reply, ReportedCommit, Row, Rows, Some, TooMany, Txn, TxnNo, [], all_pending_words, all_shipped_words, append_assoc, codes, copies_words, copy_words, false, queries_words, query_words, replies_words, reported_of, rows_words, shipped_words, subst, sym, true, ℕ, ◌++◌, ◌+◌, ◌∷◌, ◌≡◌}
use Rattle.sdd_verified.proofs.PartsBack.{AllPass, FirstFails}

module _ (p : List ℕ → Bool) where
  -- rows, and queries with their rows

  rows_pass : ((line : List ℕ) → p (codes "row" ++ line) ≡ true) → (rows : List Row) (rest : List (List ℕ)) → AllPass p rest
      → AllPass p (rows_words rows ++ rest)
  rows_pass f [] rest h = h
  rows_pass f (row ∷ rows) rest h = (f _, rows_pass f rows rest h)

  queries_pass : ((line : List ℕ) → p (codes "row" ++ line) ≡ true) → ((number : ℕ) (rows : List Row) → p (query_words number rows) ≡ true)
      → (number : ℕ) (answers : List (List Row)) (rest : List (List ℕ)) → AllPass p rest → AllPass p (queries_words number answers ++ rest)
  queries_pass f g number [] rest h = h
  queries_pass f g number (rows ∷ answers) rest h = (
    g number rows,
    subst (AllPass p) (sym (append_assoc (rows_words rows) (queries_words (number + 1) answers) rest))
        (rows_pass f rows (queries_words (number + 1) answers ++ rest) (queries_pass f g (number + 1) answers rest h)),
  )

  pub replies_pass : ((line : List ℕ) → p (codes "row" ++ line) ≡ true) → ((number : ℕ) (rows : List Row) → p (query_words number rows) ≡ true)
      → ((name word : List ℕ) → p ((codes "reply " ++ name) ++ word) ≡ true) → (names : List (List ℕ)) (replies : List Reply)
      → AllPass p (replies_words names replies)
  replies_pass f g k (name ∷ names) (Rows answers ∷ replies) =
      (k name (codes " ok"), queries_pass f g 1 answers (replies_words names replies) (replies_pass f g k names replies))
  replies_pass f g k (name ∷ names) (Overflow ∷ replies) = (k name (codes " overflow"), replies_pass f g k names replies)
  replies_pass f g k (name ∷ names) (TooMany ∷ replies) = (k name (codes " toomany"), replies_pass f g k names replies)
  replies_pass f g k _ _ = tt

  -- what was shipped

  shipped_by : ((line : List ℕ) → p (codes "shipped" ++ line) ≡ true) → (txns : List Txn) (n : TxnNo) (o : Option ReportedCommit) (rest : List (List ℕ))
      → AllPass p rest → AllPass p (shipped_words txns n o ++ rest)
  shipped_by f txns n None rest h = h
  shipped_by f txns n (Some t) rest h = (f _, h)

  pub shipped_pass : ((line : List ℕ) → p (codes "shipped" ++ line) ≡ true) → (txns : List Txn) (h : List (ℕ × Rec)) (order : List TxnNo)
      → AllPass p (all_shipped_words txns h order)
  shipped_pass f txns h [] = tt
  shipped_pass f txns h (n ∷ order) = shipped_by f txns n (reported_of h n.0) (all_shipped_words txns h order) (shipped_pass f txns h order)

  first_shipped_by : ((line : List ℕ) → p (codes "shipped" ++ line) ≡ false) → (txns : List Txn) (n : TxnNo) (o : Option ReportedCommit) (rest : List (List ℕ))
      → FirstFails p rest → FirstFails p (shipped_words txns n o ++ rest)
  first_shipped_by f txns n None rest h = h
  first_shipped_by f txns n (Some t) rest h = f _

  pub first_shipped : ((line : List ℕ) → p (codes "shipped" ++ line) ≡ false) → (txns : List Txn) (h : List (ℕ × Rec)) (order : List TxnNo)
      → FirstFails p (all_shipped_words txns h order)
  first_shipped f txns h [] = tt
  first_shipped f txns h (n ∷ order) = first_shipped_by f txns n (reported_of h n.0) (all_shipped_words txns h order) (first_shipped f txns h order)

  -- the pending transactions

  pub pending_pass : ((line : List ℕ) → p (codes "pending " ++ line) ≡ true) → (cat : Catalogue) (txns : List Txn) (left : List Pending)
      → AllPass p (all_pending_words cat txns left)
  pending_pass f cat txns [] = tt
  pending_pass f cat txns (x ∷ left) = (f _, pending_pass f cat txns left)

  pub first_pending : ((line : List ℕ) → p (codes "pending " ++ line) ≡ false) → (cat : Catalogue) (txns : List Txn) (left : List Pending)
      → FirstFails p (all_pending_words cat txns left)
  first_pending f cat txns [] = tt
  first_pending f cat txns (x ∷ left) = f _

  -- the copies

  pub copies_pass : (cat : Catalogue) → ((line : List ℕ) → p (codes "row" ++ line) ≡ true) → ((t : CopyTable) → p (copy_words cat t) ≡ true)
      → (copies : List CopyTable) → AllPass p (copies_words cat copies)
  copies_pass cat f g [] = tt
  copies_pass cat f g (t ∷ copies) = (g t, rows_pass f t.rows (copies_words cat copies) (copies_pass cat f g copies))

  pub first_copy : (cat : Catalogue) → ((t : CopyTable) → p (copy_words cat t) ≡ false) → (copies : List CopyTable) → FirstFails p (copies_words cat copies)
  first_copy cat f [] = tt
  first_copy cat f (t ∷ copies) = f t
