-- The replies in a report are those that one plain database gives along its order.
use Rattle.sdd_run.proofs.All.{AllZip, Commit, Committed, HasCommit, History, IsCommitted, IsReplyOf, List, None, Option, Rec, Reply, Report, ReportedCommit, Some, Txn, TxnNo, [], after_replies, ap, append_assoc, arith, cases_Bool, cons_option, eq-eqb, eqb-true, filter_map, find, flat_map, inl, inr, is_of, names_of, option_map, option_map_or, order_line, record_at, refl, replies_along, reply_of, report_text, reported_in, reported_of, slice_get, suc, trace, true, txn_no, zero, ℕ, ◌++◌, ◌∙◌, ◌∷◌, ◌≡◌}

-- what the first Commit of transaction n tells, where the first record tells this
abbrev first_of : ℕ → Option ReportedCommit → History → Option ReportedCommit
first_of n reported rest = find (is_of n) (cons_option reported (filter_map (λ (made : ℕ × Rec). reported_in made.1) rest))

some_is : {A : Type 0} (x y : A) → Some x ≡ Some y → x ≡ y
some_is x y e = cc

-- of transaction n no record but that at place k tells
abbrev IsOnly : ℕ → History → ℕ → Type 0
IsOnly n h k = (j : ℕ) (made : ℕ × Rec) (t : ReportedCommit) → slice_get h j ≡ Some made → reported_in made.1 ≡ Some t → is_of n t ≡ true → j ≡ k

skips : (n : ℕ) (made : ℕ × Rec) (rest : History) (k : ℕ) (o : Option ReportedCommit) → reported_in made.1 ≡ o
    → IsOnly n (made ∷ rest) (suc k) → first_of n o rest ≡ reported_of rest n
skips n made rest k None tells only = refl
skips n made rest k (Some t) tells only =
    elim (cases_Bool (is_of n t)) [
      | inl is ↦ absurd (let first : 0 ≡ suc k = only 0 made t refl tells is in omega (arith, first))
      | inr other ↦ (rw other refl)
    ]

only_reported : (n : ℕ) (h : History) (k : ℕ) (made : ℕ × Rec) (t : ReportedCommit) → slice_get h k ≡ Some made → reported_in made.1 ≡ Some t
    → is_of n t ≡ true → IsOnly n h k
    → reported_of h n ≡ Some t
only_reported n [] k made t there tells is only = absurd cc
only_reported n (first ∷ rest) zero made t there tells is only = grind (arith, first_of, some_is)
only_reported n (first ∷ rest) (suc k) made t there tells is only =
    skips n first rest k (reported_in first.1) refl only
    ∙ only_reported n rest k made t there tells is (λ j x u a b c. let same : suc j ≡ suc k = only (suc j) x u a b c in omega (arith, same))

-- a record that tells of transaction n is a Commit of it
commit_of : (n k : ℕ) (r : Rec) (t : ReportedCommit) (h : History) → record_at h k ≡ Some r → reported_in r ≡ Some t
    → is_of n t ≡ true → (number : ℕ) × HasCommit h n number k
commit_of n k (Commit txn attempt reply changes values rows) t h there tells is =
    let reported : ReportedCommit = record { txn = txn.0; reply = reply; values = values; rows = rows } in
    let named : txn.0 ≡ n = ap (λ (x : ReportedCommit). x.txn) (some_is reported t tells) ∙ eqb-true t.txn n is in (
      attempt,
      record {
        reply = reply;
        changes = changes;
        values = values;
        rows = rows;
        is_recorded = there ∙ ap (λ m. Some (Commit (txn_no m) attempt reply changes values rows)) named;
      },
    )
commit_of n k _ t h there tells is = absurd cc

-- the record at a place, with the number of its event
made_at : (o : Option (ℕ × Rec)) (r : Rec) → option_map (λ (e : ℕ × Rec). e.1) o ≡ Some r → (made : ℕ × Rec) × (o ≡ Some made) × (made.1 ≡ r)
made_at o r e = grind (arith, some_is)

abbrev reported : Committed → ReportedCommit
reported t = record { txn = t.start.txn; reply = t.reply; values = t.values; rows = t.rows }

module _ (h : History) (one_commit : (n i j k l : ℕ) → HasCommit h n i k → HasCommit h n j l → k ≡ l) where
  -- a committed transaction is reported as its Commit tells
  reported_is : (t : Committed) → IsCommitted h t → reported_of h t.start.txn ≡ Some (reported t)
  reported_is t is =
      let own : HasCommit h t.start.txn t.start.number t.place = record {
        reply = t.reply;
        changes = t.changes;
        values = t.values;
        rows = t.rows;
        is_recorded = is.committed;
      } in
      let made = made_at (slice_get h t.place) (Commit (txn_no t.start.txn) t.start.number t.reply t.changes t.values t.rows) is.committed in
      only_reported t.start.txn h t.place made.0 (reported t) made.1 (ap reported_in made.2) (eq-eqb t.start.txn t.start.txn refl)
      (λ j other u there tells of.
      let found = commit_of t.start.txn j other.1 u h (ap (option_map (λ (e : ℕ × Rec). e.1)) there) tells of in
      one_commit t.start.txn found.0 t.start.number j t.place found.1 own)

  replies_are : (txns : List Txn) (order : List TxnNo) (replies : List Reply) → AllZip (IsReplyOf h) order replies
      → flat_map (reply_of txns h) order ≡ replies_along (names_of txns order) replies
  replies_are txns [] [] each = refl
  replies_are txns (n ∷ order) (reply ∷ replies) each = grind (arith, flat_map, option_map_or, reported_is, (replies_are txns order replies each.1))
  replies_are txns _ _ each = absurd each

-- the text of a report with the replies of its order in the place of those of the Commits
pub with_replies_of_order : (r : Report) (replies : List Reply) → ((n i j k l : ℕ) → HasCommit r.history n i k → HasCommit r.history n j l → k ≡ l)
    → AllZip (IsReplyOf r.history) r.order replies
    → report_text r ≡ trace r.catalogue r.txns r.history ++ (order_line r.txns r.order ++ (replies_along (names_of r.txns r.order) replies ++ after_replies r))
with_replies_of_order r replies one_commit each = grind (arith, append_assoc, flat_map, replies_are)
