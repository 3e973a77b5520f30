-- What is printed of committed transactions along the order: their names, their replies, and what was
-- shipped for them.
use Rattle.std.specs.Prelude.{ℕ, ◌==◌, Bool, List, [], ◌∷◌, ◌++◌, codes, flat_map, map, find, filter_map, Option, Some, None}
use Rattle.std.specs.Option.{option_map_or}
use Rattle.std.specs.Fmt.{decimal}
use Rattle.sdd_lang.specs.All.{Reply, TxnNo}
use Rattle.sdd_history.specs.declared.record.Rec.{Rec}
use Rattle.sdd_history.specs.declared.record.Rec.TheVariants as records
use Rattle.sdd_lang.specs.declared.transaction.Txn.{Txn}
use Rattle.sdd_report.specs.Names.{spaced, txn_name}
use Rattle.sdd_report.specs.Replies.{names_line, reply_lines}

-- what the Commit of a transaction tells: the reply, and how many values and rows were shipped
pub record ReportedCommit : Type 0 where
  pub txn : ℕ
  pub reply : Reply
  pub values : ℕ
  pub rows : ℕ

-- what a record tells, if it is a Commit
abbrev pub reported_in : Rec → Option ReportedCommit
reported_in (records.Commit txn attempt reply changes values rows) = Some (record { txn = txn.0; reply = reply; values = values; rows = rows })
reported_in _ = None

-- whether it is of transaction n
abbrev pub is_of : ℕ → ReportedCommit → Bool
is_of n reported = reported.txn == n

-- what the first Commit of transaction n tells; a transaction has one Commit at most
abbrev pub reported_of : List (ℕ × Rec) → ℕ → Option ReportedCommit
reported_of history n = find (is_of n) (filter_map (λ (made : ℕ × Rec). reported_in made.1) history)

-- the names of transactions
abbrev pub names_of : List Txn → List TxnNo → List (List ℕ)
names_of txns order = map (λ (n : TxnNo). txn_name txns n.0) order

-- the committed transactions in the serial order
abbrev pub order_line : List Txn → List TxnNo → List ℕ
order_line txns order = names_line (names_of txns order)

-- the lines of a transaction's reply; one without a Commit has none
abbrev pub reply_of : List Txn → List (ℕ × Rec) → TxnNo → List ℕ
reply_of txns history n = option_map_or (λ (reported : ReportedCommit). reply_lines (txn_name txns n.0) reported.reply) (reported_of history n.0) []

-- how many values and rows, at the end of a line
abbrev pub numbers_end : ℕ → ℕ → List ℕ
numbers_end values rows = spaced (decimal values) ++ (spaced (decimal rows) ++ 10 ∷ [])

-- how many values and rows were shipped for a transaction
abbrev pub shipped_line : List ℕ → ReportedCommit → List ℕ
shipped_line name reported = codes "shipped" ++ (spaced name ++ numbers_end reported.values reported.rows)

-- the same by its number; one without a Commit has none
abbrev pub shipped_of : List Txn → List (ℕ × Rec) → TxnNo → List ℕ
shipped_of txns history n = option_map_or (λ (reported : ReportedCommit). shipped_line (txn_name txns n.0) reported) (reported_of history n.0) []

-- the order, the replies along it, and then what was shipped
abbrev pub committed_lines : List Txn → List (ℕ × Rec) → List TxnNo → List ℕ
committed_lines txns history order =
    order_line txns order ++ (flat_map (reply_of txns history) order ++ flat_map (shipped_of txns history) order)
