-- The lines of a report, part by part, each without its newline.
use Rattle.std.specs.Prelude.{ℕ, ◌+◌, List, [], ◌∷◌, ◌++◌, codes, flat_map, length, map, Option, Some, None}
use Rattle.std.specs.Fmt.{decimal}
use Rattle.sdd_run.specs.progress.obligations.All.{Catalogue, Rec, Reply, Row, Txn, TxnNo}
use Rattle.sdd_run.specs.progress.obligations.base.declared.reply.Reply.TheVariants.{Rows, Overflow, TooMany}
use Rattle.sdd_run.specs.report.Committed.{ReportedCommit, reported_of}
use Rattle.sdd_run.specs.report.Copies.{place_words}
use Rattle.sdd_run.specs.report.Names.{spaced, txn_name}
use Rattle.sdd_run.specs.report.Pending.{why_words}
use Rattle.sdd_run.specs.report.Replies.{value_bytes}
use Rattle.sdd_run.specs.report.declared.copies.CopyTable.{CopyTable}
use Rattle.sdd_run.specs.report.declared.pending.Pending.{Pending}

-- rows

abbrev pub row_words : Row → List ℕ
row_words row = codes "row" ++ flat_map (λ v. 32 ∷ value_bytes v) row

abbrev pub rows_words : List Row → List (List ℕ)
rows_words rows = map row_words rows

-- the order, and the replies along it

abbrev pub order_words : List (List ℕ) → List ℕ
order_words names = codes "order" ++ flat_map spaced names

abbrev pub query_words : ℕ → List Row → List ℕ
query_words number rows = (codes "query " ++ decimal number) ++ 32 ∷ decimal (length rows)

abbrev pub queries_words : ℕ → List (List Row) → List (List ℕ)
queries_words number [] = []
queries_words number (rows ∷ answers) = query_words number rows ∷ (rows_words rows ++ queries_words (number + 1) answers)

abbrev pub outcome_words : Reply → List ℕ
outcome_words (Rows answers) = codes " ok"
outcome_words Overflow = codes " overflow"
outcome_words TooMany = codes " toomany"

abbrev pub answers_words : Reply → List (List ℕ)
answers_words (Rows answers) = queries_words 1 answers
answers_words Overflow = []
answers_words TooMany = []

abbrev pub reply_words : List ℕ → Reply → List (List ℕ)
reply_words name reply = ((codes "reply " ++ name) ++ outcome_words reply) ∷ answers_words reply

abbrev pub replies_words : List (List ℕ) → List Reply → List (List ℕ)
replies_words [] replies = []
replies_words (name ∷ names) [] = []
replies_words (name ∷ names) (reply ∷ replies) = reply_words name reply ++ replies_words names replies

-- what was shipped

abbrev pub shipped_words : List Txn → TxnNo → Option ReportedCommit → List (List ℕ)
shipped_words txns n None = []
shipped_words txns n (Some reported) =
    (codes "shipped" ++ (spaced (txn_name txns n.0) ++ (spaced (decimal reported.values) ++ spaced (decimal reported.rows)))) ∷ []

abbrev pub all_shipped_words : List Txn → List (ℕ × Rec) → List TxnNo → List (List ℕ)
all_shipped_words txns history order = flat_map (λ (n : TxnNo). shipped_words txns n (reported_of history n.0)) order

-- the pending transactions

abbrev pub pending_words : Catalogue → List Txn → Pending → List ℕ
pending_words cat txns p = codes "pending" ++ (spaced (txn_name txns p.txn.0) ++ spaced (why_words cat p.why))

abbrev pub all_pending_words : Catalogue → List Txn → List Pending → List (List ℕ)
all_pending_words cat txns left = map (pending_words cat txns) left

-- the copies

abbrev pub copy_words : Catalogue → CopyTable → List ℕ
copy_words cat table = place_words cat table.dm.0 table.frag.0 ++ spaced (decimal (length table.rows))

abbrev pub copies_words : Catalogue → List CopyTable → List (List ℕ)
copies_words cat [] = []
copies_words cat (table ∷ tables) = copy_words cat table ∷ (rows_words table.rows ++ copies_words cat tables)
