-- Reports whose replies are those of one plain database.
use Rattle.std.specs.Prelude.{ℕ, ◌≡◌, ◌≢◌, ◌≤◌, ◌<◌, false, length, List, ◌∷◌, ◌++◌, slice_index_or}
use Rattle.std.specs.List.{All}
use Rattle.sdd_script.specs.All.{AreLines, Catalogue, HasNoNewline, IsFrom1To, TxnNo, spelled_lines}
use Rattle.sdd_report.specs.Committed.{order_line}
use Rattle.sdd_script.specs.declared.workload.Workload.{Workload}
use Rattle.sdd_turns.specs.Turns.{class_of}
use Rattle.sdd_verify.specs.Classes.{classes_submitted}
use Rattle.sdd_verify.specs.Lines.{is_order_line, tells_reply}
use Rattle.sdd_verify.specs.Replies.{serial_replies}
use Rattle.sdd_verify.specs.Submitted.{submitted}
use Rattle.sdd_verify.specs.declared.limits.TheConstants.{MAX_REPORT_BYTES}

-- a member of an order
abbrev pub at : List TxnNo → ℕ → TxnNo
at order i = slice_index_or order i (record { 0 = 0 })

-- Of two transactions in an order, of the classes of submitted transactions, the one after is another one, and where they
-- have one class it is the later submitted.
abbrev pub IsInTurn : List ℕ → List TxnNo → Type 0
IsInTurn classes order = (i k : ℕ) → i < k → k < length order
    → ((at order i).0 ≢ (at order k).0) × (class_of classes (at order i) ≡ class_of classes (at order k) → (at order i).0 < (at order k).0)

-- The report gives an order of submitted transactions, none of them twice and those of one class by submission, each by the
-- class list in force when it was submitted. Its first
-- order line names them; the lines after it are the replies of the one plain database that begins with the
-- workload's rows and runs these transactions in this order; and then comes a line that is of no reply.
pub record IsVerified (cat : Catalogue) (work : Workload) (report : List ℕ) : Type 0 where
  pub small : length report ≤ MAX_REPORT_BYTES
  pub order : List TxnNo
  pub are_submitted : All (λ number. IsFrom1To (length (submitted work)) number.0) order
  pub in_turn : IsInTurn (classes_submitted cat work) order
  pub before : List (List ℕ)
  pub before_lines : AreLines before
  pub before_order : All (λ line. is_order_line line ≡ false) before
  pub next : List ℕ
  pub next_line : HasNoNewline next
  pub next_other : tells_reply next ≡ false
  pub rest : List ℕ
  pub text_is : report ≡ spelled_lines before ++ (order_line (submitted work) order ++ (serial_replies cat work order ++ (next ++ 10 ∷ rest)))
