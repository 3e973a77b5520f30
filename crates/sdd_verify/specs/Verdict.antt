-- What a report is judged to be: the rules in their order, of which the first that is broken gives the line at fault.
use Rattle.std.specs.Prelude.{ℕ, List, Result, Ok, Err}
use Rattle.sdd_script.specs.All.{Catalogue, TxnNo, must, ◌>>=◌}
use Rattle.sdd_script.specs.declared.workload.Workload.{Workload}
use Rattle.sdd_verify.specs.Classes.{classes_submitted}
use Rattle.sdd_verify.specs.Lines.{Numbered, ends_replies, lines_of, numbered_lines, order_line_in, passed}
use Rattle.sdd_verify.specs.Orders.{order_on}
use Rattle.sdd_verify.specs.Replies.{serial_replies}
use Rattle.sdd_verify.specs.Submitted.{submitted}
use Rattle.sdd_verify.specs.declared.verdict.Verdict.{Verdict}
use Rattle.sdd_verify.specs.declared.verdict.Verdict.TheVariants.{Yes, No}

-- The number of the first line at fault, 0 for the whole report. The rules are:
-- the report isn't too long; it has an order line; the first one gives an order of submitted transactions; after it
-- stand the lines of the replies that one plain database gives along the order; and after these a line that is of no reply.
abbrev pub judged : Catalogue → Workload → List ℕ → Result (Unit {0}) ℕ
judged cat work report = do
  (whole : Numbered) ← numbered_lines report
  (at : ℕ × List ℕ × Numbered) ← order_line_in whole.0 whole.1
  (order : List TxnNo) ← order_on (submitted work) (classes_submitted cat work) at.0 at.1
  (rest : Numbered) ← passed at.2.0 (lines_of (serial_replies cat work order)) at.2.1
  must rest.0 (ends_replies rest.1)

abbrev pub verdict_of : Result (Unit {0}) ℕ → Verdict
verdict_of (Ok sound) = Yes
verdict_of (Err number) = No number

abbrev pub verdict : Catalogue → Workload → List ℕ → Verdict
verdict cat work report = verdict_of (judged cat work report)
