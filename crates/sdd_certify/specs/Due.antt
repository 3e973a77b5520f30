-- The line that should stand where a report is at fault.
use Rattle.std.specs.Prelude.{ℕ, ◌-◌, nat_le, List, Option, Some, None, Result, Ok, Err, filter_map, find, slice_get, if◌then◌else◌}
use Rattle.std.specs.Str.{bytes_eq}
use Rattle.sdd_script.specs.All.{Catalogue, Txn, database_of}
use Rattle.sdd_script.specs.declared.workload.Workload.{Workload}
use Rattle.sdd_verify.specs.Lines.{Numbered, lines_of, order_line_in}
use Rattle.sdd_verify.specs.Orders.{names_on}
use Rattle.sdd_verify.specs.Replies.{replies_on}
use Rattle.sdd_verify.specs.declared.verdict.Verdict.{Verdict}
use Rattle.sdd_verify.specs.declared.verdict.Verdict.TheVariants as verdicts
use Rattle.sdd_certify.specs.declared.due.Due.{Due}
use Rattle.sdd_certify.specs.declared.due.Due.TheVariants.{Line, NoReply, Open}

-- the transaction of this name
abbrev pub txn_named : List Txn → List ℕ → Option Txn
txn_named txns name = find (λ (txn : Txn). bytes_eq txn.name name) txns

-- the transactions of these names
abbrev pub txns_named : List Txn → List (List ℕ) → List Txn
txns_named txns names = filter_map (txn_named txns) names

-- the lines of the replies of the one plain database that begins with the workload's rows and runs the transactions with
-- these names, in this order
abbrev pub due_lines : Catalogue → Workload → List (List ℕ) → List (List ℕ)
due_lines cat work names = lines_of (replies_on cat (database_of cat work.rows) (txns_named work.txns names))

-- such a line, or none any more
abbrev pub line_or_end : Option (List ℕ) → Due
line_or_end None = NoReply
line_or_end (Some line) = Line line

-- what is due at the line with this number, where the order line is this one; nothing certain up to the order line
abbrev pub due_behind : Catalogue → Workload → ℕ → Result (ℕ × List ℕ × Numbered) ℕ → Due
due_behind cat work number (Err lines) = Open
due_behind cat work number (Ok at) =
    if nat_le number at.0 then Open else line_or_end (slice_get (due_lines cat work (names_on at.1)) (number - at.2.0))

-- what is due at the line at which this verdict finds a report at fault
abbrev pub due : Catalogue → Workload → List ℕ → Verdict → Due
due cat work report verdicts.Yes = Open
due cat work report (verdicts.No number) = due_behind cat work number (order_line_in 1 (lines_of report))
