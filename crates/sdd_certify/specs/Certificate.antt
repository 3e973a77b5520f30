-- What `certify` prints of a report.
use Rattle.std.specs.Prelude.{ℕ, List, [], ◌++◌, codes}
use Rattle.std.specs.Fmt.{decimal}
use Rattle.sdd_script.specs.All.{Catalogue}
use Rattle.sdd_script.specs.declared.workload.Workload.{Workload}
use Rattle.sdd_verify.specs.Verdict.{verdict}
use Rattle.sdd_verify.specs.declared.verdict.Verdict.{Verdict}
use Rattle.sdd_verify.specs.declared.verdict.Verdict.TheVariants as verdicts
use Rattle.sdd_certify.specs.Complete.{complete}
use Rattle.sdd_certify.specs.Due.{due}
use Rattle.sdd_certify.specs.Strict.{strict}
use Rattle.sdd_certify.specs.declared.due.Due.{Due}
use Rattle.sdd_certify.specs.declared.due.Due.TheVariants.{Line, NoReply, Open}
use Rattle.sdd_certify.specs.declared.finding.Finding.{Finding}
use Rattle.sdd_certify.specs.declared.finding.Finding.TheVariants.{At, NoOrder, Yes}

-- `no`, and the number of the line at fault
abbrev pub no_line : ℕ → List ℕ
no_line number = codes "no " ++ (decimal number ++ codes "\n")

-- a word, and a text to the end of the line
abbrev pub text_line : List ℕ → List ℕ → List ℕ
text_line word text = word ++ (text ++ codes "\n")

-- the line that is due
abbrev pub due_line : Due → List ℕ
due_line Open = []
due_line NoReply = codes "expected no reply\n"
due_line (Line line) = text_line (codes "expected ") line

-- whether the report is verified, and what is due where it isn't
abbrev pub serializable_lines : Verdict → Due → List ℕ
serializable_lines verdicts.Yes due = codes "serializable yes\n"
serializable_lines (verdicts.No number) due = codes "serializable " ++ (no_line number ++ due_line due)

-- what is found by a rule with this name, and before which word it names a transaction
abbrev pub finding_lines : List ℕ → List ℕ → Finding → List ℕ
finding_lines rule word Yes = rule ++ codes "yes\n"
finding_lines rule word (NoOrder number) = rule ++ no_line number
finding_lines rule word (At number name) = rule ++ (no_line number ++ text_line word name)

abbrev pub certificate : Catalogue → Workload → List ℕ → List ℕ
certificate cat work report =
    serializable_lines (verdict cat work report) (due cat work report (verdict cat work report))
    ++ (finding_lines (codes "complete ") (codes "missing ") (complete report) ++ finding_lines (codes "strict ") (codes "late ") (strict report))
