-- Reports past their limit have the same certificate.
use Rattle.std.proofs.Common.{Err, List, Ok, Result, arith, codes, false, le-leb, length, nat_le, refl, sym, true, ℕ, ◌++◌, ◌<◌, ◌∙◌, ◌≡◌}
use Rattle.std.proofs.lemmas.Bool.{lt-leb}
use Rattle.sdd_certify.specs.Certificate.{certificate, finding_lines, serializable_lines}
use Rattle.sdd_certify.specs.Due.{due_behind}
use Rattle.sdd_certify.specs.declared.due.Due.TheVariants.{Open}
use Rattle.sdd_certify.specs.declared.finding.Finding.TheVariants.{NoOrder}
use Rattle.sdd_certify.specs.script.declared.workload.Workload.{Workload}
use Rattle.sdd_certify.specs.verifying.Lines.{Numbered, lines_of, order_line_in}
use Rattle.sdd_certify.specs.verifying.declared.limits.TheConstants.{MAX_REPORT_BYTES}
use Rattle.sdd_certify.specs.verifying.declared.verdict.Verdict.TheVariants.{No}
use Rattle.sdd_lang.specs.All.{Catalogue}

-- no line is due before the first
none_due : (cat : Catalogue) (work : Workload) (at : Result (ℕ × List ℕ × Numbered) ℕ) → due_behind cat work 0 at ≡ Open
none_due cat work (Ok at) = let yes : nat_le 0 at.0 ≡ true = le-leb 0 at.0 (omega arith) in rw yes refl
none_due cat work (Err lines) = refl

abbrev too_long : List ℕ
too_long =
    serializable_lines (No 0) Open
    ++ (finding_lines (codes "complete ") (codes "missing ") (NoOrder 0) ++ finding_lines (codes "strict ") (codes "late ") (NoOrder 0))

long_report : (cat : Catalogue) (work : Workload) (bytes : List ℕ) → MAX_REPORT_BYTES < length bytes → certificate cat work bytes ≡ too_long
long_report cat work bytes long =
    let no : nat_le (length bytes) MAX_REPORT_BYTES ≡ false = lt-leb (length bytes) MAX_REPORT_BYTES long in
    rw (no, none_due cat work (order_line_in 1 (lines_of bytes))) refl

pub long_reports : (cat : Catalogue) (work : Workload) (a b : List ℕ) → MAX_REPORT_BYTES < length a → MAX_REPORT_BYTES < length b
    → certificate cat work a ≡ certificate cat work b
long_reports cat work a b la lb = long_report cat work a la ∙ sym (long_report cat work b lb)
