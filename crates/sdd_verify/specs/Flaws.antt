-- The line that ends the judging of a report.
use Rattle.std.specs.Prelude.{ℕ, Option, Some, None}
use Rattle.sdd_verify.specs.declared.flaw.Flaw.{Flaw}
use Rattle.sdd_verify.specs.declared.flaw.Flaw.TheVariants.{Line, NoMemory}

-- the line at fault; none where memory ran out
abbrev pub line_in : Flaw → Option ℕ
line_in (Line number) = Some number
line_in NoMemory = None
