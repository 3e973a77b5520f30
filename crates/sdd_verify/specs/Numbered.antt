-- What is left of a report, as the code holds it.
use Rattle.sdd_verify.specs.Lines.{Numbered, lines_of}
use Rattle.sdd_verify.specs.declared.lines.Lines.{Lines}

-- its lines, with the number of the first of them
abbrev pub numbered : Lines → Numbered
numbered lines = (lines.number, lines_of lines.bytes.now)
