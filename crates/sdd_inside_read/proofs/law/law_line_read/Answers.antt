use Rattle.sdd_inside_read.proofs.LineRead.{line_again}
use Rattle.sdd_inside_read.proofs.law.law_line_read.Goals as goal

pub returns : goal.returns
returns g = line_again
