use Rattle.sdd_inside_read.proofs.LinesRead.{lines_again}
use Rattle.sdd_inside_read.proofs.law.law_lines_read.Goals as goal

pub returns : goal.returns
returns g = lines_again
