use Rattle.std.proofs.Common.{arith}
use Rattle.std.proofs.lemmas.Grind.{common_steps}
use Rattle.sdd_advise.proofs.spelling.put_first_line.Goals as goal

pub returns-in_ok-put_writer-in-Diagonal : goal.returns-in_ok-put_writer-in-Diagonal
returns-in_ok-put_writer-in-Diagonal c = grind (arith, common_steps)
