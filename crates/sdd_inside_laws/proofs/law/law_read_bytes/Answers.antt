use Rattle.std.proofs.Common.{ap, ◌∙◌}
use Rattle.sdd_inside_laws.proofs.TextRead.{told_read}
use Rattle.sdd_inside_laws.proofs.law.law_read_bytes.Goals as goal
use Rattle.sdd_inside_laws.specs.TextReader.{by_names, read_told}
use Rattle.sdd_inside_read.proofs.LineRead.{line_again}

pub returns : goal.returns
returns g cat txns change before own are small =
    ap (λ t. read_told t (by_names cat txns before)) (line_again cat txns change small) ∙ told_read cat txns own change before are
