use Rattle.sdd_inside_laws.proofs.WholeRead.{whole_read}
use Rattle.sdd_inside_laws.proofs.law.law_read_back.Goals as goal

pub returns : goal.returns
returns g = whole_read
