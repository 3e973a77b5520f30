use Rattle.sdd_obligations.proofs.ReadsFit.{reads_are_readable}
use Rattle.sdd_obligations.proofs.dialogue_laws.law_reads.Goals as goal

pub returns : goal.returns
returns g = reads_are_readable
