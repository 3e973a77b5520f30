use Rattle.sdd_progress.proofs.Handed.{all_handed, quiet_part}
use Rattle.sdd_progress.proofs.Still.{still_of}
use Rattle.sdd_progress.proofs.parts.law_handed.Goals as goal

pub returns : goal.returns
returns g = λ given log from to h link. all_handed given log from to (still_of given log h) (quiet_part given log from to h link) link
