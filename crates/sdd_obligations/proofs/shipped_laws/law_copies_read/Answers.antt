use Rattle.sdd_obligations.proofs.Copied.{copies_are}
use Rattle.sdd_obligations.proofs.shipped_laws.law_copies_read.Goals as goal

pub returns : goal.returns
returns g = λ given class log attempt good one h is over. copies_are given good one class log attempt h is over
