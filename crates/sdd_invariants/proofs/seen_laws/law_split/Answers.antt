use Rattle.sdd_invariants.proofs.Applied.{split_applied}
use Rattle.sdd_invariants.proofs.seen_laws.law_split.Goals as goal

pub returns : goal.returns
returns g = split_applied
