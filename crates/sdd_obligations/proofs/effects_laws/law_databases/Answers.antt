use Rattle.sdd_obligations.proofs.Put.{databases}
use Rattle.sdd_obligations.proofs.effects_laws.law_databases.Goals as goal

pub returns : goal.returns
returns g = λ given log good h. databases given good log h
