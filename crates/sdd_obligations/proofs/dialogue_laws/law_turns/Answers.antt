use Rattle.sdd_obligations.proofs.ExchangesGoByTurns.{spoken}
use Rattle.sdd_obligations.proofs.dialogue_laws.law_turns.Goals as goal

pub returns : goal.returns
returns g = λ given class d ts log h few. (spoken given class log h few).stages ts d.0
