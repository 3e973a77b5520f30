use Rattle.sdd_obligations.proofs.Answered.{answers_are_awaited}
use Rattle.sdd_obligations.proofs.dialogue_laws.law_answers.Goals as goal

pub returns : goal.returns
returns g = answers_are_awaited
