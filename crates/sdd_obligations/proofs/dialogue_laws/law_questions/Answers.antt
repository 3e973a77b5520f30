use Rattle.sdd_obligations.proofs.Comes.{questions_are_servable}
use Rattle.sdd_obligations.proofs.dialogue_laws.law_questions.Goals as goal

pub returns : goal.returns
returns g = questions_are_servable
