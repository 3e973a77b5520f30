use Rattle.sdd_obligations.proofs.Upholding.{hand_d, hand_t, hand_u}
use Rattle.sdd_obligations.proofs.obligations_laws.law_hands.Goals as goal

pub returns-clause-at_d : goal.returns-clause-at_d
returns-clause-at_d g = hand_d

pub returns-clause-at_t : goal.returns-clause-at_t
returns-clause-at_t g = hand_t

pub returns-clause-at_u : goal.returns-clause-at_u
returns-clause-at_u g = hand_u
