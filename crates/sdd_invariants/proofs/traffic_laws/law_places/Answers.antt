use Rattle.sdd_invariants.proofs.Made.{place_of_act, place_of_hand, place_of_submit}
use Rattle.sdd_invariants.proofs.traffic_laws.law_places.Goals as goal

pub returns-clause-act : goal.returns-clause-act
returns-clause-act g = place_of_act

pub returns-clause-hand : goal.returns-clause-hand
returns-clause-hand g = place_of_hand

pub returns-clause-submitted : goal.returns-clause-submitted
returns-clause-submitted g = place_of_submit
