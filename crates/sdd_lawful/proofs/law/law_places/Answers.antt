use Rattle.sdd_lawful.proofs.Places.{entries_in_order, event_there, made_at, recorded_there}
use Rattle.sdd_lawful.proofs.law.law_places.Goals as goal

pub returns-clause-made : goal.returns-clause-made
returns-clause-made g = made_at

pub returns-clause-is_recorded : goal.returns-clause-is_recorded
returns-clause-is_recorded g = recorded_there

pub returns-clause-event : goal.returns-clause-event
returns-clause-event g = event_there

pub returns-clause-in_order : goal.returns-clause-in_order
returns-clause-in_order g = entries_in_order
