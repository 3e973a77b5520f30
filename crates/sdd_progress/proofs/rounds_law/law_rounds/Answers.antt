use Rattle.sdd_progress.proofs.AllEnds.{link_back}
use Rattle.sdd_progress.proofs.Beginning.{events_of_round, has_event}
use Rattle.sdd_progress.proofs.rounds_law.law_rounds.Goals as goal

pub returns-clause-some_event : goal.returns-clause-some_event
returns-clause-some_event c = has_event

pub returns-clause-on_links : goal.returns-clause-on_links
returns-clause-on_links c = events_of_round

pub returns-clause-both_ways : goal.returns-clause-both_ways
returns-clause-both_ways c = link_back
