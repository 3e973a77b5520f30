use Rattle.sdd_obligations.proofs.logs.AsLists.{between_rounds}
use Rattle.sdd_obligations.specs.logs.Marks.{ahead, events_ahead}
use Rattle.sdd_progress.proofs.Beginning.{round_begins}
use Rattle.sdd_progress.proofs.Counted.{few_complete, few_rounds, few_within}
use Rattle.sdd_progress.proofs.rounds_law.law_rounds_end.Goals as goal

pub returns-clause-begins : goal.returns-clause-begins
returns-clause-begins c = λ given log events is.
    let begins = round_begins given log events is in
    (events_ahead (ahead given.events log), between_rounds given.events log begins.0, begins.1, begins.2)

pub returns-clause-few : goal.returns-clause-few
returns-clause-few c = few_rounds

pub returns-clause-within : goal.returns-clause-within
returns-clause-within c = few_within

pub returns-clause-complete : goal.returns-clause-complete
returns-clause-complete c = few_complete
