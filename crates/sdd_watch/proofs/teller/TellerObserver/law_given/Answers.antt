use Rattle.sdd_watch.proofs.Followed.{foresees_given, tells_given}
use Rattle.sdd_watch.proofs.teller.TellerObserver.law_given.Goals as goal

pub returns-clause-followed : goal.returns-clause-followed
returns-clause-followed c = λ g added log lawful h. tells_given g added log c.args.self.now lawful h

pub returns-clause-awaited : goal.returns-clause-awaited
returns-clause-awaited c = λ g added log e lawful h. foresees_given g added log e c.args.self.now lawful h
