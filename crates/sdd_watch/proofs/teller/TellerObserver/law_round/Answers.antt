use Rattle.sdd_watch.proofs.Followed.{tells_round}
use Rattle.sdd_watch.proofs.teller.TellerObserver.law_round.Goals as goal

pub returns : goal.returns
returns c = λ g events log h. tells_round g events log c.args.self.now h
