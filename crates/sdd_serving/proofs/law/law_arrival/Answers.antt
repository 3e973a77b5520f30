use Rattle.sdd_serving.proofs.Arrived.{serves_by_members}
use Rattle.sdd_serving.proofs.law.law_arrival.Goals as goal

pub returns : goal.returns
returns c = serves_by_members c.args.catalogue.now c.args.txn.now
