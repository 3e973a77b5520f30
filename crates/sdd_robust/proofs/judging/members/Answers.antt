use Rattle.sdd_robust.proofs.Workloads.{rows_fit, txns_fit}
use Rattle.sdd_robust.proofs.judging.members.Goals as goal

pub members_in-requires-clause-rows : goal.members_in-requires-clause-rows
members_in-requires-clause-rows c = rw c.as_slice.ensures (rows_fit c.args.catalogue.now c.args.work.now c.requires)

pub members_in-requires-clause-txns : goal.members_in-requires-clause-txns
members_in-requires-clause-txns c = rw c.as_slice-2.ensures (txns_fit c.args.catalogue.now c.args.work.now c.requires)
