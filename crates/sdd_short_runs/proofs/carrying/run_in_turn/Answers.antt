use Rattle.std.proofs.lemmas.Grind.{common_steps}
use Rattle.sdd_short_runs.proofs.All.{FitsTxn, arith}
use Rattle.sdd_short_runs.proofs.Turns.{fits_at}
use Rattle.sdd_short_runs.proofs.carrying.run_in_turn.Goals as goal

pub next_effect-requires-clause-fits : goal.next_effect-requires-clause-fits
next_effect-requires-clause-fits c =
    fits_at (FitsTxn c.args.catalogue.now) c.args.txns.now c.txns.txn-index c.txn-item.result (omega arith) c.txn-item.is c.requires.fit

pub returns : goal.returns
returns c = grind (arith, common_steps)

pub txns-init : goal.txns-init
txns-init c = grind (arith, common_steps)

pub txns-preserved : goal.txns-preserved
txns-preserved c = grind (arith, common_steps)
