use Rattle.sdd_short_runs.proofs.All.{FitsTxn}
use Rattle.sdd_short_runs.proofs.Turns.{fits_at}
use Rattle.sdd_short_runs.proofs.orders.effect_of.Goals as goal

pub effect_after-requires-clause-fits : goal.effect_after-requires-clause-fits
effect_after-requires-clause-fits c =
    fits_at (FitsTxn c.args.run.now.catalogue.now) c.args.run.now.txns.now c.args.number c.index-txns-number.result c.requires.there
    c.index-txns-number.is c.requires.tried.fit
