use Rattle.sdd_run.proofs.All.{arith, eras_with_tables}
use Rattle.sdd_run.proofs.Lending.{all_lent, as_many, lent_more}
use Rattle.sdd_run.proofs.era_lists.further.Goals as goal

pub places-preserved : goal.places-preserved
places-preserved c =
    lent_more (eras_with_tables c.args.eras.now c.args.tables.now) c.places.place c.list_at.result c.places.lists.items _ c.list_at.ensures
    c.places.auto.place c.in_ok-push.ensures.items c.places.invariant

pub returns : goal.returns
returns c =
    let all = as_many c.args.eras.now c.args.tables.now c.requires in
    all_lent (eras_with_tables c.args.eras.now c.args.tables.now) c.places.place c.places.lists.items (omega (arith, all)) c.places.invariant
