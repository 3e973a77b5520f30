use Rattle.sdd_run.proofs.All.{input_of, refl}
use Rattle.sdd_run.proofs.Reported.{summed_up}
use Rattle.sdd_run.proofs.run.summary_with_tables.Goals as goal

pub returns-clause-summary : goal.returns-clause-summary
returns-clause-summary c =
    let cat = c.args.catalogue.now in
    let tables = c.args.tables.now in
    let r = c.in_ok-world.ensures.run in
    summed_up cat tables c.args.work c.in_ok-world.world c.requires.tabled r
    c.in_ok-summary_text.field-0.items c.summary_at_end-summary.result c.as_slice.result.now
    _ _ c.in_ok-summary_text.ensures (c.summary_at_end-summary.ensures (input_of cat tables c.args.work) r.log r.represents)
    c.as_slice.ensures refl refl
