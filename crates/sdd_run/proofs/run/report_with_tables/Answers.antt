use Rattle.sdd_run.proofs.All.{IsSoundCatalogue, input_of, subst, ◌∙◌}
use Rattle.sdd_run.proofs.Ordered.{orderable}
use Rattle.sdd_run.proofs.Reported.{last_homes, reported}
use Rattle.sdd_run.proofs.run.report_with_tables.Goals as goal

pub report_at_end-requires : goal.report_at_end-requires
report_at_end-requires c =
    let cat = c.args.catalogue.now in
    let tables = c.args.tables.now in
    let r = c.in_ok-world.ensures.run in
    let sound = subst IsSoundCatalogue (c.whole-whole.ensures ∙ c.requires.whole) c.law_is_sound.ensures.sound in (
      input_of cat tables c.args.work,
      r.log,
      orderable cat tables c.args.work sound c.requires.valid c.requires.tabled r.log r.log_is,
      r.represents,
    )

pub returns-clause-report : goal.returns-clause-report
returns-clause-report c =
    let cat = c.args.catalogue.now in
    let tables = c.args.tables.now in
    let tabled = c.requires.tabled in
    let r = c.in_ok-world.ensures.run in
    let given = input_of cat tables c.args.work in
    let sound = subst IsSoundCatalogue (c.whole-whole.ensures ∙ c.requires.whole) c.law_is_sound.ensures.sound in
    reported cat tables c.args.work r.log sound c.requires.valid tabled r.log_is c.in_ok-report_at_end.field-0
    (c.in_ok-report_at_end.ensures given r.log r.represents (last_homes cat tables c.args.work sound c.requires.valid tabled r.log r.log_is))
