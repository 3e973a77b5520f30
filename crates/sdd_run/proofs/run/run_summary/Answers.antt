use Rattle.sdd_run.proofs.All.{AllZip, IsTable, eras_in, subst, sym, ◌∙◌}
use Rattle.sdd_run.proofs.run.run_summary.Goals as goal

pub summary_with_tables-requires-clause-tabled : goal.summary_with_tables-requires-clause-tabled
summary_with_tables-requires-clause-tabled c =
    let cat = c.args.catalogue.now in
    subst (λ ts. AllZip IsTable (eras_in cat c.args.work) ts) (sym c.as_slice.ensures.value)
    (subst (λ cats. AllZip IsTable cats c.in_ok-tables.tables.items) (c.eras.ensures ∙ c.in_ok-lists.ensures.eras) c.in_ok-tables.ensures)
