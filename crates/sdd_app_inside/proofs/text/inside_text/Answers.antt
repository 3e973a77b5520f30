use Rattle.sdd_app_inside.proofs.All.{AllZip, IsTable, eras_in, subst, sym, ◌∙◌}
use Rattle.sdd_app_inside.proofs.text.inside_text.Goals as goal

pub text_with_tables-requires-clause-tabled : goal.text_with_tables-requires-clause-tabled
text_with_tables-requires-clause-tabled c =
    let cat = c.args.catalogue.now in
    subst (λ ts. AllZip IsTable (eras_in cat c.args.work) ts) (sym c.as_slice.ensures.value)
    (subst (λ cats. AllZip IsTable cats c.in_ok-tables.tables.items) (c.eras.ensures ∙ c.in_ok-lists.ensures.eras) c.in_ok-tables.ensures)
