use Rattle.sdd_links.proofs.All.{OnOk, ap, changes, false, list_any, module_of, reads_at, subst, sym, unwrap_or, ◌++◌, ◌==◌, ◌∙◌, ◌≡◌}
use Rattle.sdd_links.proofs.Linking.{number_or, fragment_links_are}
use Rattle.sdd_links.proofs.reads.link_fragment.Goals as goal

pub returns : goal.returns
returns c =
    let cat = c.args.catalogue.now in
    let t = c.args.txn.now in
    let f = c.args.frag.0 in
    let unchanged : changes t f ≡ false =
    ap (λ cs. list_any (λ d. d.frag.0 == f) cs) (sym (c.changes.ensures)) ∙ sym (c.has_change.ensures) ∙ c.if-has_change.false in
    let at : c.unwrap_or-dm.result.0 ≡ module_of cat t.start.class f =
    ap (λ d. d.0) (c.unwrap_or-dm.ensures) ∙ number_or c.reads_at.result
    ∙ ap (λ o. unwrap_or o 0) (c.reads_at.ensures ∙ ap (λ k. reads_at cat k f) (c.class.ensures)) in
    let are = fragment_links_are cat c.args.marks.now c.args.txns.now c.args.writers.now c.args.reader t f c.unwrap_or-dm.result.0
    c.first_unseen-unseen.result c.get-of_frag.result.now unchanged at (c.get-of_frag.ensures) c.first_unseen-unseen.ensures.value in
    subst (λ more. OnOk c.link_between.result (c.link_between.new.links.items ≡ c.args.links.now.items ++ more)) are (c.link_between.ensures)
