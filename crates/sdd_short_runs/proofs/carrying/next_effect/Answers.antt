use Rattle.sdd_short_runs.proofs.All.{after_changes, ap, effect, ◌∙◌}
use Rattle.sdd_short_runs.proofs.Searching.{made_all}
use Rattle.sdd_short_runs.proofs.carrying.next_effect.Goals as goal

pub returns : goal.returns
returns c =
    let cat = c.args.catalogue.now in
    c.in_ok-found.ensures
    ∙ ap (λ db. effect cat db c.args.txn.now)
    (ap (after_changes cat c.args.base.now.value) (c.as_slice.ensures.value ∙ c.in_ok-changes.ensures) ∙ made_all cat c.args.base.now.value c.args.effects.now)
