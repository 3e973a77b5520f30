use Rattle.sdd_exec.proofs.All.{Effect, IfOk-weaker, chosen_for, effect, effect_over, found_for, served_effect, ◌∙◌, ◌≡◌}
use Rattle.sdd_exec.proofs.from_rows.effect.Goals as goal

pub returns : goal.returns
returns c =
    let snap = c.args.snap.now.value in
    let found : Effect = effect_over c.args.catalogue.now (found_for snap) (chosen_for c.args.catalogue.now snap) c.args.txn.now in
    λ db whole serves.
    IfOk-weaker c.effect_over.result (λ (e : Effect). e ≡ found) (λ (e : Effect). e ≡ effect c.args.catalogue.now db c.args.txn.now)
    (λ e same. same ∙ served_effect c.args.catalogue.now c.args.txn.now snap db whole serves) c.effect_over.ensures
