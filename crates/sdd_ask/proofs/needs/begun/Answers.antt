use Rattle.sdd_ask.proofs.All.{IfOk, begins, flag_at, flags_of, subst, ◌∙◌, ◌≡◌}
use Rattle.sdd_ask.proofs.needs.begun.Goals as goal

pub returns : goal.returns
returns c =
    subst (λ z. IfOk c.begins.result (λ flags. flags.items ≡ flags_of (begins (flag_at z) (flag_at c.args.passing.now))))
    (c.as_slice.ensures.value ∙ c.in_ok-awaited.ensures) c.begins.ensures
