use Rattle.sdd_dm.proofs.All.{ap, first_unmet, waiting_in, ◌∙◌}
use Rattle.sdd_dm.proofs.Awaited.{awaited_is}
use Rattle.sdd_dm.proofs.data_module.DataModule.waits.Goals as goal

pub returns : goal.returns
returns c = λ s log represents few.
    awaited_is c.args.self.now s log c.args.class.0 c.args.ts.0 _ represents few
    (c.awaited_cond.ensures ∙ ap (λ v. first_unmet v.value.pipes (waiting_in v.value.pipes v.value.waits c.args.class.0 c.args.ts.0)) c.self.view_is)
