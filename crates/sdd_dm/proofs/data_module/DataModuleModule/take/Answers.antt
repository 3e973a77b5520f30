use Rattle.sdd_dm.proofs.All.{ap, sym}
use Rattle.sdd_dm.proofs.Taking.{take_does}
use Rattle.sdd_dm.proofs.data_module.DataModuleModule.take.Goals as goal

pub returns-clause-law : goal.returns-clause-law
returns-clause-law c s bases log represents fit =
    take_does s bases log c.args.from c.args.msg c.args.self.now c.self.inside.parts c.work.new.self c.in_ok-draft.draft c.finish.result.recs
    c.finish.result.out
    (sym (ap (λ v. v.value) c.self.view_is)) c.in_ok-draft.ensures.worked c.in_ok-draft.ensures.quiet c.finish.ensures.recs c.finish.ensures.out represents fit
