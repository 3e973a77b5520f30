use Rattle.std.proofs.Common.{arith}
use Rattle.std.proofs.lemmas.Grind.{elements}
use Rattle.sdd_sites.proofs.All.{get-set_other, slice_set, ◌-◌}
use Rattle.sdd_sites.proofs.TxnModules.{if_any, resumed_at, t_stays}
use Rattle.sdd_sites.proofs.sites.Sites.resume.Goals as goal

pub returns-clause-law : goal.returns-clause-law
returns-clause-law c =
    resumed_at c.args.self.now.tms.items c.args.tm c.index_mut-module.result.now c.resume.new.self c.resume.result c.index_mut-module.ensures.value
    c.resume.ensures.law c.resume.ensures.lives_on

pub returns-clause-others : goal.returns-clause-others
returns-clause-others c =
    if_any c.resume.result _
    (t_stays c.args.self.now.u c.args.self.now.tms.items (slice_set c.args.self.now.tms.items (c.args.tm.0 - 1) c.resume.new.self) c.args.self.now.dms.items
    c.args.tm c.requires.3.0 (λ k ne. get-set_other c.args.self.now.tms.items (c.args.tm.0 - 1) k c.resume.new.self ne))

pub resume-requires-clause-lives : goal.resume-requires-clause-lives
resume-requires-clause-lives c = grind (arith, elements)

pub resume-requires-clause-queues : goal.resume-requires-clause-queues
resume-requires-clause-queues c = grind (arith, elements)
