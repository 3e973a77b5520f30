use Rattle.std.proofs.Common.{arith}
use Rattle.std.proofs.lemmas.Grind.{elements}
use Rattle.sdd_sites.proofs.All.{get-set_other}
use Rattle.sdd_sites.proofs.TxnModules.{queued_in}
use Rattle.sdd_sites.proofs.sites.queue_in.Goals as goal

pub returns-clause-law : goal.returns-clause-law
returns-clause-law c =
    queued_in c.args.modules.now.items c.args.at c.index_mut-module.result.now c.queue_in_class.new.self c.queue_in_class.result
    c.index_mut-module.ensures.value
    c.args.number c.args.txn.now c.queue_in_class.ensures.law c.queue_in_class.ensures.lives_on

pub returns-clause-others : goal.returns-clause-others
returns-clause-others c = λ k ne. get-set_other c.args.modules.now.items c.args.at k c.queue_in_class.new.self ne

pub queue_in_class-requires-clause-lives : goal.queue_in_class-requires-clause-lives
queue_in_class-requires-clause-lives c = grind (arith, elements)

pub queue_in_class-requires-clause-queues : goal.queue_in_class-requires-clause-queues
queue_in_class-requires-clause-queues c = grind (arith, elements)
