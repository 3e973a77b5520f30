use Rattle.sdd_sites.proofs.TxnModules.{queued_at}
use Rattle.sdd_sites.proofs.sites.Sites.queue.Goals as goal

pub returns-clause-law : goal.returns-clause-law
returns-clause-law c =
    queued_at c.args.self.now.u c.args.self.now.tms.items c.queue_in.new.modules.items c.args.self.now.dms.items
    c.args.at c.in-T.n c.args.number c.args.txn.now c.queue_in.result c.in-T.is
    c.queue_in.ensures.law
