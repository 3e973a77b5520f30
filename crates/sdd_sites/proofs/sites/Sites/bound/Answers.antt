use Rattle.sdd_sites.proofs.All.{LivesT, ◌-◌}
use Rattle.sdd_sites.proofs.TxnModules.{is_live, queues, read_at}
use Rattle.sdd_sites.proofs.sites.Sites.bound.Goals as goal

pub bound-requires : goal.bound-requires
bound-requires c =
    let r = c.requires in
    is_live r.0 c.index-module.result.now r.1 r.2
    (read_at (LivesT r.0) c.args.self.now.tms.items (c.args.tm.0 - 1) c.index-module.result.now r.1 r.2 c.index-module.ensures r.3.1)

pub returns : goal.returns
returns c = λ part setting log h.
    c.bound.ensures setting log (queues part c.index-module.result.now setting log
    (read_at (LivesT part) c.args.self.now.tms.items (c.args.tm.0 - 1) c.index-module.result.now setting log c.index-module.ensures h.1))
