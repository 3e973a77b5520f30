use Rattle.sdd_backups.proofs.All.{drop}
use Rattle.sdd_backups.proofs.Queues.{queue_changed}
use Rattle.sdd_backups.proofs.links.Links.take.Goals as goal

pub returns : goal.returns
returns c =
    queue_changed (drop 1) c.self.inside.queues.items c.args.self.now c.args.link
    c.index_mut.result.now c.pop_front-first.new.self
    c.self.view_is c.requires c.index_mut.ensures.value c.pop_front-first.ensures.rest
