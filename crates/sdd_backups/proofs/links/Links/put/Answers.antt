use Rattle.sdd_backups.proofs.All.{[], ◌++◌, ◌∷◌}
use Rattle.sdd_backups.proofs.Queues.{queue_changed}
use Rattle.sdd_backups.proofs.links.Links.put.Goals as goal

pub returns : goal.returns
returns c =
    queue_changed (λ messages. messages ++ c.args.message ∷ []) c.self.inside.queues.items
    c.args.self.now c.args.link c.index_mut.result.now c.push_back.new.self
    c.self.view_is c.requires c.index_mut.ensures.value c.in_ok-push_back.ensures.items
