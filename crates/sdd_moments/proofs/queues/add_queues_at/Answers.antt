use Rattle.sdd_moments.proofs.All.{T, ap, local_of, map, queue_in, setting_of, takes_at, ◌++◌, ◌∙◌}
use Rattle.sdd_moments.proofs.Queued.{keeps_its_log}
use Rattle.sdd_moments.proofs.Queued.{queues_reported}
use Rattle.sdd_moments.proofs.queues.add_queues_at.Goals as goal

pub txn_module-requires : goal.txn_module-requires
txn_module-requires c =
    let r = c.requires in
    let at = T c.args.tm in
    (takes_at at r.1, setting_of r.0 at, local_of r.0 at r.1, c.sites.ensures r.0 r.1 r.2 at r.3)

pub returns : goal.returns
returns c = λ g log calm here.
    let at = T c.args.tm in
    let part = takes_at at log in
    let s = setting_of g at in
    let own = local_of g at log in
    let keeps = keeps_its_log part c.txn_module.result.now s own (c.txn_module.ensures part s own (c.sites.ensures g log calm at here)) in
    c.in_ok-add_queues.ensures
    ∙ ap (λ qs. c.args.queues.now.items ++ qs)
    (ap (map queue_in) c.classes.ensures ∙ queues_reported g log c.args.tm c.txn_module.result.now keeps)
